-- Demand 3.
use Rattle.std.specs.Prelude.{Some}
use mathlib.Core.Path.{◌≡◌, sym, ap, ◌∙◌, subst}
use Rattle.octets.specs.Text.{Text}
use Rattle.octets.specs.Part.{bare}
use Rattle.keying.specs.declared.Top.{Top}
use Rattle.csm.proofs.TextLaws.{some_inj}
use Rattle.partner.specs.Entry.{name_of}
use Rattle.partner.specs.Table.{started}
use Rattle.calls.specs.Calls.{run}
use Rattle.calls.specs.Calls as steps
use Rattle.card.specs.Whole.{top_in}
use Rattle.card.proofs.Tables.{own_is}
use Rattle.line.specs.Line as line
use Rattle.line.proofs.Theorem.{claims}
use Rattle.demands.specs.Face.{load, Left, left, leaves, start_leaves, put_out, kept}
use Rattle.demands.specs.Terms.{Bytes, our_identity, loading}
use Rattle.demands.specs.Hosts.{Fresh}
use Rattle.demands.specs.Demands.{Demand3}
use Rattle.demands.proofs.Ways.{Way, refuses, makes, way, Beginning, starts, beginning}
use Rattle.demands.proofs.Starting.{start_is, started_read, started_bytes, written_started}
use Rattle.demands.proofs.Stepping.{in_bytes_answer, as_stepped, kept_bytes}
use Rattle.demands.proofs.Ends.{asked_alike}
use Rattle.demands.proofs.Runs.{agreement, as_told, rise}
use Rattle.demands.proofs.Reached.{confirms}

module _ (name : Text) (top : Top) where
  begins : (own other out : Text) (l : Left) → Beginning own out l → l.answer ≡ 0
      → Fresh name top own other (put_out l)
  unfolding left
  begins own other out l (Beginning.refuses n m h) z = absurd (h z)
  begins own other out l (starts n) z =
      subst (Fresh name top own other) (sym (written_started own n out)) (record {
        bytes = started_bytes own n;
        table = started (name_of own);
        legal = started_read own n;
        fresh = (claims own other name top).started own other (started (name_of own)) (start_is own n);
      })

  loads : (image buffer other key : Text) (l : Left) → Bytes image → Bytes key → top_in key ≡ Some top
      → Way image buffer (load other name key) l → l.answer ≡ 0
      → Fresh name top (our_identity image) other (kept (load other name key) l)
  unfolding left
  loads image buffer other key l octets o k (refuses n m h j) z = absurd (h z)
  loads image buffer other key l octets o k (makes t d is e) z =
      let p : steps.load other name top ≡ d = some_inj (ap (loading other name) (sym k) ∙ e) in
      let c = load other name key in
      record {
        bytes = kept_bytes image buffer t octets is c d o e;
        table = (run t d).table;
        legal = (as_stepped image buffer t octets is c d o e).table;
        fresh = subst (λ (x : steps.Call). (run t x).outcome.answer ≡ 0
            → line.Fresh name top (our_identity image) other (run t x).table) p
            ((claims (our_identity image) other name top).just_loaded (our_identity image) other t
            (ap bare (sym (own_is image t is))))
            (sym (in_bytes_answer c (run t d)) ∙ z);
      }

pub demand_3 : (a b name : Text) (top : Top) → Demand3 a b name top
demand_3 a b name top = record {
  agreement = agreement a b name top;
  as_told = as_told a b name top;
  rise = rise a b name top;
  started = λ own other out. begins name top own other out (start_leaves own out) (beginning own out);
  just_loaded = λ image buffer other key octets o k.
      loads name top image buffer other key (leaves image buffer (load other name key)) octets o k
      (way image buffer (load other name key));
  confirmed_is_reached = confirms a b name top;
  asked_alike = asked_alike name top;
  cards = claims a b name top;
}
