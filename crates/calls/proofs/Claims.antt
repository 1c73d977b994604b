-- The claims of specs/Claims.antt, proved.
use mathlib.Core.Path.{◌≡◌, refl, sym, ◌∙◌, subst}
use mathlib.Core.List.{[]}
use mathlib.Core.Logic.{◌⊎◌, inl, inr}
use Prim.Native.Nat.{ℕ}
use Rattle.octets.specs.Text.{Text}
use Rattle.octets.specs.Part.{bare}
use Rattle.keying.specs.declared.Top.{Top}
use Rattle.csm.specs.Message.{Reading, Esm, esm}
use Rattle.csm.proofs.TextLaws.{some_inj}
use Rattle.partner.specs.declared.Entry.{Entry}
use Rattle.partner.specs.Table.{Table}
use Rattle.calls.specs.Outcome.{Turn}
use Rattle.calls.specs.Receive as by_class
use Rattle.calls.specs.Calls.{Call, receive, about, load, After, run}
use Rattle.calls.specs.Claims.{Claims, Carries, OfOneEntry, subject, Writes}
use Rattle.calls.proofs.Tests.{by_case}
use Rattle.calls.proofs.Effects.{Walk, stops, receives, run_walk, run_effect}
use Rattle.calls.proofs.Laws.{keeps, bares, complains, writes, owns, rows, legals, counts}
use Rattle.calls.proofs.Decides.{alike}

mute_esm : (us : Text) (e : Entry) (text : Text) (m : Esm) → (by_class.receive us e text (esm m)).outcome.reply ≡ []
unfolding by_class.receive by_class.receive_esm
mute_esm us e text m = by_case (λ (r : Turn). r.outcome.reply ≡ []) _ _ _ (λ _. refl) (λ _. refl)

-- no ESM is ever answered
silent : (t : Table) (room : ℕ) (text us them : Text) (m : Esm) → Carries them us (esm m) text
    → (run t (receive room text)).outcome.reply ≡ []
silent t room text us them m h = go (run_walk t (receive room text))
  where
    go : {a : After} → Walk t (receive room text) a → a.outcome.reply ≡ []
    go (stops c n k) = refl
    go (receives _ _ r e l q u k) =
        subst (λ (x : Reading). (by_class.receive (bare t.own) e text x.body).outcome.reply ≡ [])
        (some_inj (sym h ∙ q)) (mute_esm (bare t.own) e text m)

all_but : (c : Call) → OfOneEntry c ⊎ ((id name : Text) × (top : Top) × (c ≡ load id name top))
all_but (receive room text) = inl tt
all_but (about id a) = inl tt
all_but (load id name top) = inr (id, name, top, refl)

pub claims : Claims
claims = record {
  unless_done_nothing_changes = λ t c. keeps t (subject c) (Writes (bare t.own) c) (run t c) (run_effect t c);
  refusals_are_bare = λ t c. bares t (subject c) (Writes (bare t.own) c) (run t c) (run_effect t c);
  errors_are_answered = λ t c. complains t (subject c) (Writes (bare t.own) c) (run t c) (run_effect t c);
  replies = λ t c. writes t (subject c) (Writes (bare t.own) c) (run t c) (run_effect t c);
  no_esm_is_answered = silent;
  own_stays = λ t c. owns t (subject c) (Writes (bare t.own) c) (run t c) (run_effect t c);
  others_stay = λ t c. rows t (subject c) (Writes (bare t.own) c) (run t c) (run_effect t c);
  stays_legal = λ t c. legals t (subject c) (Writes (bare t.own) c) (run t c) (run_effect t c);
  counts_never_fall = λ t c e f. counts t (subject c) (Writes (bare t.own) c) (run t c) e f (run_effect t c);
  one_entry_decides = alike;
  all_but_load = all_but;
}
