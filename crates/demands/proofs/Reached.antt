-- Once both cards are loaded, a good request is confirmed in three calls.
use Rattle.std.specs.Prelude.{Some}
use mathlib.Core.Path.{◌≡◌, refl, sym, ap, ◌∙◌, subst}
use mathlib.Core.List.Memᴰ
use mathlib.Core.List.{List, [], ◌∷◌, ◌++◌}
use mathlib.Core.Logic.{◌⊎◌, inl, inr}
use Prim.Native.Nat.{◌≤◌}
use native.Mathlib.Omega.{arith}
use lib.ListN.{length}
use Rattle.octets.specs.Text.{Text}
use Rattle.keying.specs.declared.Top.{Top}
use Rattle.csm.specs.Message.{Reading, read}
use Rattle.csm.proofs.Claims as csm
use Rattle.partner.specs.Entry.{top_of}
use Rattle.partner.specs.Changes.{loaded}
use Rattle.partner.specs.Table.{Table}
use Rattle.image.proofs.Claims.{claims}
use Rattle.calls.specs.Calls.{entry_of}
use Rattle.calls.specs.Good.{GoodRequest}
use Rattle.calls.specs.Steps.{Partners}
use Rattle.request.specs.Request.{request_in}
use Rattle.line.specs.Line.{◌∈◌, texts, entry_for}
use Rattle.demands.specs.Face.{receive, build_ksm, put_out, kept, sent}
use Rattle.demands.specs.Terms.{Bytes, Exchange, built, taken, confirming, Exchanged}
use Rattle.demands.specs.Hosts.{Hosts, Allowed, at_a, at_b, Reach, begin, step_a, step_b, Loaded, Confirms}
use Rattle.demands.proofs.Second.{stored_of, exchange}

-- a message that is sent is in the list, and nothing else is
in_texts : (w : Text) (r : Reading) → read w ≡ Some r → w ∈ texts w
unfolding texts
in_texts [] r h = absurd (omega (arith, ((csm.claims).message_text [] r h).some_byte))
in_texts (x ∷ w) r h = Memᴰ.head refl

of_texts : (w t : Text) → t ∈ texts w → t ≡ w
unfolding texts
of_texts [] t h = absurd (Memᴰ.not-nil h)
of_texts (x ∷ w) t h = Memᴰ.eq_of_singleton h

module _ (a b name : Text) (top : Top) (h₀ : Hosts) (request buffer : Text) (k : Loaded a b name top h₀)
    (octets : Bytes request) (good : GoodRequest (entry_for name top b) (request_in request))
    (roomy : 256 ≤ length buffer) where
  abbrev t : Table
  t = k.afresh.card_a.table

  abbrev u : Table
  u = k.afresh.card_b.table

  abbrev x : Exchange
  x = record {
    a = h₀.a;
    b = h₀.b;
    partner = b;
    request = request;
    first = buffer;
    second = buffer;
    third = buffer;
  }

  partners : Partners t u (entry_for name top b) (entry_for name top a)
  unfolding loaded top_of
  partners =
      let p = k.afresh.card_a in
      let q = k.afresh.card_b in
      record {
        ours = (claims.read_then_write h₀.a t p.legal).0;
        theirs = (claims.read_then_write h₀.b u q.legal).0;
        our_entry = ap (λ (w : Text). entry_of w t) q.fresh.identity
            ∙ sym (stored_of h₀.a b t p.legal) ∙ k.for_b;
        their_entry = ap (λ (w : Text). entry_of w u) p.fresh.identity
            ∙ sym (stored_of h₀.b a u q.legal) ∙ k.for_a;
        same_top = refl;
        same_name = refl;
        in_step = omega arith;
      }

  exchanged : Exchanged x (entry_for name top b)
  exchanged =
      let p = k.afresh.card_a in
      let q = k.afresh.card_b in
      exchange x t u (entry_for name top b) (entry_for name top a) p.bytes q.bytes octets p.legal q.legal
      (sym q.fresh.identity) partners good roomy roomy roomy

  abbrev h₁ : Hosts
  h₁ = at_a h₀ buffer (build_ksm b request)

  abbrev h₂ : Hosts
  h₂ = at_b a h₁ buffer (receive (put_out (built x)))

  abbrev h₃ : Hosts
  h₃ = at_a h₂ buffer (receive (put_out (taken x)))

  reach : Reach a b name top h₀ h₃
  unfolding Allowed sent kept
  reach =
      step_a (step_b (step_a begin buffer (build_ksm b request) octets tt) buffer (receive (put_out (built x))) tt
      (λ r p o. Memᴰ.append_left _ (in_texts (put_out (built x)) r p))) buffer (receive (put_out (taken x))) tt
      (λ r p o. Memᴰ.append_left _ (in_texts (put_out (taken x)) r p))

  -- A has written the one key message
  only : (w : Text) → w ∈ h₃.from_a → w ≡ put_out (built x)
  unfolding sent kept texts
  only w m = go (Memᴰ.append_cases (texts (put_out (confirming x))) m)
    where
      rest : (w ∈ texts (put_out (built x))) ⊎ (w ∈ h₀.from_a) → w ≡ put_out (built x)
      rest (inl p) = of_texts (put_out (built x)) w p
      rest (inr p) = absurd (Memᴰ.not-nil (subst (λ (l : List Text). w ∈ l) k.afresh.a_silent p))

      go : (w ∈ texts (put_out (confirming x))) ⊎ (w ∈ (texts (put_out (built x)) ++ h₀.from_a))
          → w ≡ put_out (built x)
      go (inl p) =
          absurd (Memᴰ.not-nil (subst (λ (v : Text). w ∈ texts v) exchanged.no_reply p))
      go (inr p) = rest (Memᴰ.append_cases (texts (put_out (built x))) p)

  pub confirms : Confirms a b name top h₀ (request_in request)
  unfolding kept
  confirms = record {
    later = h₃;
    run = reach;
    distinct = λ v w m n p q r s e. only v p ∙ sym (only w q);
    for_b = exchanged.ours;
    held = exchanged.our_entry;
    phase = exchanged.phase;
    keys = exchanged.requested;
  }
