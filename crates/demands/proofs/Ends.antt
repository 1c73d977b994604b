-- One host's call, and the call that the card of crate `line` makes.
use Rattle.std.specs.Prelude.{Option, None, Some}
use mathlib.Core.Path.{◌≡◌, refl, sym, ap, ◌∙◌, subst}
use mathlib.Core.List.{List, []}
use mathlib.Core.Logic.{◌≢◌, ◌↔◌}
use Prim.Native.Nat.{ℕ}
use lib.Dec.{eqb}
use lib.ListN.{length}
use borrow.Author.Tests.{ne_eqb}
use Rattle.octets.specs.Text.{Text}
use Rattle.octets.specs.Number.{number}
use Rattle.keying.specs.declared.Top.{Top}
use Rattle.csm.proofs.TextLaws.{some_inj, none_some}
use Rattle.partner.specs.Table.{Table}
use Rattle.image.specs.Image.{decode}
use Rattle.calls.specs.Calls.{run}
use Rattle.calls.specs.Calls as steps
use Rattle.calls.proofs.Tests.{if_false}
use Rattle.card.specs.Whole.{top_in}
use Rattle.line.specs.Line.{texts}
use Rattle.line.specs.Line as line
use Rattle.demands.specs.Face.{Call, receive, build_ksm, build_rsi, ask, give_up, load, remove, Left, left}
use Rattle.demands.specs.Face.{length_told, put_out, new_image, kept, sent}
use Rattle.demands.specs.Terms.{Bytes, OfBytes, refused, loading, step_of}
use Rattle.demands.specs.Hosts.{counted, Allowed}
use Rattle.demands.proofs.Silence.{give_up_silent, load_silent, remove_silent, ask_silent}
use Rattle.demands.proofs.Ways.{stepped, Way, refuses, makes}
use Rattle.demands.proofs.Keeping.{request_sized}
use Rattle.demands.proofs.Stepping.{in_bytes_answer, as_stepped, kept_bytes}

-- ---- one end

-- a refusal: the same image is kept, nothing is sent, nothing accepted
module _ (n : ℕ) (not_done : n ≢ 0) (image buffer : Text) where
  refused_kept : (c : Call) → kept c (refused n image buffer) ≡ image
  unfolding kept new_image
  refused_kept (receive text) = refl
  refused_kept (build_ksm partner request) = refl
  refused_kept (build_rsi partner service) = refl
  refused_kept (ask partner) = refl
  refused_kept (give_up partner) = refl
  refused_kept (load partner name key) = if_false (eqb n 0) _ _ (ne_eqb n 0 not_done)
  refused_kept (remove partner) = if_false (eqb n 0) _ _ (ne_eqb n 0 not_done)

  refused_sent : (c : Call) → sent c (refused n image buffer) ≡ []
  unfolding sent texts put_out length_told number
  refused_sent (receive text) = refl
  refused_sent (build_ksm partner request) = refl
  refused_sent (build_rsi partner service) = refl
  refused_sent (ask partner) = refl
  refused_sent (give_up partner) = refl
  refused_sent (load partner name key) = refl
  refused_sent (remove partner) = refl

  refused_counted : (id : Text) (c : Call) → counted id c n ≡ []
  unfolding counted
  refused_counted id (receive text) = if_false (eqb n 0) _ _ (ne_eqb n 0 not_done)
  refused_counted id (build_ksm partner request) = refl
  refused_counted id (build_rsi partner service) = refl
  refused_counted id (ask partner) = refl
  refused_counted id (give_up partner) = refl
  refused_counted id (load partner name key) = refl
  refused_counted id (remove partner) = refl

-- the steps: what is sent is what the card of `line` writes
module _ (image buffer : Text) (t : Table) (octets : Bytes image) (is : decode image ≡ Some t) where
  none_sent : {c : steps.Call} (d : steps.Call) → c ≡ d → (run t c).outcome.reply ≡ []
      → [] ≡ texts (run t d).outcome.reply
  unfolding texts
  none_sent d p h = ap texts (sym h) ∙ ap (λ (x : steps.Call). texts (run t x).outcome.reply) p

  step_sent : (c : Call) (d : steps.Call) → OfBytes c → step_of (length buffer) c ≡ Some d
      → sent c (stepped image buffer c (run t d)) ≡ texts (run t d).outcome.reply
  unfolding sent
  step_sent (receive text) d o e = ap texts (as_stepped image buffer t octets is (receive text) d o e).reply
  step_sent (build_ksm partner request) d o e =
      ap texts (as_stepped image buffer t octets is (build_ksm partner request) d o e).reply
  step_sent (build_rsi partner service) d o e =
      ap texts (as_stepped image buffer t octets is (build_rsi partner service) d o e).reply
  step_sent (ask partner) d o e = none_sent d (some_inj e) (ask_silent t partner)
  step_sent (give_up partner) d o e = none_sent d (some_inj e) (give_up_silent t partner)
  step_sent (load partner name key) d o e = go (top_in key) e
    where
      go : (top : Option Top) → loading partner name top ≡ Some d → [] ≡ texts (run t d).outcome.reply
      go None e = absurd (none_some _ e)
      go (Some top) e = none_sent d (some_inj e) (load_silent t partner name top)
  step_sent (remove partner) d o e = none_sent d (some_inj e) (remove_silent t partner)

  -- what it accepts is what that card accepts
  step_counted : (id : Text) (c : Call) (d : steps.Call) (answer : ℕ) → step_of (length buffer) c ≡ Some d
      → counted id c answer ≡ line.counted id d answer
  unfolding counted line.counted
  step_counted id (receive text) d n e = ap (λ (x : steps.Call). line.counted id x n) (some_inj e)
  step_counted id (build_ksm partner request) d n e = ap (λ (x : steps.Call). line.counted id x n) (some_inj e)
  step_counted id (build_rsi partner service) d n e = ap (λ (x : steps.Call). line.counted id x n) (some_inj e)
  step_counted id (ask partner) d n e = ap (λ (x : steps.Call). line.counted id x n) (some_inj e)
  step_counted id (give_up partner) d n e = ap (λ (x : steps.Call). line.counted id x n) (some_inj e)
  step_counted id (load partner name key) d n e = go (top_in key) e
    where
      go : (top : Option Top) → loading partner name top ≡ Some d → [] ≡ line.counted id d n
      go None e = absurd (none_some _ e)
      go (Some top) e = ap (λ (x : steps.Call). line.counted id x n) (some_inj e)
  step_counted id (remove partner) d n e = ap (λ (x : steps.Call). line.counted id x n) (some_inj e)

-- ---- both ends

module _ (name : Text) (top : Top) where
  -- what is asked of a call is what is asked of the call that it makes
  allowed : (other : Text) (wrote : List Text) (c : Call) (room : ℕ) (d : steps.Call) (answer : ℕ) → OfBytes c
      → step_of room c ≡ Some d → Allowed name top other wrote c answer → line.Allowed name top other wrote d answer
  unfolding Allowed line.Allowed
  allowed other wrote (receive text) room d n o e may =
      subst (λ (x : steps.Call). line.Allowed name top other wrote x n) (some_inj e) may
  allowed other wrote (build_ksm partner request) room d n o e may =
      let k = request_sized request o in
      subst (λ (x : steps.Call). line.Allowed name top other wrote x n) (some_inj e)
      (record { first = k.first; second = k.second })
  allowed other wrote (build_rsi partner service) room d n o e may =
      subst (λ (x : steps.Call). line.Allowed name top other wrote x n) (some_inj e) tt
  allowed other wrote (ask partner) room d n o e may =
      subst (λ (x : steps.Call). line.Allowed name top other wrote x n) (some_inj e) tt
  allowed other wrote (give_up partner) room d n o e may =
      subst (λ (x : steps.Call). line.Allowed name top other wrote x n) (some_inj e) tt
  allowed other wrote (load partner key_name key) room d n o e may = go (top_in key) refl e
    where
      go : (k : Option Top) → top_in key ≡ k → loading partner key_name k ≡ Some d
          → line.Allowed name top other wrote d n
      go None q e = absurd (none_some _ e)
      go (Some k) q e =
          subst (λ (x : steps.Call). line.Allowed name top other wrote x n) (some_inj e)
          (λ z p. ((may z p).0, some_inj (sym q ∙ (may z p).1)))
  allowed other wrote (remove partner) room d n o e may =
      subst (λ (x : steps.Call). line.Allowed name top other wrote x n) (some_inj e) may

  -- and the other way round
  allowed_back : (other : Text) (wrote : List Text) (c : Call) (room : ℕ) (d : steps.Call) (answer : ℕ)
      → step_of room c ≡ Some d → line.Allowed name top other wrote d answer → Allowed name top other wrote c answer
  unfolding Allowed line.Allowed
  allowed_back other wrote (receive text) room d n e may =
      subst (λ (x : steps.Call). line.Allowed name top other wrote x n) (sym (some_inj e)) may
  allowed_back other wrote (build_ksm partner request) room d n e may = tt
  allowed_back other wrote (build_rsi partner service) room d n e may = tt
  allowed_back other wrote (ask partner) room d n e may = tt
  allowed_back other wrote (give_up partner) room d n e may = tt
  allowed_back other wrote (load partner key_name key) room d n e may = go (top_in key) refl e
    where
      go : (k : Option Top) → top_in key ≡ k → loading partner key_name k ≡ Some d
          → n ≡ 0 → partner ≡ other → (key_name ≡ name) × (top_in key ≡ Some top)
      go None q e z p = absurd (none_some _ e)
      go (Some k) q e z p =
          let m = subst (λ (x : steps.Call). line.Allowed name top other wrote x n) (sym (some_inj e)) may in
          ((m z p).0, q ∙ ap {B = Option Top} Some (m z p).1)
  allowed_back other wrote (remove partner) room d n e may =
      subst (λ (x : steps.Call). line.Allowed name top other wrote x n) (sym (some_inj e)) may

  pub asked_alike : (other : Text) (wrote : List Text) (c : Call) (d : steps.Call) (room answer : ℕ) → OfBytes c
      → step_of room c ≡ Some d → Allowed name top other wrote c answer ↔ line.Allowed name top other wrote d answer
  asked_alike other wrote c d room n o e =
      (allowed other wrote c room d n o e, allowed_back other wrote c room d n e)

  -- a call leaves an end as it was, or does what a call of the card of `line` does
  pub data Moves (other : Text) (wrote : List Text) (image : Text) (t : Table) (c : Call) (l : Left) : Type 0 where
    stays : kept c l ≡ image → sent c l ≡ [] → ((id : Text) → counted id c l.answer ≡ [])
        → Moves other wrote image t c l
    moves : (d : steps.Call) → line.Allowed name top other wrote d (run t d).outcome.answer
        → decode (kept c l) ≡ Some (run t d).table → Bytes (kept c l) → sent c l ≡ texts (run t d).outcome.reply
        → ((id : Text) → counted id c l.answer ≡ line.counted id d (run t d).outcome.answer)
        → Moves other wrote image t c l

  pub moved : (other : Text) (wrote : List Text) (image buffer : Text) (t : Table) (c : Call) (l : Left) → Bytes image
      → decode image ≡ Some t → OfBytes c → Allowed name top other wrote c l.answer → Way image buffer c l
      → Moves other wrote image t c l
  unfolding left
  moved other wrote image buffer t c l octets is o may (refuses n m h k) =
      stays (refused_kept n h image buffer c) (refused_sent n h image buffer c)
      (λ id. refused_counted n h image buffer id c)
  moved other wrote image buffer t c l octets is o may (makes u d so e) =
      subst (λ (x : Table). Allowed name top other wrote c (stepped image buffer c (run x d)).answer
      → Moves other wrote image t c (stepped image buffer c (run x d))) (some_inj (sym is ∙ so)) (λ may.
      let a = in_bytes_answer c (run t d) in
      moves d (allowed other wrote c (length buffer) d (run t d).outcome.answer o e
      (subst (Allowed name top other wrote c) a may))
      (as_stepped image buffer t octets is c d o e).table (kept_bytes image buffer t octets is c d o e)
      (step_sent image buffer t octets is c d o e)
      (λ id. ap (counted id c) a ∙ step_counted image buffer t octets is id c d (run t d).outcome.answer e)) may
