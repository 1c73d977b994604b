-- The numbers hold.
use mathlib.Core.Path.{◌≡◌, refl, sym, ap, ◌∙◌, subst}
use mathlib.Core.Bool.{true, false}
use Prim.Native.Nat.{ℕ, ◌+◌, ◌≤◌, ◌<◌}
use native.Mathlib.Omega.{arith}
use Rattle.octets.specs.Text.{within}
use Rattle.dates.proofs.Numbers as dates
use Rattle.keying.proofs.Numbers as keying
use Rattle.partner.specs.Entry.{limit}
use Rattle.partner.specs.Changes.{accepted}
use Rattle.partner.proofs.Claims.{claims}
use Rattle.calls.specs.Receive as by_class
use Rattle.calls.specs.Good.{InTurn}
use Rattle.calls.specs.Results.{holds, fails}
use Rattle.calls.specs.Numbers.{ComesTo, Leaves, IsP, Numbers}
use Rattle.calls.proofs.Accepting.{ksm_turn}
use Rattle.calls.proofs.Complaining.{judged_turn}
use Rattle.calls.proofs.Stepping.{passes}

leaves_one_more : (expected count : ℕ) → expected ≤ count → count < limit → ComesTo expected count (Leaves (count + 1))
unfolding by_class.receive accepted
leaves_one_more expected count x y own e text m p q g =
    let t : InTurn e.receiving.expected m.ctp = record { fresh = omega (arith, x, p, q); not_last = omega (arith, y, q) } in
    subst (Leaves (count + 1)) (sym (ksm_turn own e text m (passes own e text m (record { rest = g; count = t }))))
    (record { accepted = refl; expects = claims.rises_by_one m.ctp t.not_last ∙ ap (λ (k : ℕ). k + 1) q })

out_of_turn : (expected count : ℕ) → within 1 limit count ≡ true → (InTurn expected count → ⊥)
    → ComesTo expected count (IsP expected)
unfolding by_class.receive
out_of_turn expected count l n own e text m p q g =
    let c : InTurn e.receiving.expected m.ctp → ⊥ = λ i. n (subst (λ (k : ℕ). InTurn expected k) q
    (subst (λ (k : ℕ). InTurn k m.ctp) p i)) in
    subst (IsP expected)
    (sym (judged_turn own e text m g.set true true false (ap (within 1 limit) q ∙ l) g.names g.parity
    g.brings (holds g.format) (holds g.sealed) (fails c) refl))
    (record { answered = refl; spelled = refl; expects = p })

pub numbers : Numbers
numbers = record {
  of_keys = keying.numbers;
  of_dates = dates.numbers;
  count_5_leaves_6 = leaves_one_more 5 5 (omega arith) (omega arith);
  count_7_leaves_8 = leaves_one_more 5 7 (omega arith) (omega arith);
  count_4_is_P = out_of_turn 5 4 refl (λ i. let k = i.fresh in omega arith);
  last_but_one_leaves_the_last = leaves_one_more 99_999_998 99_999_998 (omega arith) (omega arith);
  last_is_P = λ n. out_of_turn n 99_999_999 refl (λ i. let k = i.not_last in omega arith);
  kd_iv_is_a_service = refl;
  iv_kd_is_not = refl;
  phases = (refl, refl, refl, refl);
  spelled_F = refl;
  spelled_I = refl;
  spelled_K = refl;
  spelled_M = refl;
  spelled_O = refl;
  spelled_P = refl;
}
