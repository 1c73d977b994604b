-- A top key by its bytes.
use Rattle.std.specs.Prelude.{None, Some}
use mathlib.Core.Path.{◌≡◌, refl, sym, ap, ◌∙◌, subst}
use mathlib.Core.Bool.{Bool, true, false}
use Prim.Native.Nat.{ℕ, ◌-◌, ◌%◌, ◌^◌, ◌<◌, ◌≤◌}
use native.Mathlib.Omega.{arith}
use lib.Dec.{eqb, ltb}
use lib.ListN.{length, take, drop, length-take, length-drop}
use borrow.Author.Tests.{eq-eqb, ne_eqb, eqb-true}
use Rattle.octets.specs.Text.{Text}
use Rattle.octets.specs.Part.{all_octets}
use Rattle.octets.specs.Number.{number}
use Rattle.octets.proofs.Comparing.{octets_part, all_drop}
use Rattle.octets.proofs.Writing.{rest_is}
use Rattle.octets.proofs.Numbers.{number_fits}
use Rattle.keying.specs.declared.Top.{Top}
use Rattle.keying.specs.declared.Top.TheVariants.{Single, Pair}
use Rattle.csm.proofs.TextLaws.{none_some}
use Rattle.partner.specs.Changes.{left_of, right_of}
use Rattle.calls.specs.Words.{in_case◌then◌else◌}
use Rattle.calls.proofs.Tests.{if_true, if_false}
use Rattle.card.specs.Whole.{top_in}

module _ (key : Text) (octets : all_octets key ≡ true) where
  pub top_single : length key ≡ 8 → top_in key ≡ Some (Single (number key % 2 ^ 64))
  unfolding top_in
  top_single h =
      if_true (eqb (length key) 8) _ _ (eq-eqb (length key) 8 h)
      ∙ ap (λ (n : ℕ). Some (Single n)) (sym (number_fits key octets (omega arith)))

  pub top_pair : length key ≡ 16
      → top_in key ≡ Some (Pair (number (take 8 key) % 2 ^ 64) (number (take (length key - 8) (drop 8 key)) % 2 ^ 64))
  unfolding top_in
  top_pair h =
      let n : (length key ≡ 8 → ⊥) = λ e. omega arith in
      let a : number (take 8 key) ≡ number (take 8 key) % 2 ^ 64 =
      sym (number_fits (take 8 key) (octets_part key 0 8 octets) (omega (arith, length-take 8 key))) in
      let b : number (drop 8 key) ≡ number (take (length key - 8) (drop 8 key)) % 2 ^ 64 =
      ap number (sym (rest_is 8 key))
      ∙ sym (number_fits (take (length key - 8) (drop 8 key)) (octets_part key 8 (length key - 8) octets)
      (omega (arith, length-take (length key - 8) (drop 8 key)))) in
      if_false (eqb (length key) 8) _ _ (ne_eqb (length key) 8 n)
      ∙ if_true (eqb (length key) 16) _ _ (eq-eqb (length key) 16 h)
      ∙ ap (λ (x : ℕ). Some (Pair x (number (drop 8 key)))) a
      ∙ ap (λ (x : ℕ). Some (Pair (number (take 8 key) % 2 ^ 64) x)) b

-- the numbers of eight bytes are of 64 bits
eight : (s : Text) → all_octets s ≡ true → length s ≤ 8 → number s < 2 ^ 64
eight s o h = omega (arith, number_fits s o h)

pub top_fits : (key : Text) (top : Top) → all_octets key ≡ true → top_in key ≡ Some top
    → (left_of top < 2 ^ 64) × (right_of top < 2 ^ 64)
unfolding top_in in_case◌then◌else◌
top_fits key top o h = go (eqb (length key) 8) refl (eqb (length key) 16) refl h
  where
    go : (a : Bool) → eqb (length key) 8 ≡ a → (b : Bool) → eqb (length key) 16 ≡ b
        → (in_case a then Some (Single (number key)) else
        in_case b then Some (Pair (number (take 8 key)) (number (drop 8 key))) else None) ≡ Some top
        → (left_of top < 2 ^ 64) × (right_of top < 2 ^ 64)
    go true p b q h =
        let k : Single (number key) ≡ top = cc in
        let n = eqb-true (length key) 8 p in
        subst (λ (u : Top). (left_of u < 2 ^ 64) × (right_of u < 2 ^ 64)) k
        (eight key o (omega arith), omega arith)
    go false p true q h =
        let k : Pair (number (take 8 key)) (number (drop 8 key)) ≡ top = cc in
        let n = eqb-true (length key) 16 q in
        subst (λ (u : Top). (left_of u < 2 ^ 64) × (right_of u < 2 ^ 64)) k (
          eight (take 8 key) (octets_part key 0 8 o) (omega (arith, length-take 8 key)),
          eight (drop 8 key) (all_drop (λ b. ltb b 256) 8 key o) (omega (arith, length-drop 8 key)),
        )
    go false p false q h = absurd (none_some _ h)

-- another number of bytes is none
pub key_of_no_length : (key : Text) → (length key ≡ 8 → ⊥) → (length key ≡ 16 → ⊥) → top_in key ≡ None
unfolding top_in
key_of_no_length key h k =
    if_false (eqb (length key) 8) _ _ (ne_eqb (length key) 8 h)
    ∙ if_false (eqb (length key) 16) _ _ (ne_eqb (length key) 16 k)
