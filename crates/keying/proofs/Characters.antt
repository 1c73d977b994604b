-- Characters of an identity one after the other, and their number.
use mathlib.Core.Path.{◌≡◌, refl, sym, ap, ◌∙◌}
use mathlib.Core.Bool.{true}
use mathlib.Core.List.{[], ◌∷◌, ◌++◌, map}
use Prim.Native.Nat.{ℕ, zero, suc, ◌+◌, ◌*◌, ◌%◌, ◌^◌}
use native.Mathlib.Numerals.{add-one}
use native.Mathlib.Omega.{arith}
use lib.Dec.{ltb}
use lib.ListN.{length, get_or, length-map}
use borrow.Author.Tests.{lt-ltb, ltb-true}
use Rattle.octets.specs.Text.{Text, all}
use Rattle.octets.specs.Part.{all_octets}
use Rattle.octets.specs.Number.{number_after, number}
use Rattle.octets.proofs.Comparing.{both}
use Rattle.octets.proofs.Numbers.{number_append, number_fits}
use Rattle.keying.specs.Working.{characters}

-- one more
next : (i at : ℕ) (w : Text) → characters (suc i) at w ≡ characters i at w ++ get_or w ((at + i) % length w) 0 ∷ []
next zero at w = let e : at ≡ at + 0 = omega arith in ap (λ (n : ℕ). get_or w (n % length w) 0 ∷ []) e
next (suc i) at w =
    let e : at + 1 + i ≡ at + suc i = omega arith in
    ap (λ (t : Text). get_or w (at % length w) 0 ∷ t)
    (next i (at + 1) w ∙ ap (λ (n : ℕ). characters i (at + 1) w ++ get_or w (n % length w) 0 ∷ []) e)

pub number_next : (i at : ℕ) (w : Text)
    → number (characters (i + 1) at w) ≡ number (characters i at w) * 256 + get_or w ((at + i) % length w) 0
unfolding number
number_next i at w =
    let c = get_or w ((at + i) % length w) 0 ∷ [] in
    rw (add-one i) (ap (number_after 0) (next i at w) ∙ number_append 0 (characters i at w) c)

-- no characters are zeros
pub none_to_repeat : (at : ℕ) (w : Text) → length w ≡ 0 → 0 ≡ number (characters 8 at w)
unfolding number
none_to_repeat at [] e = refl
none_to_repeat at (x ∷ w) e = absurd (omega arith)

-- bytes, so eight of them have 64 bits
length_characters : (n at : ℕ) (w : Text) → length (characters n at w) ≡ n
length_characters zero at w = refl
length_characters (suc n) at w = ap suc (length_characters n (at + 1) w)

pub eight_fit : (at : ℕ) (w : Text) → all_octets (characters 8 at w) ≡ true
    → number (characters 8 at w) % 2 ^ 64 ≡ number (characters 8 at w)
eight_fit at w e = number_fits (characters 8 at w) e (omega (arith, length_characters 8 at w))

-- ---- one bit to the left

double_after : (n : ℕ) (w : Text) → number_after (n * 2) (map (λ c. c * 2) w) ≡ number_after n w * 2
double_after n [] = refl
double_after n (c ∷ w) =
    let e : n * 2 * 256 + c * 2 ≡ (n * 256 + c) * 2 = omega arith in
    ap (λ (m : ℕ). number_after m (map (λ c. c * 2) w)) e ∙ double_after (n * 256 + c) w

octets_double : (w : Text) → all (λ c. ltb c 128) w ≡ true → all_octets (map (λ c. c * 2) w) ≡ true
octets_double [] e = refl
octets_double (c ∷ w) e =
    let h = both (ltb c 128) (all (λ c. ltb c 128) w) e in
    let b = ltb-true c 128 h.0 in
    rw (lt-ltb (c * 2) 256 (omega arith)) (octets_double w h.1)

pub one_bit_left : (w : Text) → all (λ c. ltb c 128) w ≡ true → length w ≡ 8
    → number w * 2 % 2 ^ 64 ≡ number (map (λ c. c * 2) w)
unfolding number
one_bit_left w e l =
    ap (λ (n : ℕ). n % 2 ^ 64) (sym (double_after 0 w))
    ∙ number_fits (map (λ c. c * 2) w) (octets_double w e) (omega (arith, length-map w (λ c. c * 2)))
