-- Eight bytes as one number, and sixteen as two.
use mathlib.Core.Path.{◌≡◌, refl, sym, ap, ◌∙◌}
use mathlib.Core.Bool.{Bool, true, false, ◌&&◌, true≢false}
use mathlib.Core.List.{[], ◌∷◌, ◌++◌}
use Prim.Native.Nat.{ℕ, zero, suc, ◌+◌, ◌-◌, ◌%◌, ◌≤◌, ◌<◌, ◌^◌}
use native.Mathlib.Omega.{arith}
use lib.Dec.{eqb}
use lib.ListN.{length, take, drop, get_or, length-append, length-drop, drop_of_length-le, take-append-drop}
use lib.Seq.{take_at, drop_at, length-take-le}
use borrow.Author.Tests.{eqb-true, eq-eqb}
use Rattle.octets.specs.Text.{Text, same}
use Rattle.octets.specs.Part.{all_octets}
use Rattle.octets.specs.Number.{number, bytes, of_numbers}
use Rattle.octets.proofs.Comparing.{drop_step, all_take, all_drop, equal_same, differs_same, same_length}
use Rattle.octets.proofs.Numbers.{length_bytes, bytes_number, number_bytes_below, number_fits}
use Rattle.octets.proofs.Writing.{rest_is}

-- n bytes, one by one
abbrev picked : ℕ → ℕ → Text → Text
picked zero at s = []
picked (suc n) at s = get_or s at 0 ∷ picked n (at + 1) s

picked_drop : (n at : ℕ) (s : Text) → length s ≡ at + n → drop at s ≡ picked n at s
picked_drop zero at s h = let k : length s ≤ at = omega arith in drop_of_length-le s k
picked_drop (suc n) at s h =
    drop_step s at (omega arith) ∙ ap (λ (t : Text). get_or s at 0 ∷ t) (picked_drop n (at + 1) s (omega arith))

pub picked_all : (n : ℕ) (s : Text) → length s ≡ n → s ≡ picked n 0 s
picked_all n s h = picked_drop n 0 s (omega arith)

-- eight bytes and their number
read_back : (x : Text) → length x ≡ 8 → all_octets x ≡ true → bytes 8 (number x) ≡ x
read_back x h o = ap (λ (n : ℕ). bytes n (number x)) (sym h) ∙ bytes_number x o

number_back : (x : Text) (a : ℕ) → a < 256 ^ 8 → x ≡ bytes 8 a → number x ≡ a
number_back x a h e = ap number e ∙ number_bytes_below 8 a h

pub length_numbers : (a b : ℕ) → length (of_numbers a b) ≡ 16
unfolding of_numbers
length_numbers a b =
    length-append (bytes 8 a) (bytes 8 b) ∙ omega (arith, length_bytes 8 a, length_bytes 8 b)

-- sixteen bytes and the two numbers that they are
module _ (s : Text) (l : length s ≡ 16) (o : all_octets s ≡ true) where
  abbrev x : Text
  x = take 8 s

  abbrev y : Text
  y = drop 8 s

  front_long : length x ≡ 8
  front_long = length-take-le 8 s (omega arith)

  back_long : length y ≡ 8
  back_long = length-drop 8 s ∙ omega arith

  numbers_back : of_numbers (number x) (number y) ≡ s
  unfolding of_numbers
  numbers_back =
      (λ i. read_back x front_long (all_take _ 8 s o) i ++ read_back y back_long (all_drop _ 8 s o) i) ∙ take-append-drop 8 s

  pub numbers_are : (a b : ℕ) → a ≡ number x → b ≡ number y → of_numbers a b ≡ s
  numbers_are a b p q = (λ i. of_numbers (p i) (q i)) ∙ numbers_back

  module _ (a b : ℕ) (p : a < 256 ^ 8) (q : b < 256 ^ 8) where
    first_of : s ≡ of_numbers a b → number x ≡ a
    unfolding of_numbers
    first_of e = number_back x a p (ap (take 8) e ∙ take_at (bytes 8 a) (bytes 8 b) 8 (length_bytes 8 a))

    second_of : s ≡ of_numbers a b → number y ≡ b
    unfolding of_numbers
    second_of e = number_back y b q (ap (drop 8) e ∙ drop_at (bytes 8 a) (bytes 8 b) 8 (length_bytes 8 a))

    pub same_by_numbers : same s (of_numbers a b) ≡ eqb (number x) a && eqb (number y) b
    same_by_numbers = go (eqb (number x) a) refl (eqb (number y) b) refl
      where
        go : (c : Bool) → eqb (number x) a ≡ c → (d : Bool) → eqb (number y) b ≡ d → same s (of_numbers a b) ≡ c && d
        go true i true j =
            equal_same s (of_numbers a b) (sym (numbers_are a b (sym (eqb-true (number x) a i)) (sym (eqb-true (number y) b j))))
        go true i false j =
            differs_same s (of_numbers a b) (λ e. true≢false (sym (eq-eqb (number y) b (second_of e)) ∙ j))
        go false i d j =
            differs_same s (of_numbers a b) (λ e. true≢false (sym (eq-eqb (number x) a (first_of e)) ∙ i))

    -- the same of the numbers as they are read from the halves
    module _ {v : ℕ} (i : v ≡ number x % 2 ^ 64) where
      first_read : v ≡ number x
      first_read = i ∙ number_fits x (all_take _ 8 s o) (omega (arith, front_long))

      pub first_differs : eqb v a ≡ false → same s (of_numbers a b) ≡ false
      first_differs e = same_by_numbers ∙ ap (λ (n : ℕ). eqb n a && eqb (number y) b) (sym first_read) ∙ rw e

      pub same_halves : {w : ℕ} → w ≡ number (take (length s - 8) y) % 2 ^ 64 → eqb v a ≡ true
          → same s (of_numbers a b) ≡ eqb w b
      same_halves {w} j e =
          let k : w ≡ number y =
          j ∙ ap (λ (t : Text). number t % 2 ^ 64) (rest_is 8 s) ∙ number_fits y (all_drop _ 8 s o) (omega (arith, back_long)) in
          same_by_numbers ∙ ap (λ (n : ℕ). eqb n a && eqb (number y) b) (sym first_read) ∙ rw (e, ← k)

-- another number of bytes
pub other_length : (s : Text) (a b : ℕ) → (length s ≡ 16 → ⊥) → same s (of_numbers a b) ≡ false
other_length s a b h = same_length s (of_numbers a b) (λ e. h (e ∙ length_numbers a b))
