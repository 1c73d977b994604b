-- Maps that exclusive-or passes through: two of them are equal where they agree at the powers of two.
use mathlib.Core.Path.{◌≡◌, refl, sym, ap, ap₂, ◌∙◌, subst}
use mathlib.Core.Bool.{Bool, true, false, ◌&&◌}
use mathlib.Core.Logic.{⊎_elim}
use Prim.Native.Nat.{ℕ, zero, suc, ◌*◌, ◌/◌, ◌%◌, ◌^◌, ◌<◌}
use native.Mathlib.Nat.{mod-lt, zero-mul, one-mul, add-zero, not-suc-le-zero, eq-or-lt_of_le, le_of_suc-le-suc}
use native.Mathlib.Numerals.{one-add}
use native.Mathlib.Omega.{arith}
use lib.Arith.{lt-one}
use lib.Pow.{pow_pos, split, shr_lt}
use lib.Dec.{T, eqb, eqb→eq}
use lib.Bits.{bit_xor, bit_and, xor_shr, xor_mod, xor_self, xor_block, xor_shifted}
use Rattle.dea.proofs.Xor.{xor_four, and_xor}

abbrev pub Linear : (ℕ → ℕ) → Type 0
Linear g = (a b : ℕ) → g (bit_xor a b) ≡ bit_xor (g a) (g b)

pub lin_id : Linear (λ x. x)
lin_id a b = refl

pub lin_comp : (g h : ℕ → ℕ) → Linear g → Linear h → Linear (λ x. g (h x))
lin_comp g h lg lh a b = ap g (lh a b) ∙ lg (h a) (h b)

pub lin_xor : (g h : ℕ → ℕ) → Linear g → Linear h → Linear (λ x. bit_xor (g x) (h x))
lin_xor g h lg lh a b = ap₂ bit_xor (lg a b) (lh a b) ∙ xor_four (g a) (g b) (h a) (h b)

pub lin_and : (m : ℕ) → Linear (λ x. bit_and x m)
lin_and m a b = and_xor a b m

pub lin_shr : (k : ℕ) → Linear (λ x. x / 2 ^ k)
lin_shr k a b = xor_shr a b k

pub lin_mod : (k : ℕ) → Linear (λ x. x % 2 ^ k)
lin_mod k a b = xor_mod a b k

pub lin_shl : (k : ℕ) → Linear (λ x. x * 2 ^ k)
lin_shl k a b =
    sym (sym (ap₂ bit_xor (add-zero (a * 2 ^ k)) (add-zero (b * 2 ^ k)))
    ∙ xor_block k a b 0 0 (pow_pos k) (pow_pos k) ∙ add-zero (bit_xor a b * 2 ^ k))

-- a shift to the left in a word of 64 bits
pub lin_shl64 : (k : ℕ) → Linear (λ x. x * 2 ^ k % 2 ^ 64)
lin_shl64 k = lin_comp (λ x. x % 2 ^ 64) (λ x. x * 2 ^ k) (lin_mod 64) (lin_shl k)

pub lin_zero : (g : ℕ → ℕ) → Linear g → g 0 ≡ 0
lin_zero g l = l 0 0 ∙ xor_self (g 0)

module _ (g h : ℕ → ℕ) (lg : Linear g) (lh : Linear h) where
  top : (n t : ℕ) → t < 2 → g (2 ^ n) ≡ h (2 ^ n) → g (t * 2 ^ n) ≡ h (t * 2 ^ n)
  top n zero ht e = rw zero-mul (lin_zero g lg ∙ sym (lin_zero h lh))
  top n (suc zero) ht e = rw one-mul e
  top n (suc (suc t)) ht e = absurd (omega arith)

  equal_below : (n : ℕ) → ((i : ℕ) → i < n → g (2 ^ i) ≡ h (2 ^ i)) → (x : ℕ) → x < 2 ^ n → g x ≡ h x
  equal_below zero e x hx = ap g (lt-one hx) ∙ lin_zero g lg ∙ sym (lin_zero h lh) ∙ sym (ap h (lt-one hx))
  equal_below (suc n) e x hx =
      ap g (sym whole) ∙ lg (x / 2 ^ n * 2 ^ n) (x % 2 ^ n)
      ∙ ap₂ bit_xor (top n (x / 2 ^ n) (shr_lt 1 n (rw one-add hx)) (e n (omega arith)))
      (equal_below n (λ i hi. e i (omega arith)) (x % 2 ^ n) (mod-lt x (pow_pos n)))
      ∙ sym (lh (x / 2 ^ n * 2 ^ n) (x % 2 ^ n)) ∙ ap h whole
    where
      whole : bit_xor (x / 2 ^ n * 2 ^ n) (x % 2 ^ n) ≡ x
      whole = xor_shifted (x / 2 ^ n) n (x % 2 ^ n) (mod-lt x (pow_pos n)) ∙ split x n

-- ---- a test at each number below n, which antt computes

pub and_left : (a b : Bool) → T (a && b) → T a
and_left true b t = tt
and_left false b t = t

pub and_right : (a b : Bool) → T (a && b) → T b
and_right true b t = t
and_right false b t = absurd t

abbrev pub below : (ℕ → Bool) → ℕ → Bool
below p zero = true
below p (suc n) = p n && below p n

pub below_at : (p : ℕ → Bool) (n : ℕ) → T (below p n) → (i : ℕ) → i < n → T (p i)
below_at p zero t i h = absurd (not-suc-le-zero h)
below_at p (suc n) t i h =
    ⊎_elim (λ (e : i ≡ n). subst (λ (m : ℕ). T (p m)) (sym e) (and_left (p n) (below p n) t))
    (λ (l : i < n). below_at p n (and_right (p n) (below p n) t) i l) (eq-or-lt_of_le (le_of_suc-le-suc h))

-- two such maps that a test finds equal at every power of two below 2 ^ n
pub lin_test : (g h : ℕ → ℕ) → Linear g → Linear h → (n : ℕ) → T (below (λ i. eqb (g (2 ^ i)) (h (2 ^ i))) n)
    → (x : ℕ) → x < 2 ^ n → g x ≡ h x
lin_test g h lg lh n t =
    equal_below g h lg lh n
    (λ i hi. eqb→eq (g (2 ^ i)) (h (2 ^ i)) (below_at (λ i. eqb (g (2 ^ i)) (h (2 ^ i))) n t i hi))
