-- Laws of digits: the number of at most sixteen of them, digit by digit, has room in 64 bits.
use Rattle.std.proofs.Common.{◌≡◌, refl, ap, ◌∙◌, true, not, [], ◌∷◌, ℕ, ◌+◌, ◌*◌, ◌^◌, ◌≤◌, ◌<◌, add-one, arith, length, drop, get_or}
use native.Mathlib.Nat.{mul-le-mul_right, pow-le-pow_right, pow-suc}
use lib.Dec.{eqb}
use Rattle.octets.specs.Text.{Text, all, within, run_char, is_run}
use Rattle.octets.proofs.Comparing.{drop_step, all_at, both as and_true}
use Rattle.csm.specs.Fields.{digit_value, numeral}
use Rattle.csm.proofs.TextLaws.{within_true, true_within, run_wider, all_weaker}
use Rattle.csm.proofs.NumberLaws.{hex_digit, no_zero}

-- ---- a run of digits of any base up to sixteen

pub digits_of : (top low high : ℕ) → top ≤ 70 → high ≤ 16 → (w : Text) → is_run top low high w ≡ true
    → is_run 70 0 16 w ≡ true
digits_of top low high l m w k =
    let h = and_true (all (run_char top) w) (within low high (length w)) k in
    let i = within_true low high (length w) h.1 in
    let a : all (run_char 70) w ≡ true = all_weaker (run_char top) (run_char 70) (run_wider top 70 l) w h.0 in
    rw a (true_within 0 16 (length w) (omega arith) (omega arith))

-- ---- one digit more

pub record Room (base n d i : ℕ) : Type 0 where
  pub product : base * n < 2 ^ 64
  pub next : base * n + d < 16 ^ (i + 1)
  pub fits : base * n + d < 2 ^ 64

room : (base n d i : ℕ) → base ≤ 16 → n < 16 ^ i → d < 16 → i < 16 → Room base n d i
room base n d i b h k l =
    let m = mul-le-mul_right n b in
    let p : 16 ^ (i + 1) ≡ 16 ^ i * 16 = ap (λ (j : ℕ). 16 ^ j) (add-one i) ∙ pow-suc 16 i in
    let q : 16 ^ (i + 1) ≤ 16 ^ 16 = pow-le-pow_right (omega arith) {i = i + 1} {j = 16} (omega arith) in
    record { product = omega arith; next = omega arith; fits = omega arith }

-- n is of the first i digits of w
module _ (base n i : ℕ) (w : Text) (b : base ≤ 16) (k : is_run 70 0 16 w ≡ true) (small : n < 16 ^ i) (h : i < length w) where
  pub digit_room : Room base n (digit_value (get_or w i 0)) i
  digit_room =
      let r = and_true (all (run_char 70) w) (within 0 16 (length w)) k in
      room base n (digit_value (get_or w i 0)) i b small (hex_digit (get_or w i 0) (all_at (run_char 70) w i r.0 h)).small
      (omega (arith, (within_true 0 16 (length w) r.1).1))

pub numeral_on : (base n : ℕ) (w : Text) (i : ℕ) → i < length w
    → numeral base n (drop i w) ≡ numeral base (base * n + digit_value (get_or w i 0)) (drop (i + 1) w)
numeral_on base n w i h = ap (numeral base n) (drop_step w i h)

-- ---- a first digit

pub no_zero_first : (w : Text) → 1 ≤ length w → no_zero w ≡ not (eqb (get_or w 0 0) 48)
no_zero_first [] h = absurd (omega arith)
no_zero_first (x ∷ w) h = refl
