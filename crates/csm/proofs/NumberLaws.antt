-- Laws of numbers as text: a number's digits give it back, and a run of digits is the text of its number.
use mathlib.Core.Path.{◌≡◌, refl, sym, ap, ◌∙◌, subst}
use mathlib.Core.Bool.{Bool, true, false, cond, not, ◌||◌}
use mathlib.Core.List.{[], ◌∷◌, ◌++◌}
use Prim.Native.Nat.{ℕ, zero, suc, ◌+◌, ◌-◌, ◌*◌, ◌/◌, ◌%◌, ◌^◌, ◌≤◌, ◌<◌}
use native.Mathlib.Nat.{pow-suc}
use native.Mathlib.Omega.{arith}
use lib.Dec.{eqb, ltb}
use lib.ListN.{length, length-append}
use borrow.Author.Tests.{ltb-true, ltb-false, lt-ltb, le-ltb, ne_eqb, eqb-true, eqb-false, not-true}
use Rattle.octets.specs.Text.{Text, all, within, run_char}
use Rattle.octets.proofs.Comparing.{both as and_true}
use Rattle.csm.specs.Fields.{digit, digit_value, numeral, hex_text, decimal}
use Rattle.csm.proofs.TextLaws.{within_true, all_append, all_both, below_at}

-- ---- digits

pub digit_right : (d : ℕ) → d < 16 → digit_value (digit d) ≡ d
digit_right d h =
    eqb-true (digit_value (digit d)) d (below_at 16 (λ d. eqb (digit_value (digit d)) d) refl d h)

pub digit_run : (d : ℕ) → d < 16 → run_char 70 (digit d) ≡ true
digit_run = below_at 16 (λ d. run_char 70 (digit d)) refl

pub ten_run : (d : ℕ) → d < 10 → run_char 0 (digit d) ≡ true
ten_run = below_at 10 (λ d. run_char 0 (digit d)) refl

-- a byte that is a digit, or a capital up to F
pub record Digit (x : ℕ) : Type 0 where
  pub small : digit_value x < 16
  pub back : digit (digit_value x) ≡ x

pub hex_digit : (x : ℕ) → run_char 70 x ≡ true → Digit x
hex_digit x k = go (within 48 57 x) refl k
  where
    go : (b : Bool) → within 48 57 x ≡ b → b || within 65 70 x ≡ true → Digit x
    go true q k =
        let h = within_true 48 57 x q in
        record {
          small = rw (lt-ltb x 65 (omega arith)) (omega arith);
          back = rw (lt-ltb x 65 (omega arith), lt-ltb (x - 48) 10 (omega arith)) (omega arith);
        }
    go false q k =
        let h = within_true 65 70 x k in
        record {
          small = rw (le-ltb x 65 (omega arith)) (omega arith);
          back = rw (le-ltb x 65 (omega arith), le-ltb (x - 55) 10 (omega arith)) (omega arith);
        }

-- a byte that is one of 0 to 9
pub record Ten (x : ℕ) : Type 0 where
  pub low : 48 ≤ x
  pub value : digit_value x ≡ x - 48
  pub small : x - 48 < 10
  pub back : digit (x - 48) ≡ x

pub ten : (x : ℕ) → run_char 0 x ≡ true → Ten x
ten x k = go (within 48 57 x) refl k
  where
    go : (b : Bool) → within 48 57 x ≡ b → b || within 65 0 x ≡ true → Ten x
    go true q k =
        let h = within_true 48 57 x q in
        record {
          low = h.0;
          value = rw (lt-ltb x 65 (omega arith));
          small = omega arith;
          back = rw (lt-ltb (x - 48) 10 (omega arith)) (omega arith);
        }
    go false q k = let h = within_true 65 0 x k in absurd (omega arith)

-- ---- numerals

pub numeral_append : (b n : ℕ) (u v : Text) → numeral b n (u ++ v) ≡ numeral b (numeral b n u) v
numeral_append b n [] v = refl
numeral_append b n (x ∷ u) v = numeral_append b (b * n + digit_value x) u v

-- the number of u and one digit more
pub numeral_more : (b m d : ℕ) (u : Text) → numeral b 0 u ≡ m → d < 16
    → numeral b 0 (u ++ digit d ∷ []) ≡ b * m + d
numeral_more b m d u e h = numeral_append b 0 u (digit d ∷ []) ∙ rw (e, digit_right d h)

-- a text and its last byte
abbrev pub Last : Text → Type 0
Last w = (u : Text) × (x : ℕ) × (w ≡ u ++ x ∷ [])

pub last_of : (y : ℕ) (w : Text) → Last (y ∷ w)
last_of y [] = ([], y, refl)
last_of y (z ∷ w) = let h = last_of z w in (y ∷ h.0, h.1, ap (λ (l : Text). y ∷ l) h.2)

-- ---- hex numbers

pub hex_number : (k n : ℕ) → n < 16 ^ k → numeral 16 0 (hex_text k n) ≡ n
hex_number zero n h = omega arith
hex_number (suc k) n h =
    let p = pow-suc 16 k in
    let i = hex_number k (n / 16) (omega arith) in
    let j = numeral_more 16 (n / 16) (n % 16) (hex_text k (n / 16)) i (omega arith) in
    j ∙ omega arith

pub hex_run : (k n : ℕ) → all (run_char 70) (hex_text k n) ≡ true
hex_run zero n = refl
hex_run (suc k) n =
    all_append (run_char 70) (hex_text k (n / 16)) (digit (n % 16) ∷ []) (hex_run k (n / 16))
    (rw (digit_run (n % 16) (omega arith)))

pub hex_length : (k n : ℕ) → length (hex_text k n) ≡ k
hex_length zero n = refl
hex_length (suc k) n =
    length-append (hex_text k (n / 16)) (digit (n % 16) ∷ [])
    ∙ (let i = hex_length k (n / 16) in omega arith)

-- a run of k hex digits is the text of its number
pub record Hex (k : ℕ) (w : Text) : Type 0 where
  pub high : numeral 16 0 w < 16 ^ k
  pub back : hex_text k (numeral 16 0 w) ≡ w

hex_more : (k : ℕ) (u : Text) (x : ℕ) → Hex k u → Digit x → Hex (suc k) (u ++ x ∷ [])
hex_more k u x r d =
    let m = numeral 16 0 u in
    let e : numeral 16 0 (u ++ x ∷ []) ≡ 16 * m + digit_value x = numeral_append 16 0 u (x ∷ []) in
    let a = r.high in
    let b = d.small in
    let p = pow-suc 16 k in
    let q : (16 * m + digit_value x) / 16 ≡ m = omega arith in
    let s : (16 * m + digit_value x) % 16 ≡ digit_value x = omega arith in
    record { high = rw e (omega arith); back = rw (e, q, s, r.back, d.back) }

pub hex_back : (k : ℕ) (w : Text) → all (run_char 70) w ≡ true → length w ≡ k → Hex k w
hex_back zero [] a l = record { high = omega arith; back = refl }
hex_back zero (x ∷ w) a l = absurd (omega arith)
hex_back (suc k) [] a l = absurd (omega arith)
hex_back (suc k) (y ∷ w) a l =
    let h = last_of y w in
    let i = all_both (run_char 70) h.0 (h.1 ∷ [])
    (subst (λ (t : Text). all (run_char 70) t ≡ true) h.2 a) in
    let n : length h.0 ≡ k = omega (arith, l, ap length h.2, length-append h.0 (h.1 ∷ [])) in
    let d = hex_digit h.1 (and_true (run_char 70 h.1) true i.1).0 in
    subst (Hex (suc k)) (sym h.2) (hex_more k h.0 h.1 (hex_back k h.0 i.0 n) d)

-- ---- counts

numeral_one : (n : ℕ) → n < 10 → numeral 10 0 (digit n ∷ []) ≡ n
numeral_one n h = let i = numeral_more 10 0 n [] refl (omega arith) in i ∙ omega arith

pub decimal_number : (k n : ℕ) → n < 10 ^ suc k → numeral 10 0 (decimal k n) ≡ n
decimal_number zero n h = numeral_one n h
decimal_number (suc k) n h = go (ltb n 10) refl (decimal_number k (n / 10))
  where
    go : (b : Bool) → ltb n 10 ≡ b → (n / 10 < 10 ^ suc k → numeral 10 0 (decimal k (n / 10)) ≡ n / 10)
        → numeral 10 0 (cond b (digit n ∷ []) (decimal k (n / 10) ++ digit (n % 10) ∷ [])) ≡ n
    go true q r = numeral_one n (ltb-true n 10 q)
    go false q r =
        let p = pow-suc 10 (suc k) in
        let j = numeral_more 10 (n / 10) (n % 10) (decimal k (n / 10)) (r (omega arith)) (omega arith) in
        j ∙ omega arith

abbrev pub no_zero : Text → Bool
no_zero [] = true
no_zero (x ∷ w) = not (eqb x 48)

-- a run of digits without a leading zero is the text of its number
pub record Decimal (k : ℕ) (w : Text) : Type 0 where
  pub low : 1 ≤ numeral 10 0 w
  pub high : numeral 10 0 w < 10 ^ suc k
  pub back : decimal k (numeral 10 0 w) ≡ w

decimal_digit : (k n : ℕ) → n < 10 → decimal k n ≡ digit n ∷ []
decimal_digit zero n h = refl
decimal_digit (suc k) n h = rw (lt-ltb n 10 h)

power_ten : (k : ℕ) → 10 ≤ 10 ^ suc k
power_ten zero = omega arith
power_ten (suc k) = let i = power_ten k in let p = pow-suc 10 (suc k) in omega arith

decimal_one : (k x : ℕ) → Ten x → not (eqb x 48) ≡ true → Decimal k (x ∷ [])
decimal_one k x d z =
    let e : numeral 10 0 (x ∷ []) ≡ x - 48 = omega (arith, d.value) in
    let a = d.low in
    let s = d.small in
    let n = eqb-false x 48 (not-true (eqb x 48) z) in
    let p = power_ten k in
    record {
      low = rw e (omega (arith, n));
      high = rw e (omega arith);
      back = rw e (decimal_digit k (x - 48) s ∙ ap (λ (y : ℕ). y ∷ []) d.back);
    }

decimal_more : (k : ℕ) (u : Text) (x : ℕ) → Decimal k u → Ten x → Decimal (suc k) (u ++ x ∷ [])
decimal_more k u x r d =
    let m = numeral 10 0 u in
    let v = d.value in
    let e : numeral 10 0 (u ++ x ∷ []) ≡ 10 * m + (x - 48) = numeral_append 10 0 u (x ∷ [])
    ∙ omega (arith, v) in
    let a = r.low in
    let b = r.high in
    let s = d.small in
    let p = pow-suc 10 (suc k) in
    let n = 10 * m + (x - 48) in
    let q : (10 * m + (x - 48)) / 10 ≡ m = omega arith in
    let t : (10 * m + (x - 48)) % 10 ≡ x - 48 = omega arith in
    record {
      low = rw e (omega arith);
      high = rw e (omega arith);
      back = rw (e, le-ltb n 10 (omega arith), q, t, r.back, d.back);
    }

pub decimal_back : (k : ℕ) (w : Text) → all (run_char 0) w ≡ true → no_zero w ≡ true
    → 1 ≤ length w → length w ≤ suc k → Decimal k w
decimal_back zero [] a z l m = absurd (omega arith)
decimal_back zero (y ∷ []) a z l m = decimal_one zero y (ten y (and_true (run_char 0 y) true a).0) z
decimal_back zero (y ∷ v ∷ w) a z l m = absurd (omega arith)
decimal_back (suc k) [] a z l m = absurd (omega arith)
decimal_back (suc k) (y ∷ []) a z l m = decimal_one (suc k) y (ten y (and_true (run_char 0 y) true a).0) z
decimal_back (suc k) (y ∷ v ∷ w) a z l m =
    let h = last_of v w in
    let u = y ∷ h.0 in
    let e : y ∷ v ∷ w ≡ u ++ h.1 ∷ [] = ap (λ (t : Text). y ∷ t) h.2 in
    let i = all_both (run_char 0) u (h.1 ∷ []) (subst (λ (t : Text). all (run_char 0) t ≡ true) e a) in
    let n : length u ≤ suc k = omega (arith, m, ap length e, length-append u (h.1 ∷ [])) in
    let d = ten h.1 (and_true (run_char 0 h.1) true i.1).0 in
    subst (Decimal (suc k)) (sym e) (decimal_more k u h.1 (decimal_back k u i.0 z (omega arith) n) d)

-- the text of a count is such a run
pub record Counted (k : ℕ) (w : Text) : Type 0 where
  pub digits : all (run_char 0) w ≡ true
  pub first : no_zero w ≡ true
  pub some_byte : 1 ≤ length w
  pub few : length w ≤ suc k

no_zero_append : (u v : Text) → 1 ≤ length u → no_zero u ≡ true → no_zero (u ++ v) ≡ true
no_zero_append [] v l k = absurd (omega arith)
no_zero_append (x ∷ u) v l k = k

counted_one : (k n : ℕ) → 1 ≤ n → n < 10 → Counted k (digit n ∷ [])
counted_one k n a b = record {
  digits = rw (ten_run n b);
  first = rw (lt-ltb n 10 b, ne_eqb (48 + n) 48 (λ e. omega arith));
  some_byte = omega arith;
  few = omega arith;
}

counted_more : (k : ℕ) (u : Text) (d : ℕ) → d < 10 → Counted k u → Counted (suc k) (u ++ digit d ∷ [])
counted_more k u d h r =
    let l = length-append u (digit d ∷ []) in
    let a = r.some_byte in
    let b = r.few in
    record {
      digits = all_append (run_char 0) u (digit d ∷ []) r.digits (rw (ten_run d h));
      first = no_zero_append u (digit d ∷ []) a r.first;
      some_byte = omega (arith, l);
      few = omega (arith, l);
    }

pub decimal_counted : (k n : ℕ) → 1 ≤ n → n < 10 ^ suc k → Counted k (decimal k n)
decimal_counted zero n a b = counted_one zero n a (omega arith)
decimal_counted (suc k) n a b = go (ltb n 10) refl (decimal_counted k (n / 10))
  where
    go : (t : Bool) → ltb n 10 ≡ t → (1 ≤ n / 10 → n / 10 < 10 ^ suc k
        → Counted k (decimal k (n / 10)))
        → Counted (suc k) (cond t (digit n ∷ []) (decimal k (n / 10) ++ digit (n % 10) ∷ []))
    go true q r = counted_one (suc k) n a (ltb-true n 10 q)
    go false q r =
        let i = ltb-false n 10 q in
        let p = pow-suc 10 (suc k) in
        counted_more k (decimal k (n / 10)) (n % 10) (omega arith) (r (omega arith) (omega arith))
