-- For programs: each kind of contents is read by a test and a fold, without printing anything.
use Rattle.std.specs.Prelude.{Option, None, Some}
use mathlib.Core.Path.{◌≡◌, refl, sym, ap, ◌∙◌}
use mathlib.Core.Bool.{Bool, true, false, cond, not, ◌&&◌, true≢false}
use mathlib.Core.List.{List, [], ◌∷◌}
use Prim.Native.Nat.{ℕ, zero, suc, ◌+◌, ◌*◌, ◌/◌, ◌%◌, ◌^◌, ◌≤◌, ◌<◌}
use native.Mathlib.Nat.{pow-suc}
use native.Mathlib.Omega.{arith}
use lib.Dec.{eqb, leb, ltb}
use lib.ListN.{length, get_or}
use borrow.Author.Tests.{eqb-true, le-leb, lt-ltb}
use Rattle.octets.specs.Text.{Text, ascii, all, free, same, within, run_char, is_run}
use Rattle.octets.proofs.Comparing.{both as and_true, same_equal as same_true, same_self as same_refl}
use Rattle.csm.specs.Format.{Word, value, plain}
use Rattle.csm.specs.Fields.{numeral, hex_text, hex, decimal, count, index, error_letters}
use Rattle.csm.specs.Fields.{letters_of, letters_guess, erf, has_P}
use Rattle.csm.proofs.TextLaws.{within_true, true_within}
use Rattle.csm.proofs.FormatLaws.{value_back}
use Rattle.csm.proofs.NumberLaws.{hex_run, hex_length, hex_back, no_zero, decimal_back, decimal_counted}
use Rattle.csm.proofs.FieldLaws.{below_at}

-- a test that the texts of legal values pass, and no others
pub value_test : {A : Type 0} (c : Word A) (p : Text → Bool)
    → ((w : Text) → p w ≡ true → (c.legal (c.guess w) ≡ true) × (c.text (c.guess w) ≡ w))
    → ((a : A) → c.legal a ≡ true → p (c.text a) ≡ true)
    → (w : Text) → value c w ≡ cond (p w) (Some (c.guess w)) None
value_test {A} c p f g w = go (p w) refl (value c w) refl
  where
    go : (b : Bool) → p w ≡ b → (o : Option A) → value c w ≡ o → value c w ≡ cond b (Some (c.guess w)) None
    go true q o r = let h = f w q in rw (h.0, h.1, same_refl w)
    go false q None r = r
    go false q (Some a) r =
        let h = value_back c w a r in
        let i : p w ≡ true = ap p h.1 ∙ g a h.0 in
        absurd (true≢false (sym i ∙ q))

-- names, IV, EDK
pub plain_value : (f : Text → Bool) (w : Text) → value (plain f) w ≡ cond (f w) (Some w) None
plain_value f = value_test (plain f) f (λ w k. (k, refl)) (λ w k. k)

-- ---- hex numbers

pub hex_forth : (k : ℕ) (w : Text) → is_run 70 k k w ≡ true
    → (ltb (numeral 16 0 w) (16 ^ k) ≡ true) × (hex_text k (numeral 16 0 w) ≡ w)
hex_forth k w e =
    let h = and_true (all (run_char 70) w) (within k k (length w)) e in
    let i = within_true k k (length w) h.1 in
    let r = hex_back k w h.0 (omega arith) in
    (lt-ltb (numeral 16 0 w) (16 ^ k) r.high, r.back)

pub hex_passes : (k n : ℕ) → is_run 70 k k (hex_text k n) ≡ true
hex_passes k n = rw (hex_run k n, hex_length k n, le-leb k k (omega arith))

pub hex_value : (k : ℕ) (w : Text) → value (hex k) w ≡ cond (is_run 70 k k w) (Some (numeral 16 0 w)) None
hex_value k = value_test (hex k) (is_run 70 k k) (hex_forth k) (λ n e. hex_passes k n)

-- ---- counts

abbrev pub is_count : Text → Bool
is_count w = is_run 0 1 8 w && no_zero w

pub count_value : (w : Text) → value count w ≡ cond (is_count w) (Some (numeral 10 0 w)) None
count_value = value_test count is_count forth back
  where
    forth : (w : Text) → is_count w ≡ true
        → (within 1 99_999_999 (numeral 10 0 w) ≡ true) × (decimal 7 (numeral 10 0 w) ≡ w)
    forth w e =
        let h = and_true (is_run 0 1 8 w) (no_zero w) e in
        let i = and_true (all (run_char 0) w) (within 1 8 (length w)) h.0 in
        let j = within_true 1 8 (length w) i.1 in
        let r = decimal_back 7 w i.0 h.1 j.0 j.1 in
        let low = r.low in
        let high = r.high in
        (true_within 1 99_999_999 (numeral 10 0 w) low (omega arith), r.back)

    back : (n : ℕ) → within 1 99_999_999 n ≡ true → is_count (decimal 7 n) ≡ true
    back n e =
        let h = within_true 1 99_999_999 n e in
        let r = decimal_counted 7 n h.0 (omega arith) in
        let l : within 1 8 (length (decimal 7 n)) ≡ true =
        true_within 1 8 (length (decimal 7 n)) r.some_byte r.few in
        rw (r.digits, l) r.first

-- ---- one of some texts

pub index_back : (ts : List Text) (w : Text) → index ts w < length ts → get_or ts (index ts w) [] ≡ w
index_back [] w h = absurd (omega arith)
index_back (t ∷ ts) w h = go (same t w) refl h (index_back ts w)
  where
    go : (b : Bool) → same t w ≡ b → cond b zero (suc (index ts w)) < suc (length ts)
        → (index ts w < length ts → get_or ts (index ts w) [] ≡ w)
        → get_or (t ∷ ts) (cond b zero (suc (index ts w))) [] ≡ w
    go true q h r = same_true t w q
    go false q h r = r (omega arith)

pub index_low : (ts : List Text) (i : ℕ) → i < length ts → index ts (get_or ts i []) ≤ i
index_low [] i h = absurd (omega arith)
index_low (t ∷ ts) zero h = rw (same_refl t) (omega arith)
index_low (t ∷ ts) (suc i) h = go (same t (get_or ts i [])) (index_low ts i (omega arith))
  where
    go : (b : Bool) → index ts (get_or ts i []) ≤ i → cond b zero (suc (index ts (get_or ts i []))) ≤ suc i
    go true l = omega arith
    go false l = omega arith

-- ---- ERF: letters in order, each at most once, and at least one

abbrev pub in_order : Text → Text → Bool
in_order [] [] = true
in_order [] (x ∷ w) = false
in_order (c ∷ cs) [] = true
in_order (c ∷ cs) (x ∷ w) = cond (eqb x c) (in_order cs w) (in_order cs (x ∷ w))

abbrev pub is_erf : Text → Bool
is_erf w = in_order error_letters w && leb 1 (length w)

letters_zero : (cs : Text) → letters_of cs 0 ≡ []
letters_zero [] = refl
letters_zero (c ∷ cs) = letters_zero cs

pub letters_back : (cs w : Text) → in_order cs w ≡ true → letters_of cs (letters_guess cs w) ≡ w
letters_back [] [] k = refl
letters_back [] (x ∷ w) k = absurd (true≢false (sym k))
letters_back (c ∷ cs) [] k = letters_zero cs
letters_back (c ∷ cs) (x ∷ w) k = go (eqb x c) refl k (letters_back cs w) (letters_back cs (x ∷ w))
  where
    go : (b : Bool) → eqb x c ≡ b → cond b (in_order cs w) (in_order cs (x ∷ w)) ≡ true
        → (in_order cs w ≡ true → letters_of cs (letters_guess cs w) ≡ w)
        → (in_order cs (x ∷ w) ≡ true → letters_of cs (letters_guess cs (x ∷ w)) ≡ x ∷ w)
        → letters_of (c ∷ cs) (cond b (1 + 2 * letters_guess cs w) (2 * letters_guess cs (x ∷ w))) ≡ x ∷ w
    go true q k r s =
        let n = letters_guess cs w in
        let a : (1 + 2 * n) % 2 ≡ 1 = omega arith in
        let b : (1 + 2 * n) / 2 ≡ n = omega arith in
        rw (a, b, r k, ← eqb-true x c q)
    go false q k r s =
        let n = letters_guess cs (x ∷ w) in
        let a : (2 * n) % 2 ≡ 0 = omega arith in
        let b : (2 * n) / 2 ≡ n = omega arith in
        rw (a, b, s k)

pub letters_high : (cs w : Text) → letters_guess cs w < 2 ^ length cs
letters_high [] w = omega arith
letters_high (c ∷ cs) [] = let i = letters_high cs [] in let p = pow-suc 2 (length cs) in omega arith
letters_high (c ∷ cs) (x ∷ w) = go (eqb x c) (letters_high cs w) (letters_high cs (x ∷ w))
  where
    go : (b : Bool) → letters_guess cs w < 2 ^ length cs → letters_guess cs (x ∷ w) < 2 ^ length cs
        → cond b (1 + 2 * letters_guess cs w) (2 * letters_guess cs (x ∷ w)) < 2 ^ suc (length cs)
    go true i j = let p = pow-suc 2 (length cs) in omega arith
    go false i j = let p = pow-suc 2 (length cs) in omega arith

-- no letters are no text
erf_low : (w : Text) (n : ℕ) → letters_of error_letters n ≡ w → leb 1 (length w) ≡ true → 1 ≤ n
erf_low w zero e l = absurd (true≢false (sym l ∙ ap (λ (t : Text). leb 1 (length t)) (sym e)))
erf_low w (suc n) e l = omega arith

pub erf_value : (w : Text) → value erf w ≡ cond (is_erf w) (Some (letters_guess error_letters w)) None
erf_value = value_test erf is_erf forth back
  where
    forth : (w : Text) → is_erf w ≡ true
        → (within 1 511 (letters_guess error_letters w) ≡ true)
        × (letters_of error_letters (letters_guess error_letters w) ≡ w)
    forth w e =
        let h = and_true (in_order error_letters w) (leb 1 (length w)) e in
        let b = letters_back error_letters w h.0 in
        let low = erf_low w (letters_guess error_letters w) b h.1 in
        let high = letters_high error_letters w in
        (true_within 1 511 (letters_guess error_letters w) low (omega arith), b)

    back : (n : ℕ) → within 1 511 n ≡ true → is_erf (letters_of error_letters n) ≡ true
    back zero e = absurd (true≢false (sym e))
    back (suc n) e =
        let h = within_true 1 511 (suc n) e in
        below_at 511 (λ i. is_erf (letters_of error_letters (suc i))) refl n (omega arith)

-- ---- P among the letters is one bit of their number

-- a letter that is not P
other : (b : Bool) (x : ℕ) (w : Text) → eqb x 80 ≡ false → free 80 (cond b (x ∷ w) w) ≡ free 80 w
other true x w e = ap (λ (z : Bool). not z && free 80 w) e
other false x w e = refl

-- P
this : (b : Bool) (w : Text) → free 80 w ≡ true → not (free 80 (cond b (80 ∷ w) w)) ≡ b
this true w e = refl
this false w e = ap not e

pub has_P_bit : (n : ℕ) → has_P n ≡ eqb (n / 128 % 2) 1
has_P_bit n =
    let m = n / 2 / 2 / 2 / 2 / 2 / 2 / 2 in
    let q : m ≡ n / 128 = omega arith in
    ap not
    (other (eqb (n % 2) 1) 65 _ refl ∙ other (eqb (n / 2 % 2) 1) 66 _ refl ∙ other (eqb (n / 2 / 2 % 2) 1) 70 _ refl
    ∙ other (eqb (n / 2 / 2 / 2 % 2) 1) 73 _ refl ∙ other (eqb (n / 2 / 2 / 2 / 2 % 2) 1) 75 _ refl
    ∙ other (eqb (n / 2 / 2 / 2 / 2 / 2 % 2) 1) 77 _ refl ∙ other (eqb (n / 2 / 2 / 2 / 2 / 2 / 2 % 2) 1) 79 _ refl)
    ∙ this (eqb (m % 2) 1) (letters_of (ascii "U") (m / 2)) (other (eqb (m / 2 % 2) 1) 85 [] refl)
    ∙ ap (λ (k : ℕ). eqb (k % 2) 1) q
