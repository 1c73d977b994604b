-- Laws of digits for their writers: hex digits by their place, and decimal by the digits before the last.
use mathlib.Core.Path.{◌≡◌, refl, sym, ap, ◌∙◌}
use mathlib.Core.List.{[], ◌∷◌, ◌++◌}
use Prim.Native.Nat.{ℕ, zero, suc, ◌+◌, ◌*◌, ◌/◌, ◌%◌, ◌^◌, ◌≤◌, ◌<◌}
use native.Mathlib.Nat.{pow-suc, pow-succ', div-one, div-div-eq-div-mul}
use native.Mathlib.Omega.{arith}
use lib.Dec.{ltb}
use lib.ListN.{get_or}
use lib.Pow.{pow-add}
use mathlib.Core.Bool.{cond}
use borrow.Author.Tests.{lt-ltb, le-ltb}
use Rattle.octets.specs.Text.{Text}
use Rattle.csm.specs.Fields.{digit, hex_text, decimal}

-- ---- hex digits

-- the high digit first
pub hex_front : (k n : ℕ) → hex_text (suc k) n ≡ digit (n / 16 ^ k % 16) ∷ hex_text k n
hex_front zero n = ap (λ (m : ℕ). digit (m % 16) ∷ []) (sym (div-one n))
hex_front (suc k) n =
    let e : n / 16 / 16 ^ k ≡ n / 16 ^ suc k =
    div-div-eq-div-mul n 16 (16 ^ k) ∙ ap (λ (m : ℕ). n / m) (sym (pow-succ' 16 k)) in
    ap (λ (t : Text). t ++ digit (n % 16) ∷ []) (hex_front k (n / 16))
    ∙ ap (λ (m : ℕ). digit (m % 16) ∷ hex_text (suc k) n) e

-- the digit with j digits behind it
pub hex_at : (k n i j : ℕ) → i + j + 1 ≡ k → get_or (hex_text k n) i 0 ≡ digit (n / 16 ^ j % 16)
hex_at zero n i j e = absurd (omega arith)
hex_at (suc k) n zero j e =
    let q : k ≡ j = omega arith in
    ap (λ (t : Text). get_or t 0 0) (hex_front k n) ∙ ap (λ (m : ℕ). digit (n / 16 ^ m % 16)) q
hex_at (suc k) n (suc i) j e =
    ap (λ (t : Text). get_or t (suc i) 0) (hex_front k n) ∙ hex_at k n i j (omega arith)

-- a shift by so many digits
pub hex_shift : (k : ℕ) → 2 ^ (4 * k) ≡ 16 ^ k
hex_shift zero = refl
hex_shift (suc k) =
    let e : 4 * suc k ≡ 4 * k + 4 = omega arith in
    ap (λ (m : ℕ). 2 ^ m) e ∙ pow-add 2 (4 * k) 4 ∙ ap (λ (m : ℕ). m * 16) (hex_shift k) ∙ sym (pow-suc 16 k)

-- ---- decimal

pub decimal_one : (n : ℕ) → n < 10 → decimal 7 n ≡ digit n ∷ []
decimal_one n h = rw (lt-ltb n 10 h)

decimal_wider : (k n : ℕ) → n < 10 ^ suc k → decimal k n ≡ decimal (suc k) n
decimal_wider zero n h = rw (lt-ltb n 10 h)
decimal_wider (suc k) n h =
    let p = pow-suc 10 (suc k) in
    let i = decimal_wider k (n / 10) (omega arith) in
    ap (λ (t : Text). cond (ltb n 10) (digit n ∷ []) (t ++ digit (n % 10) ∷ [])) i

-- the digits before the last, and the last
pub decimal_more : (n : ℕ) → 10 ≤ n → n < 100_000_000 → decimal 7 n ≡ decimal 7 (n / 10) ++ digit (n % 10) ∷ []
decimal_more n h k =
    let i = decimal_wider 6 (n / 10) (omega arith) in
    rw (le-ltb n 10 h) (ap (λ (t : Text). t ++ digit (n % 10) ∷ []) i)
