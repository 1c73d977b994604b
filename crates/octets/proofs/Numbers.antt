-- Laws of numbers as bytes: the two ways are inverse, and how long and how large they are.
use mathlib.Core.Path.{◌≡◌, refl, sym, ap, ◌∙◌}
use mathlib.Core.Bool.{true}
use mathlib.Core.List.{[], ◌∷◌, ◌++◌}
use Prim.Native.Nat.{ℕ, zero, suc, ◌+◌, ◌*◌, ◌/◌, ◌%◌, ◌^◌, ◌≤◌, ◌<◌}
use native.Mathlib.Nat.{pow-suc, pow-succ', one-le-pow, pow-le-pow_right, mod-lt, mod-eq_of_lt, mod-one}
use native.Mathlib.Nat.{div-one, div-eq_of_lt, div-div-eq-div-mul, mul_assoc, add-mul, zero-add}
use native.Mathlib.Nat.{lt_of_lt_of_le}
use native.Mathlib.Omega.{arith}
use lib.Arith.{digits_lt, digits_div, mod-mul}
use lib.Dec.{ltb}
use lib.ListN.{length, get_or, length-append}
use lib.Pow.{pow-add}
use borrow.Author.Tests.{lt-ltb, ltb-true}
use Rattle.octets.specs.Text.{Text}
use Rattle.octets.specs.Part.{all_octets}
use Rattle.octets.specs.Number.{number_after, number, bytes, copies}
use Rattle.octets.proofs.Comparing.{both, all_append}

power_positive : (k : ℕ) → zero < 256 ^ k
power_positive k = one-le-pow k 256 (omega arith)

-- ---- the bytes of a number

pub length_bytes : (k n : ℕ) → length (bytes k n) ≡ k
length_bytes zero n = refl
length_bytes (suc k) n = length-append (bytes k (n / 256)) (n % 256 ∷ []) ∙ omega (arith, length_bytes k (n / 256))

pub octets_bytes : (k n : ℕ) → all_octets (bytes k n) ≡ true
octets_bytes zero n = refl
octets_bytes (suc k) n =
    let h : ltb (n % 256) 256 ≡ true = lt-ltb (n % 256) 256 (mod-lt n (omega arith)) in
    all_append (λ b. ltb b 256) (bytes k (n / 256)) (n % 256 ∷ []) ∙ rw (octets_bytes k (n / 256), h)

shift : (n k : ℕ) → n / 256 / 256 ^ k ≡ n / 256 ^ suc k
shift n k = div-div-eq-div-mul n 256 (256 ^ k) ∙ ap (λ (m : ℕ). n / m) (sym (pow-succ' 256 k))

-- the high byte first
pub bytes_front : (k n : ℕ) → bytes (suc k) n ≡ n / 256 ^ k % 256 ∷ bytes k n
bytes_front zero n = ap (λ (m : ℕ). m % 256 ∷ []) (sym (div-one n))
bytes_front (suc k) n =
    ap (λ (t : Text). t ++ n % 256 ∷ []) (bytes_front k (n / 256))
    ∙ ap (λ (m : ℕ). m % 256 ∷ bytes (suc k) n) (shift n k)

-- the byte with j bytes behind it
pub bytes_at : (k n i j : ℕ) → i + j + 1 ≡ k → get_or (bytes k n) i 0 ≡ n / 256 ^ j % 256
bytes_at zero n i j e = absurd (omega arith)
bytes_at (suc k) n zero j e =
    let q : k ≡ j = omega arith in
    ap (λ (t : Text). get_or t 0 0) (bytes_front k n) ∙ ap (λ (m : ℕ). n / 256 ^ m % 256) q
bytes_at (suc k) n (suc i) j e =
    ap (λ (t : Text). get_or t (suc i) 0) (bytes_front k n) ∙ bytes_at k n i j (omega arith)

-- ---- the number of a text

pub number_append : (n : ℕ) (s t : Text) → number_after n (s ++ t) ≡ number_after (number_after n s) t
number_append n [] t = refl
number_append n (b ∷ s) t = number_append (n * 256 + b) s t

pub number_bytes : (k n : ℕ) → number (bytes k n) ≡ n % 256 ^ k
unfolding number
number_bytes zero n = sym (mod-one n)
number_bytes (suc k) n =
    number_append 0 (bytes k (n / 256)) (n % 256 ∷ [])
    ∙ ap (λ (m : ℕ). m * 256 + n % 256) (number_bytes k (n / 256))
    ∙ sym (ap (λ (m : ℕ). n % m) (pow-suc 256 k) ∙ mod-mul n (power_positive k) (omega arith))

pub number_bytes_below : (k n : ℕ) → n < 256 ^ k → number (bytes k n) ≡ n
number_bytes_below k n h = number_bytes k n ∙ mod-eq_of_lt h

-- what comes before counts by its place
pub number_after_is : (n : ℕ) (s : Text) → number_after n s ≡ n * 256 ^ length s + number s
unfolding number
number_after_is n [] = omega arith
number_after_is n (b ∷ s) =
    let r : n * 256 ^ suc (length s) ≡ n * 256 * 256 ^ length s =
    ap (λ (m : ℕ). n * m) (pow-succ' 256 (length s)) ∙ sym (mul_assoc n 256 (256 ^ length s)) in
    let d : (n * 256 + b) * 256 ^ length s ≡ n * 256 * 256 ^ length s + b * 256 ^ length s =
    add-mul (n * 256) b (256 ^ length s) in
    let i : number_after n (b ∷ s) ≡ (n * 256 + b) * 256 ^ length s + number s = number_after_is (n * 256 + b) s in
    let j : number (b ∷ s) ≡ b * 256 ^ length s + number s =
    ap (λ (m : ℕ). number_after m s) (zero-add b) ∙ number_after_is b s in
    omega arith

pub number_cons : (b : ℕ) (s : Text) → number (b ∷ s) ≡ b * 256 ^ length s + number s
unfolding number
number_cons b s = ap (λ (m : ℕ). number_after m s) (zero-add b) ∙ number_after_is b s

pub number_below : (s : Text) → all_octets s ≡ true → number s < 256 ^ length s
unfolding number
number_below [] e = omega arith
number_below (b ∷ s) e =
    let h = both (ltb b 256) (all_octets s) e in
    let k : b * 256 ^ length s + number s < 256 * 256 ^ length s =
    digits_lt (ltb-true b 256 h.0) (number_below s h.1) in
    omega (arith, number_cons b s, pow-succ' 256 (length s))

bytes_after : (n : ℕ) (s : Text) → all_octets s ≡ true → bytes (length s) (number_after n s) ≡ s
bytes_after n [] e = refl
bytes_after n (b ∷ s) e =
    let h = both (ltb b 256) (all_octets s) e in
    let m = n * 256 + b in
    let d : number_after m s / 256 ^ length s ≡ m =
    ap (λ (x : ℕ). x / 256 ^ length s) (number_after_is m s) ∙ digits_div m (number_below s h.1) in
    let r : number_after m s / 256 ^ length s % 256 ≡ b =
    ap (λ (x : ℕ). x % 256) d ∙ omega (arith, ltb-true b 256 h.0) in
    bytes_front (length s) (number_after m s) ∙ rw r (ap (λ (t : Text). b ∷ t) (bytes_after m s h.1))

pub bytes_number : (s : Text) → all_octets s ≡ true → bytes (length s) (number s) ≡ s
unfolding number
bytes_number s e = bytes_after 0 s e

-- up to eight bytes are a number of 64 bits
pub number_fits : (s : Text) → all_octets s ≡ true → length s ≤ 8 → number s % 2 ^ 64 ≡ number s
number_fits s e h =
    mod-eq_of_lt (lt_of_lt_of_le (number_below s e) (pow-le-pow_right {n = 256} (omega arith) h))

-- ---- a byte of a number of 64 bits

power_is : (k : ℕ) → 2 ^ (8 * k) ≡ 256 ^ k
power_is zero = refl
power_is (suc k) =
    let e : 8 * suc k ≡ 8 * k + 8 = omega arith in
    ap (λ (m : ℕ). 2 ^ m) e ∙ pow-add 2 (8 * k) 8 ∙ ap (λ (m : ℕ). m * 256) (power_is k) ∙ sym (pow-suc 256 k)

pub byte_shift : (x k : ℕ) → x / 2 ^ (8 * k) % 256 ≡ x / 256 ^ k % 256
byte_shift x k = ap (λ (m : ℕ). x / m % 256) (power_is k)

pub byte_beyond : (x k : ℕ) → x < 2 ^ 64 → 8 ≤ k → 0 ≡ x / 256 ^ k % 256
byte_beyond x k h e =
    ap (λ (m : ℕ). m % 256) (sym (div-eq_of_lt (lt_of_lt_of_le h (pow-le-pow_right {n = 256} (omega arith) e))))

-- ---- copies

pub length_copies : (k b : ℕ) → length (copies k b) ≡ k
length_copies zero b = refl
length_copies (suc k) b = ap suc (length_copies k b)
