-- The laws that callers cite: deciphering undoes enciphering and the other way round, and results are blocks.
use mathlib.Core.Path.{◌≡◌, sym, ap, ap₂, ◌∙◌}
use mathlib.Core.List.{List, [], ◌∷◌, ◌++◌, reverse, reverse-cons, reverse-reverse, append_assoc, append-nil}
use Prim.Native.Nat.{ℕ, ◌/◌, ◌%◌, ◌^◌, ◌<◌}
use native.Mathlib.Nat.{mod-lt}
use native.Mathlib.Omega.{arith}
use lib.Pow.{pow_pos, split, high, low}
use lib.Bits.{bit_xor, xor_lt}
use Rattle.dea.specs.Tables.{IP, IP⁻¹, P}
use Rattle.dea.specs.Dea.{f, schedule, cipher, encipher, decipher, permute, iterate}
use Rattle.dea.specs.Claims.{Claims}
use Rattle.dea.proofs.Xor.{xor_cancel}
use Rattle.dea.proofs.Permutations.{permute_lt, inverse_initial, initial_inverse}
use Rattle.dea.proofs.Parity.{parity_bits}

f_lt : (r k : ℕ) → f r k < 2 ^ 32
unfolding f P
f_lt r k = permute_lt 32 P _

step_lt : (l r k : ℕ) → l < 2 ^ 32 → bit_xor l (f r k) < 2 ^ 32
step_lt l r k hl = xor_lt 32 l (f r k) hl (f_lt r k)

iterate_lt : (ks : List ℕ) (l r : ℕ) → l < 2 ^ 32 → r < 2 ^ 32 → iterate ks l r < 2 ^ 64
iterate_lt [] l r hl hr = omega arith
iterate_lt (k ∷ ks) l r hl hr = iterate_lt ks r (bit_xor l (f r k)) hr (step_lt l r k hl)

-- the iterations undone, by the same keys from the last to the first
undo : (ks js : List ℕ) (l r : ℕ) → l < 2 ^ 32 → r < 2 ^ 32
    → iterate (reverse ks ++ js) (iterate ks l r / 2 ^ 32) (iterate ks l r % 2 ^ 32) ≡ iterate js r l
undo [] js l r hl hr = ap₂ (iterate js) (high r 32 hl) (low r 32 hl)
undo (k ∷ ks) js l r hl hr =
    ap (λ (ls : List ℕ).
    iterate ls (iterate ks r (bit_xor l (f r k)) / 2 ^ 32) (iterate ks r (bit_xor l (f r k)) % 2 ^ 32))
    (ap (λ (ls : List ℕ). ls ++ js) (reverse-cons k ks) ∙ append_assoc (reverse ks) (k ∷ []) js)
    ∙ undo ks (k ∷ js) r (bit_xor l (f r k)) hr (step_lt l r k hl)
    ∙ ap (iterate js r) (xor_cancel l (f r k))

left_half : (x : ℕ) → x < 2 ^ 64 → x / 2 ^ 32 < 2 ^ 32
left_half x h = omega arith

pub undone : (ks : List ℕ) (x : ℕ) → x < 2 ^ 64 → cipher (reverse ks) (cipher ks x) ≡ x
unfolding cipher IP
undone ks x hx =
    let l = permute 64 IP x / 2 ^ 32 in
    let r = permute 64 IP x % 2 ^ 32 in
    let hl : l < 2 ^ 32 = left_half (permute 64 IP x) (permute_lt 64 IP x) in
    let hr : r < 2 ^ 32 = mod-lt (permute 64 IP x) (pow_pos 32) in
    ap (λ (y : ℕ). permute 64 IP⁻¹ (iterate (reverse ks) (y / 2 ^ 32) (y % 2 ^ 32)))
    (initial_inverse (iterate ks l r) (iterate_lt ks l r hl hr))
    ∙ ap (λ (ls : List ℕ). permute 64 IP⁻¹ (iterate ls (iterate ks l r / 2 ^ 32) (iterate ks l r % 2 ^ 32)))
    (sym (append-nil (reverse ks)))
    ∙ ap (permute 64 IP⁻¹) (undo ks [] l r hl hr ∙ split (permute 64 IP x) 32)
    ∙ inverse_initial x hx

pub decipher_encipher : (key x : ℕ) → x < 2 ^ 64 → decipher key (encipher key x) ≡ x
unfolding decipher encipher
decipher_encipher key x hx = undone (schedule key) x hx

pub encipher_decipher : (key x : ℕ) → x < 2 ^ 64 → encipher key (decipher key x) ≡ x
unfolding decipher encipher
encipher_decipher key x hx =
    ap (λ (ls : List ℕ). cipher ls (cipher (reverse (schedule key)) x)) (sym (reverse-reverse (schedule key)))
    ∙ undone (reverse (schedule key)) x hx

pub cipher_lt : (ks : List ℕ) (x : ℕ) → cipher ks x < 2 ^ 64
unfolding cipher IP⁻¹
cipher_lt ks x = permute_lt 64 IP⁻¹ _

pub encipher_lt : (key x : ℕ) → encipher key x < 2 ^ 64
unfolding encipher
encipher_lt key x = cipher_lt (schedule key) x

pub decipher_lt : (key x : ℕ) → decipher key x < 2 ^ 64
unfolding decipher
decipher_lt key x = cipher_lt (reverse (schedule key)) x

pub claims : Claims
claims = record {
  decipher_after_encipher = decipher_encipher;
  encipher_after_decipher = encipher_decipher;
  parity_does_nothing = parity_bits;
  enciphered_is_a_block = encipher_lt;
  deciphered_is_a_block = decipher_lt;
}
