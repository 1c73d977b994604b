-- Laws of exclusive-or and of a mask, by the halves of a number and its last bit.
use mathlib.Core.Path.{◌≡◌, refl, sym, ap, ap₂, ◌∙◌}
use Prim.Native.Nat.{ℕ, zero, suc, ◌+◌, ◌*◌, ◌/◌, ◌%◌, ◌<◌}
use native.Mathlib.Nat.{div-add-mod'}
use native.Mathlib.Omega.{arith}
use lib.Arith.{bin_ind}
use lib.Bits.{bit_xor, bit_and, xor_shr, xor_mod, xor_self, xor_zero_r, xor_comm, xor_assoc, and_shr, and_mod}

half : (a b : ℕ) → bit_xor a b / 2 ≡ bit_xor (a / 2) (b / 2)
half a b = xor_shr a b 1

last : (a b : ℕ) → bit_xor a b % 2 ≡ bit_xor (a % 2) (b % 2)
last a b = xor_mod a b 1

by_half_and_last : {x y : ℕ} → x / 2 ≡ y / 2 → x % 2 ≡ y % 2 → x ≡ y
by_half_and_last {x} {y} p q = sym (div-add-mod' x 2) ∙ ap₂ (λ (u v : ℕ). u * 2 + v) p q ∙ div-add-mod' y 2

pub xor_cancel : (a b : ℕ) → bit_xor (bit_xor a b) b ≡ a
xor_cancel a b = xor_assoc a b b ∙ ap (λ (x : ℕ). bit_xor a x) (xor_self b) ∙ xor_zero_r a

pub xor_four : (a b c d : ℕ) → bit_xor (bit_xor a b) (bit_xor c d) ≡ bit_xor (bit_xor a c) (bit_xor b d)
xor_four a b c d =
    xor_assoc a b (bit_xor c d)
    ∙ ap (λ (x : ℕ). bit_xor a x) (sym (xor_assoc b c d) ∙ ap (λ (x : ℕ). bit_xor x d) (xor_comm b c) ∙ xor_assoc c b d)
    ∙ sym (xor_assoc a c (bit_xor b d))

and_xor_bits : (u v w : ℕ) → u < 2 → v < 2 → w < 2 → bit_and (bit_xor u v) w ≡ bit_xor (bit_and u w) (bit_and v w)
and_xor_bits zero v w hu hv hw = refl
and_xor_bits (suc zero) zero zero hu hv hw = refl
and_xor_bits (suc zero) zero (suc zero) hu hv hw = refl
and_xor_bits (suc zero) zero (suc (suc w)) hu hv hw = omega arith
and_xor_bits (suc zero) (suc zero) zero hu hv hw = refl
and_xor_bits (suc zero) (suc zero) (suc zero) hu hv hw = refl
and_xor_bits (suc zero) (suc zero) (suc (suc w)) hu hv hw = omega arith
and_xor_bits (suc zero) (suc (suc v)) w hu hv hw = omega arith
and_xor_bits (suc (suc u)) v w hu hv hw = omega arith

pub and_xor : (a b c : ℕ) → bit_and (bit_xor a b) c ≡ bit_xor (bit_and a c) (bit_and b c)
and_xor =
    bin_ind (λ (n : ℕ). (b c : ℕ) → bit_and (bit_xor n b) c ≡ bit_xor (bit_and n c) (bit_and b c)) (λ b c. refl)
    (λ n ih b c.
    by_half_and_last
    (and_shr (bit_xor n b) c 1 ∙ ap (λ (x : ℕ). bit_and x (c / 2)) (half n b) ∙ ih (b / 2) (c / 2)
    ∙ sym (half (bit_and n c) (bit_and b c) ∙ ap₂ bit_xor (and_shr n c 1) (and_shr b c 1)))
    (and_mod (bit_xor n b) c 1 ∙ ap (λ (x : ℕ). bit_and x (c % 2)) (last n b)
    ∙ and_xor_bits (n % 2) (b % 2) (c % 2) (omega arith) (omega arith) (omega arith)
    ∙ sym (last (bit_and n c) (bit_and b c) ∙ ap₂ bit_xor (and_mod n c 1) (and_mod b c 1))))
