-- The initial permutation and its inverse by five exchanges.
use mathlib.Core.Path.{◌≡◌}
use Prim.Native.Nat.{ℕ, ◌*◌, ◌/◌, ◌%◌, ◌^◌, ◌<◌}
use lib.Bits.{bit_xor, bit_and}
use Rattle.dea.specs.Tables.{IP, IP⁻¹}
use Rattle.dea.specs.Dea.{bit, permute}
use Rattle.cipher.specs.Words.{exchange}
use Rattle.dea.proofs.Linear.{Linear, lin_id, lin_comp, lin_shl64, lin_shr, lin_xor, lin_and, lin_test}
use Rattle.dea.proofs.Permutations.{lin_permute}

-- the bits that change places
part : ℕ → ℕ → ℕ → ℕ
part s m x = bit_and (bit_xor (x / 2 ^ s) x) m

lin_part : (s m : ℕ) → Linear (part s m)
unfolding part
lin_part s m =
    lin_comp (λ x. bit_and x m) (λ x. bit_xor (x / 2 ^ s) x) (lin_and m)
    (lin_xor (λ x. x / 2 ^ s) (λ x. x) (lin_shr s) lin_id)

lin_exchange : (s m : ℕ) → Linear (exchange s m)
unfolding exchange part
lin_exchange s m =
    lin_xor (λ x. x) (λ x. bit_xor (part s m x) (part s m x * 2 ^ s % 2 ^ 64)) lin_id
    (lin_xor (part s m) (λ x. part s m x * 2 ^ s % 2 ^ 64) (lin_part s m)
    (lin_comp (λ x. x * 2 ^ s % 2 ^ 64) (part s m) (lin_shl64 s) (lin_part s m)))

-- five exchanges, each by its shift and its mask
abbrev five : ℕ → ℕ → ℕ → ℕ → ℕ → ℕ → ℕ → ℕ → ℕ → ℕ → ℕ → ℕ
five s1 m1 s2 m2 s3 m3 s4 m4 s5 m5 x =
    exchange s5 m5 (exchange s4 m4 (exchange s3 m3 (exchange s2 m2 (exchange s1 m1 x))))

lin_five : (s1 m1 s2 m2 s3 m3 s4 m4 s5 m5 : ℕ) → Linear (five s1 m1 s2 m2 s3 m3 s4 m4 s5 m5)
lin_five s1 m1 s2 m2 s3 m3 s4 m4 s5 m5 =
    lin_comp (exchange s5 m5) _ (lin_exchange s5 m5)
    (lin_comp (exchange s4 m4) _ (lin_exchange s4 m4)
    (lin_comp (exchange s3 m3) _ (lin_exchange s3 m3)
    (lin_comp (exchange s2 m2) (exchange s1 m1) (lin_exchange s2 m2) (lin_exchange s1 m1))))

pub initial : (x : ℕ) → x < 2 ^ 64
    → five 3 0x1111111111111111 6 0x303030303030303 9 0x55005500550055 18 0x333300003333 36 0xf0f0f0f x
    ≡ permute 64 IP x
unfolding exchange IP bit
initial =
    lin_test (five 3 0x1111111111111111 6 0x303030303030303 9 0x55005500550055 18 0x333300003333 36 0xf0f0f0f)
    (permute 64 IP)
    (lin_five 3 0x1111111111111111 6 0x303030303030303 9 0x55005500550055 18 0x333300003333 36 0xf0f0f0f)
    (lin_permute 64 IP) 64 tt

pub inverse : (x : ℕ) → x < 2 ^ 64
    → five 36 0xf0f0f0f 18 0x333300003333 9 0x55005500550055 6 0x303030303030303 3 0x1111111111111111 x
    ≡ permute 64 IP⁻¹ x
unfolding exchange IP⁻¹ bit
inverse =
    lin_test (five 36 0xf0f0f0f 18 0x333300003333 9 0x55005500550055 6 0x303030303030303 3 0x1111111111111111)
    (permute 64 IP⁻¹)
    (lin_five 36 0xf0f0f0f 18 0x333300003333 9 0x55005500550055 6 0x303030303030303 3 0x1111111111111111)
    (lin_permute 64 IP⁻¹) 64 tt
