-- The count of ones by the machine's operation is that of the eight bits of a byte, and parity goes byte by byte.
use mathlib.Core.Path.{◌≡◌, ap, ◌∙◌}
use Prim.Native.Nat.{ℕ, zero, suc, ◌+◌, ◌*◌, ◌/◌, ◌%◌, ◌^◌, ◌<◌}
use native.Mathlib.Omega.{arith}
use native.Mathlib.Nat.{pow-suc}
use lib.Dec.{eqb}
use lib.Count.{ones_step}
use lib.Count
use lib.Arith.{lt-one}
use Rattle.std.specs.Int.{w64, to_be_bytes}
use Rattle.std.specs.List.{list_all}
use Rattle.std.proofs.Math.Nat.{div-div-eq-div-mul}
use Rattle.keying.specs.Parity.{ones, odd_byte, odd}

half_lt : (n x : ℕ) → x < 2 ^ suc n → x / 2 < 2 ^ n
half_lt n x h = let e : 2 ^ suc n ≡ 2 ^ n * 2 = pow-suc 2 n in omega arith

-- of a number of n bits the operation counts the ones among them
counted : (n x : ℕ) → x < 2 ^ n → Count.ones x ≡ ones n x
unfolding Count.ones
counted zero x h = ap Count.ones (lt-one h)
counted (suc n) x h = ones_step x ∙ ap (λ (y : ℕ). x % 2 + y) (counted n (x / 2) (half_lt n x h))

-- a byte with an odd number of ones
parity : (x : ℕ) → eqb (Count.ones (x % 256) % 2) 1 ≡ odd_byte (x % 256)
unfolding odd_byte
parity x = let h : x % 256 < 2 ^ 8 = omega arith in ap (λ (m : ℕ). eqb (m % 2) 1) (counted 8 (x % 256) h)

pub odd_bytes : (key : ℕ) → list_all (λ b. eqb (Count.ones b % 2) 1) (to_be_bytes w64 key) ≡ odd key
unfolding odd
odd_bytes key = simp (parity, div-div-eq-div-mul)
