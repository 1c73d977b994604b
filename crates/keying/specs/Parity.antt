-- Odd parity of keys.
use Rattle.std.specs.Prelude.{Bool, ℕ, zero, suc, ◌+◌, ◌/◌, ◌%◌, eqb}
use Rattle.octets.specs.Text.{all}
use Rattle.octets.specs.Number.{bytes}

-- how many of the n low bits of x are ones
abbrev pub ones : ℕ → ℕ → ℕ
ones zero x = 0
ones (suc n) x = x % 2 + ones n (x / 2)

-- a byte with an odd number of ones
unfoldable pub odd_byte : ℕ → Bool
odd_byte b = eqb (ones 8 b % 2) 1

-- odd parity: each of the key's eight bytes has an odd number of ones
unfoldable pub odd : ℕ → Bool
odd key = all odd_byte (bytes 8 key)
