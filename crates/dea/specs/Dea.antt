-- The Data Encryption Algorithm, as FIPS 46 states it, on numbers: a block of n bits is a number below 2 ^ n, and its
-- bits are numbered from left to right, from 1 to n.
use Rattle.std.specs.Prelude.{List, [], ◌∷◌, reverse, ℕ, ◌+◌, ◌-◌, ◌*◌, ◌/◌, ◌%◌, ◌^◌, get_or, length}
use Rattle.std.specs.Int.Bits.{bit_xor}
use Rattle.dea.specs.Tables.{IP, IP⁻¹, E, P, PC_1, PC_2, shifts, boxes}

-- ---- blocks of bits

-- bit i of the n-bit block x
unfoldable pub bit : ℕ → ℕ → ℕ → ℕ
bit n i x = x / 2 ^ (n - i) % 2

-- the bits so far, and after them the bits of x that the table names
abbrev pub gather : ℕ → ℕ → ℕ → List ℕ → ℕ
gather n x bits [] = bits
gather n x bits (t ∷ table) = gather n x (bits * 2 + bit n t x) table

-- a permuted block: bit t of the n-bit block x for each t of the table, in its order
abbrev pub permute : ℕ → List ℕ → ℕ → ℕ
permute n table x = gather n x 0 table

-- ---- the cipher function f(R, K)

-- a selection function at a block of six bits: the first and the last bit are the row, the four between the column
unfoldable pub select : List ℕ → ℕ → ℕ
select s b = get_or s ((bit 6 1 b * 2 + bit 6 6 b) * 16 + b / 2 % 16) 0

-- the bits so far, and after them the four bits of each selection function at its block of six bits of b
abbrev pub substitute : ℕ → ℕ → List (List ℕ) → ℕ
substitute b bits [] = bits
substitute b bits (s ∷ ss) = substitute b (bits * 16 + select s (b / 64 ^ length ss % 64)) ss

-- f(R, K) = P(S1(B1) S2(B2) .. S8(B8)), where B1 B2 .. B8 = K + E(R) bit by bit modulo 2
unfoldable pub f : ℕ → ℕ → ℕ
f r k = permute 32 P (substitute (bit_xor (permute 32 E r) k) 0 boxes)

-- ---- the key schedule KS

-- s left shifts of a block of 28 bits: the bits leave on the left and come in on the right
unfoldable pub left_shift : ℕ → ℕ → ℕ
left_shift s c = c * 2 ^ s % 2 ^ 28 + c / 2 ^ (28 - s)

-- C and D are shifted for each iteration, and permuted choice 2 of CD is its block of 48 key bits
abbrev pub key_blocks : List ℕ → ℕ → ℕ → List ℕ
key_blocks [] c d = []
key_blocks (s ∷ ss) c d =
    permute 56 PC_2 (left_shift s c * 2 ^ 28 + left_shift s d) ∷ key_blocks ss (left_shift s c) (left_shift s d)

-- K1 to K16; bits 8, 16, .., 64 of the key are for parity and stand in no table
unfoldable pub schedule : ℕ → List ℕ
schedule key = key_blocks shifts (permute 64 PC_1 key / 2 ^ 28) (permute 64 PC_1 key % 2 ^ 28)

-- ---- enciphering and deciphering

-- an iteration for each K: L' = R and R' = L + f(R, K); the preoutput block is R16 L16
abbrev pub iterate : List ℕ → ℕ → ℕ → ℕ
iterate [] l r = r * 2 ^ 32 + l
iterate (k ∷ ks) l r = iterate ks r (bit_xor l (f r k))

-- the initial permutation, the iterations, the inverse of the initial permutation
unfoldable pub cipher : List ℕ → ℕ → ℕ
cipher ks x = permute 64 IP⁻¹ (iterate ks (permute 64 IP x / 2 ^ 32) (permute 64 IP x % 2 ^ 32))

unfoldable pub encipher : ℕ → ℕ → ℕ
encipher key x = cipher (schedule key) x

-- the same algorithm, with K16 first and K1 last
unfoldable pub decipher : ℕ → ℕ → ℕ
decipher key x = cipher (reverse (schedule key)) x
