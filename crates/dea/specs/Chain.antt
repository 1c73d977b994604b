-- Cipher block chaining over a text.
use Rattle.std.specs.Prelude.{List, [], ◌∷◌, ◌++◌, ℕ, zero, suc, ◌+◌, ◌/◌, length, take, drop}
use Rattle.std.specs.Int.Bits.{bit_xor}
use Rattle.octets.specs.Text.{Text}
use Rattle.octets.specs.Number.{number, copies}
use Rattle.dea.specs.Dea.{cipher}

-- the first eight bytes of a text, zero bytes filling the block
unfoldable pub first_block : Text → ℕ
first_block s = number (take 8 (s ++ copies 8 0))

-- the text as n blocks
abbrev pub blocks : ℕ → Text → List ℕ
blocks zero s = []
blocks (suc n) s = first_block s ∷ blocks n (drop 8 s)

-- as many blocks as hold the text: none more where its length is a multiple of 8
unfoldable pub blocks_of : Text → List ℕ
blocks_of s = blocks ((length s + 7) / 8) s

-- each block is added to the last output bit by bit modulo 2 and enciphered; the last output
abbrev pub chain : List ℕ → ℕ → List ℕ → ℕ
chain ks output [] = output
chain ks output (b ∷ bs) = chain ks (cipher ks (bit_xor output b)) bs

unfoldable pub chained : List ℕ → ℕ → Text → ℕ
chained ks start s = chain ks start (blocks_of s)
