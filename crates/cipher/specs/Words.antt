-- What the code's steps work out, each shown equal to FIPS 46 in proofs/.
use Rattle.std.specs.Prelude.{Bool, true, ◌&&◌, List, [], ◌∷◌, ℕ, ◌*◌, ◌/◌, ◌%◌, ◌^◌, leb}
use Rattle.std.specs.Int.Bits.{bit_xor, bit_and}

-- each number of the table is from 1 to n
abbrev pub names_bits : ℕ → List ℕ → Bool
names_bits n [] = true
names_bits n (t ∷ table) = leb 1 t && leb t n && names_bits n table

-- the bits of x under the mask m change places with those s further left
unfoldable pub exchange : ℕ → ℕ → ℕ → ℕ
exchange s m x =
    let t : ℕ = bit_and (bit_xor (x / 2 ^ s) x) m in
    bit_xor x (bit_xor t (t * 2 ^ s % 2 ^ 64))
