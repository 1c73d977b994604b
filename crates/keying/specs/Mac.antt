-- The MAC.
use Rattle.std.specs.Prelude.{List, [], ◌∷◌, ℕ, ◌/◌, ◌^◌}
use Rattle.std.specs.Int.Bits.{bit_xor}
use Rattle.octets.specs.Text.{Text}
use Rattle.dea.specs.Dea.{schedule}
use Rattle.dea.specs.Chain.{chained}

-- section 9.5: the one data key, or the exclusive-or of the two
unfoldable pub mac_key : List ℕ → ℕ
mac_key [] = 0
mac_key (key ∷ []) = key
mac_key (first ∷ second ∷ more) = bit_xor first second

-- cipher block chaining from a zero start, zero bytes filling the last block: the left 32 bits of the last output
unfoldable pub mac : ℕ → Text → ℕ
mac key text = chained (schedule key) 0 text / 2 ^ 32
