-- Top keys, and data keys enciphered under a working key.
use Rattle.std.specs.Prelude.{Bool, cond, List, [], ◌∷◌, reverse, ℕ, option_map}
use Rattle.octets.specs.Text.{all}
use Rattle.dea.specs.Dea.{encipher, decipher}
use Rattle.keying.specs.declared.Top.{Top}
use Rattle.keying.specs.declared.Top.TheVariants.{Single, Pair}
use Rattle.keying.specs.declared.Blocks.{Blocks}
use Rattle.keying.specs.declared.DataKeys.{DataKeys}
use Rattle.keying.specs.declared.DataKeys.TheVariants.{None, One, Two}
use Rattle.keying.specs.Parity.{odd}

-- the halves of a top key that are in use
abbrev pub halves : Top → List ℕ
halves (Single key) = key ∷ []
halves (Pair left right) = left ∷ right ∷ []

-- odd parity of a top key: of each half in use
unfoldable pub odd_top : Top → Bool
odd_top top = all odd (halves top)

-- a data key under a single key; under a pair ede(K) = eL(dR(eL(K)))
unfoldable pub seal : Top → ℕ → ℕ
seal (Single key) plain = encipher key plain
seal (Pair left right) plain = encipher left (decipher right (encipher left plain))

-- and back: ded
unfoldable pub unseal : Top → ℕ → ℕ
unseal (Single key) sealed = decipher key sealed
unseal (Pair left right) sealed = decipher left (encipher right (decipher left sealed))

-- a schedule, K1 first or, back, K16 first
abbrev pub order : Bool → List ℕ → List ℕ
order back ks = cond back (reverse ks) ks

-- what f makes of one data key or of each of two
unfoldable pub each : (ℕ → ℕ) → Blocks → Blocks
each f blocks = record { first = f blocks.first; second = option_map f blocks.second }

-- the data keys of a message or of an entry, first and second
abbrev pub listed : DataKeys → List ℕ
listed None = []
listed (One key) = key ∷ []
listed (Two first second) = first ∷ second ∷ []
