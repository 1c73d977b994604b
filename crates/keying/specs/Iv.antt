-- The value of an IV that is sent enciphered.
use Rattle.std.specs.Prelude.{List, [], ◌∷◌, ℕ}
use Rattle.dea.specs.Dea.{encipher, decipher}

-- the KD of an IV: the second data key if there are two
unfoldable pub last_key : List ℕ → ℕ
last_key [] = 0
last_key (key ∷ []) = key
last_key (first ∷ second ∷ more) = second

-- eKD(value)
unfoldable pub conceal : List ℕ → ℕ → ℕ
conceal keys value = encipher (last_key keys) value

-- the value again
unfoldable pub reveal : List ℕ → ℕ → ℕ
reveal keys concealed = decipher (last_key keys) concealed
