-- Numbers as bytes, the high byte first.
use Rattle.std.specs.Prelude.{[], ◌∷◌, ◌++◌, ℕ, zero, suc, ◌+◌, ◌*◌, ◌/◌, ◌%◌}
use Rattle.octets.specs.Text.{Text}

-- the number whose bytes are those of n and then the text's
abbrev pub number_after : ℕ → Text → ℕ
number_after n [] = n
number_after n (b ∷ s) = number_after (n * 256 + b) s

-- the number that the text's bytes are
unfoldable pub number : Text → ℕ
number s = number_after 0 s

-- the k low bytes of a number
abbrev pub bytes : ℕ → ℕ → Text
bytes zero n = []
bytes (suc k) n = bytes k (n / 256) ++ n % 256 ∷ []

-- the sixteen bytes of two numbers
unfoldable pub of_numbers : ℕ → ℕ → Text
of_numbers first second = bytes 8 first ++ bytes 8 second

-- k times the same byte
abbrev pub copies : ℕ → ℕ → Text
copies zero b = []
copies (suc k) b = b ∷ copies k b
