-- Texts: lists of byte values, the bytes of a quoted text, and runs of characters.
use Rattle.std.specs.Prelude.{Bool, true, false, not, ◌&&◌, ◌||◌, List, [], ◌∷◌, ℕ, eqb, leb, length}
use Prim.Native.Char.{code}
use Prim.Native.String.{String, [] as empty, ◌∷◌ as ◌cons◌}

abbrev pub Text : Type 0
Text = List ℕ

-- the bytes of a quoted text
abbrev pub ascii : String → Text
ascii empty = []
ascii (c cons s) = code c ∷ ascii s

abbrev pub blank : ℕ
blank = code " "

abbrev pub dot : ℕ
dot = code "."

-- a test that every byte passes
abbrev pub all : (ℕ → Bool) → Text → Bool
all p [] = true
all p (x ∷ w) = p x && all p w

-- x does not stand in the text; it stands there
abbrev pub free : ℕ → Text → Bool
free x w = all (λ y. not (eqb y x)) w

abbrev pub stands : ℕ → Text → Bool
stands x w = not (free x w)

-- the two are one text
abbrev pub same : Text → Text → Bool
same [] [] = true
same [] (y ∷ w) = false
same (x ∷ v) [] = false
same (x ∷ v) (y ∷ w) = eqb x y && same v w

-- the text w stands at the front of s
abbrev pub starts : Text → Text → Bool
starts [] s = true
starts (c ∷ w) [] = false
starts (c ∷ w) (x ∷ s) = eqb x c && starts w s

abbrev pub within : ℕ → ℕ → ℕ → Bool
within low high x = leb low x && leb x high

-- a digit, or a capital up to top (0: digits alone)
abbrev pub run_char : ℕ → ℕ → Bool
run_char top x = within (code "0") (code "9") x || within (code "A") top x

-- low to high such characters
abbrev pub is_run : ℕ → ℕ → ℕ → Text → Bool
is_run top low high w = all (run_char top) w && within low high (length w)

-- identities and key names: 1 to 16 of A-Z, 0-9
abbrev pub is_name : Text → Bool
is_name w = is_run (code "Z") 1 16 w
