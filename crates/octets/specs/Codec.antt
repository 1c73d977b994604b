-- Codecs of fixed width: how a value lies in bytes, part after part; its width, its bytes, and the value that stands at a
-- place of a text.
use Rattle.std.specs.Prelude.{◌≡◌, true, ◌++◌, ℕ, ◌+◌, ◌^◌, ◌<◌, length, take, drop}
use Rattle.octets.specs.Text.{Text}
use Rattle.octets.specs.Part.{all_octets}
use Rattle.octets.specs.Number.{number, bytes, copies}

infixr 20 ◌followed_by◌
-- a number of k bytes, the high byte first; k bytes as they are; one after the other; and as a record, which is put
-- together and taken apart by functions that undo each other
pub data Codec : Type 0 → Type 1 where
  numeral : ℕ → Codec ℕ
  plain : ℕ → Codec Text
  ◌followed_by◌ : {A B : Type 0} → Codec A → Codec B → Codec (A × B)
  as_record : {A B : Type 0} → Codec A → (together : A → B) (apart : B → A) → ((b : B) → together (apart b) ≡ b)
      → ((a : A) → apart (together a) ≡ a) → Codec B

-- how many bytes it has
abbrev pub width : {A : Type 0} → Codec A → ℕ
width (numeral k) = k
width (plain k) = k
width (c followed_by d) = width c + width d
width (as_record c together apart u v) = width c

-- the bytes of a value
abbrev pub written : {A : Type 0} → Codec A → A → Text
written (numeral k) n = bytes k n
written (plain k) t = t
written (c followed_by d) v = written c v.0 ++ written d v.1
written (as_record c together apart u v) b = written c (apart b)

-- k bytes of a text from a place on, zero past the end
abbrev pub part_or_zeros : ℕ → ℕ → Text → Text
part_or_zeros k at s = take k (drop at s ++ copies k 0)

-- the value that stands in a text from a place on
abbrev pub value_at : {A : Type 0} → Codec A → ℕ → Text → A
value_at (numeral k) at s = number (part_or_zeros k at s)
value_at (plain k) at s = part_or_zeros k at s
value_at (c followed_by d) at s = (value_at c at s, value_at d (at + width c) s)
value_at (as_record c together apart u v) at s = together (value_at c at s)

-- a text is k bytes
pub record Octets (k : ℕ) (t : Text) : Type 0 where
  pub size : length t ≡ k
  pub octets : all_octets t ≡ true

-- a value has room in its bytes
abbrev pub Fits : {A : Type 0} → Codec A → A → Type 0
Fits (numeral k) n = n < 256 ^ k
Fits (plain k) t = Octets k t
Fits (c followed_by d) v = Fits c v.0 × Fits d v.1
Fits (as_record c together apart u v) b = Fits c (apart b)
