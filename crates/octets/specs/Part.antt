-- Parts of a text, and texts that are bytes.
use Rattle.std.specs.Prelude.{Bool, true, false, cond, [], ◌∷◌, ℕ, zero, suc, eqb, ltb, take, drop, Option, None, Some}
use Rattle.octets.specs.Text.{Text, blank, all}
use Rattle.octets.specs.declared.Span.{Span}

-- how many bytes stand before the first x: all of them where there is none
abbrev pub before : ℕ → Text → ℕ
before x [] = zero
before x (y ∷ s) = cond (eqb y x) zero (suc (before x s))

-- what stands before the first blank
abbrev pub bare : Text → Text
bare s = take (before blank s) s

-- what stands at a span, as far as the text reaches
unfoldable pub part : Text → Span → Text
part s p = take p.length (drop p.at s)

-- where what is missing stands
abbrev pub nowhere : Span
nowhere = record { at = zero; length = zero }

-- it is there
abbrev pub found : {A : Type 0} → Option A → Bool
found None = false
found (Some a) = true

-- every element is a byte
abbrev pub all_octets : Text → Bool
all_octets s = all (λ b. ltb b 256) s
