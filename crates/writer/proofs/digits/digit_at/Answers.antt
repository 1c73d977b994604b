-- `writer::digits::digit_at` meets its contract: a shift by 4 bits drops a digit. Assumes nothing.
use mathlib.Core.Path.{ap, ◌∙◌}
use Prim.Native.Nat.{ℕ, ◌/◌, ◌%◌}
use Rattle.csm.specs.Fields.{digit}
use Rattle.writer.proofs.Numerals.{hex_shift}
use Rattle.writer.proofs.digits.digit_at.Goals as goal

pub returns : goal.returns
returns c =
    let a = c.args in
    c.digit.ensures ∙ ap (λ (m : ℕ). digit (a.x / m % 16)) (hex_shift a.place)
