-- Number by number.
use mathlib.Core.Path.{sym, ◌∙◌}
use mathlib.Core.Bool.{true≢false}
use borrow.Author.Tests.{ne_eqb}
use Rattle.octets.proofs.Comparing.{octets_lent}
use Rattle.octets.proofs.Words.{same_halves, first_differs, other_length}
use Rattle.octets.proofs.same_numbers.Goals.{then-s-eq16, else-s-eq16}
use Rattle.octets.proofs.same_numbers.Goals as goal

pub returns-then-number-first : goal.returns-then-number-first
returns-then-number-first c =
    let a = c.args in
    let s = a.s.now in
    elim c.if-s-eq16.branch [
      | then-s-eq16 w ↦
          sym (same_halves s w.if-s-eq16.true (octets_lent s c.type_inv.s) a.first a.second c.ranges.first.fits
          c.ranges.second.fits w.number.ensures c.number-then-number-first.ensures
          (sym w.value-is ∙ c.if-number-first.true))
      | else-s-eq16 w ↦ absurd (true≢false (sym c.if-number-first.true ∙ w.value-is ∙ ne_eqb _ _ w.if-s-eq16.false))
    ]

pub returns-else-number-first : goal.returns-else-number-first
returns-else-number-first c =
    let a = c.args in
    let s = a.s.now in
    elim c.if-s-eq16.branch [
      | then-s-eq16 w ↦
          c.if-number-first.false
          ∙ sym (first_differs s w.if-s-eq16.true (octets_lent s c.type_inv.s) a.first a.second c.ranges.first.fits
          c.ranges.second.fits w.number.ensures (sym w.value-is ∙ c.if-number-first.false))
      | else-s-eq16 w ↦ c.if-number-first.false ∙ sym (other_length s a.first a.second w.if-s-eq16.false)
    ]
