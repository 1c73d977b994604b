-- 1 to 8 digits without a leading zero are a count's text.
use Rattle.std.proofs.Common.{◌≡◌, sym, ◌∙◌, true, ◌≤◌, arith, length}
use borrow.Author.Tests.{eq-eqb, ne_eqb}
use Rattle.octets.specs.Text.{Text, all, within, run_char, is_run}
use Rattle.octets.proofs.Comparing.{both as and_true}
use Rattle.csm.proofs.TextLaws.{within_true}
use Rattle.csm.proofs.WordTests.{count_value}
use Rattle.fields.proofs.DigitLaws.{digits_of, no_zero_first}
use Rattle.fields.proofs.words.count.Goals.{then-not-is_run-via-then-not-is_run, then-not-is_run-via-else-not-is_run+then-w-eq48}
use Rattle.fields.proofs.words.count.Goals as goal

some_digit : (w : Text) → is_run 0 1 8 w ≡ true → 1 ≤ length w
some_digit w e = (within_true 1 8 (length w) (and_true (all (run_char 0) w) (within 1 8 (length w)) e).1).0

pub returns-then-not-is_run : goal.returns-then-not-is_run
returns-then-not-is_run c =
    let w = c.args.w.now in
    elim c.then-not-is_run.branch [
      | then-not-is_run-via-then-not-is_run v ↦ rw (count_value w, sym c.is_run.ensures ∙ v.if-not-is_run.true)
      | then-not-is_run-via-else-not-is_run+then-w-eq48 v ↦
          let e = sym c.is_run.ensures ∙ v.if-not-is_run.false in
          rw (count_value w, e, no_zero_first w (some_digit w e), eq-eqb _ _ v.if-w-eq48.true)
    ]

pub numeral-requires-clause-digits_value : goal.numeral-requires-clause-digits_value
numeral-requires-clause-digits_value c =
    digits_of 0 1 8 (omega arith) (omega arith) c.args.w.now (sym c.is_run.ensures ∙ c.if-not-is_run.false)

pub returns : goal.returns
returns c =
    let w = c.args.w.now in
    let e = sym c.is_run.ensures ∙ c.if-not-is_run.false in
    rw (count_value w, e, no_zero_first w (some_digit w e), ne_eqb _ _ c.if-w-eq48.false, c.numeral.ensures)
