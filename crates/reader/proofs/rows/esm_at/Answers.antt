-- The row, then the counts exactly with P.
use Rattle.std.proofs.Common.{sym, ◌∙◌}
use Rattle.reader.proofs.StageLaws.{esm_step}
use Rattle.reader.proofs.rows.esm_at.Goals as goal

pub returns-in_err-erf : goal.returns-in_err-erf
returns-in_err-erf c =
    rw (
      c.from_residual.ensures,
      esm_step c.args.head c.args.text.now c.args.at c.count_field-sent.ensures c.count_field-received.ensures
          c.letters_field-letters.ensures c.check_field-check.ensures,
      c.in_err-erf.was,
    )

pub returns-then-not-closing : goal.returns-then-not-closing
returns-then-not-closing c =
    rw (
      esm_step c.args.head c.args.text.now c.args.at c.count_field-sent.ensures c.count_field-received.ensures
          c.letters_field-letters.ensures c.check_field-check.ensures,
      c.in_ok-erf.was,
      sym c.closing.ensures ∙ c.if-not-closing.true,
    )

pub returns : goal.returns
returns c =
    rw (
      esm_step c.args.head c.args.text.now c.args.at c.count_field-sent.ensures c.count_field-received.ensures
          c.letters_field-letters.ensures c.check_field-check.ensures,
      c.in_ok-erf.was,
      sym c.closing.ensures ∙ c.if-not-closing.false,
      ← c.is_some.ensures,
      ← c.is_some-2.ensures,
      ← c.counts_with_p.ensures,
    ) c.then_some.ensures
