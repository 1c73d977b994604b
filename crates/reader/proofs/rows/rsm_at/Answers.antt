-- MAC, then the end.
use Rattle.reader.proofs.StageLaws.{rsm_step}
use Rattle.reader.proofs.rows.rsm_at.Goals as goal

pub returns-in_err-mac : goal.returns-in_err-mac
returns-in_err-mac c =
    rw (c.from_residual.ensures, rsm_step c.args.head c.args.text.now c.args.at c.check_field-check.ensures, c.in_err-mac.was)

pub returns : goal.returns
returns c =
    rw (rsm_step c.args.head c.args.text.now c.args.at c.check_field-check.ensures, c.in_ok-mac.was, ← c.closing.ensures)
    c.then_some.ensures
