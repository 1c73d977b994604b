-- SVR, then an optional EDC to the end.
use Rattle.reader.proofs.StageLaws.{rsi_step}
use Rattle.reader.proofs.rows.rsi_at.Goals as goal

pub returns-in_err-svr : goal.returns-in_err-svr
returns-in_err-svr c =
    rw (c.from_residual.ensures, rsi_step c.args.head c.args.text.now c.args.at c.service_field-service.ensures c.check_field-check.ensures, c.in_err-svr.was)

pub returns : goal.returns
returns c =
    rw (rsi_step c.args.head c.args.text.now c.args.at c.service_field-service.ensures c.check_field-check.ensures, c.in_ok-svr.was, ← c.closing.ensures)
    c.then_some.ensures
