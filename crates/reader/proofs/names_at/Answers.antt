-- RCV, then ORG.
use Rattle.reader.proofs.StageLaws.{names_step}
use Rattle.reader.proofs.names_at.Goals as goal

pub returns-in_err-rcv : goal.returns-in_err-rcv
returns-in_err-rcv c =
    rw (c.from_residual.ensures, names_step c.args.text.now c.args.at c.run_field-rcv.ensures c.run_field-org.ensures, c.in_err-rcv.was)

pub returns-in_err-org : goal.returns-in_err-org
returns-in_err-org c =
    rw (c.from_residual-in_err-org.ensures, names_step c.args.text.now c.args.at c.run_field-rcv.ensures c.run_field-org.ensures, c.in_ok-rcv.was, c.in_err-org.was)

pub returns : goal.returns
returns c =
    rw (names_step c.args.text.now c.args.at c.run_field-rcv.ensures c.run_field-org.ensures, c.in_ok-rcv.was, c.in_ok-org.was)
