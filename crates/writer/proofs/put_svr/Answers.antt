-- `writer::put_svr` meets its contract: tag, service and blank, one after the other. Assumes nothing.
use Rattle.octets.proofs.Writing.{wrote_three}
use Rattle.writer.proofs.put_svr.Goals as goal

pub returns : goal.returns
returns c = search wrote_three
