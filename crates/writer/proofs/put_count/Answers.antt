-- `writer::put_count` meets its contract: tag, decimal and blank, one after the other. Assumes nothing.
use Rattle.octets.proofs.Writing.{wrote_three}
use Rattle.writer.proofs.put_count.Goals as goal

pub returns : goal.returns
returns c = search wrote_three
