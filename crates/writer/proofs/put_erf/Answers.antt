-- `writer::put_erf` meets its contract: tag, letters and blank, one after the other. Assumes nothing.
use Rattle.octets.proofs.Writing.{wrote_three}
use Rattle.writer.proofs.put_erf.Goals as goal

pub returns : goal.returns
returns c = search wrote_three
