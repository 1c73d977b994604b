-- `writer::put_field` meets its contract: tag, contents and blank, one after the other. Assumes nothing.
use Rattle.octets.proofs.Writing.{wrote_three}
use Rattle.writer.proofs.put_field.Goals as goal

pub returns : goal.returns
returns c = search wrote_three
