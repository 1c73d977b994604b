-- `writer::digits::put_block` meets its contract: the text, then 16 digits. Assumes nothing.
use Rattle.octets.proofs.Writing.{wrote_rest}
use Rattle.writer.proofs.digits.put_block.Goals as goal

pub returns : goal.returns
returns c = search wrote_rest
