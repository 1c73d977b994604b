-- `writer::kd::put_name` meets its contract: a dot, then the name. Assumes nothing.
use Rattle.octets.proofs.Writing.{wrote_rest}
use Rattle.writer.proofs.kd.put_name.Goals as goal

pub returns : goal.returns
returns c =
    wrote_rest c.put_text-a.ensures c.put_text.ensures
