-- `writer::digits::put_letters` meets its contract: the letters written and left are all. Assumes nothing.
use native.Mathlib.Omega.{arith}
use Rattle.writer.proofs.Letters.{spelling_more}
use Rattle.writer.proofs.digits.put_letters.Goals as goal

pub loop-letter-preserved : goal.loop-letter-preserved
loop-letter-preserved c =
    spelling_more c.loop-letter.invariant (omega arith) c.put_letter-n.ensures
