-- `writer::digits::put_letters` meets its contract: the letters written and left are all. Assumes nothing.
use Rattle.writer.proofs.Letters.{Spelling}
use Rattle.writer.proofs.digits.put_letters.Given as goal

abbrev pub invariant-loop-letter : goal.invariant-loop-letter
invariant-loop-letter l = Spelling l.letters l.initial.rest l.rest l.left l.n l.letter-index
