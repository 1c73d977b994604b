-- `writer::digits::put_hex` meets its contract: after each turn so many digits lie over rest. Assumes nothing.
use Rattle.octets.proofs.Writing.{Laying}
use Rattle.csm.specs.Fields.{hex_text}
use Rattle.writer.proofs.digits.put_hex.Given as goal

abbrev pub invariant-loop-i : goal.invariant-loop-i
invariant-loop-i l = Laying (hex_text l.k l.x) l.initial.rest l.rest l.n l.i
