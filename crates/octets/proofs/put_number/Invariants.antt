-- After i bytes so many bytes of the number lie over rest.
use Rattle.octets.specs.Number.{bytes}
use Rattle.octets.proofs.Writing.{Laying}
use Rattle.octets.proofs.put_number.Given as goal

abbrev pub invariant-loop-i : goal.invariant-loop-i
invariant-loop-i l = Laying (bytes l.k l.x) l.initial.rest l.rest l.n l.i
