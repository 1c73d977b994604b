-- The blocks so far.
use mathlib.Core.Path.{◌≡◌}
use Rattle.cipher.proofs.Substitution.{sixes}
use Rattle.cipher.proofs.expand.Given as goal

abbrev pub invariant-loop-i : goal.invariant-loop-i
invariant-loop-i l = l.bits ≡ sixes l.i l.fn.r
