-- The bits so far and what the boxes from i on give are the whole; i boxes give 4 i bits.
use mathlib.Core.Path.{◌≡◌}
use Prim.Native.Nat.{◌*◌, ◌^◌, ◌<◌}
use lib.ListN.{drop}
use Rattle.dea.specs.Tables.{boxes as selections}
use Rattle.dea.specs.Dea as dea
use Rattle.cipher.proofs.substitute.Given as goal

abbrev pub invariant-loop-i : goal.invariant-loop-i
invariant-loop-i l =
    (l.bits < 2 ^ (4 * l.i)) × (dea.substitute l.b l.bits (drop l.i selections) ≡ dea.substitute l.b 0 selections)
