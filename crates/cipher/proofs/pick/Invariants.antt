-- The bits so far and those that the rest of the table names are the whole permuted block.
use mathlib.Core.Path.{◌≡◌}
use Prim.Native.Nat.{◌<◌, ◌^◌}
use lib.ListN.{drop}
use Rattle.dea.specs.Dea.{gather, permute}
use Rattle.cipher.proofs.pick.Given as goal

abbrev pub invariant-loop-t : goal.invariant-loop-t
invariant-loop-t l =
    (l.bits < 2 ^ l.t-index) × (gather l.n l.x l.bits (drop l.t-index l.table) ≡ permute l.n l.table l.x)
