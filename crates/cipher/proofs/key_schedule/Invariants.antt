-- The key blocks so far and those that the shifts still to come give are the schedule.
use mathlib.Core.Path.{◌≡◌}
use mathlib.Core.List.{◌++◌}
use Prim.Native.Nat.{◌<◌, ◌^◌}
use lib.ListN.{length, drop, take}
use Rattle.dea.specs.Tables.{shifts}
use Rattle.dea.specs.Dea.{key_blocks, schedule}
use Rattle.cipher.proofs.key_schedule.Given as goal

abbrev pub invariant-loop-i : goal.invariant-loop-i
invariant-loop-i l =
    (l.c < 2 ^ 28) × (l.d < 2 ^ 28) × (length l.ks ≡ 16)
    × (take l.i l.ks ++ key_blocks (drop l.i shifts) l.c l.d ≡ schedule l.key)
