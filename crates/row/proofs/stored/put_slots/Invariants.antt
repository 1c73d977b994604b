-- The records of the slots so far are written.
use Rattle.std.proofs.Common.{take}
use Rattle.octets.specs.Wrote.{Wrote}
use Rattle.image.specs.Image.{slots_bytes}
use Rattle.row.proofs.stored.put_slots.Given as goal

abbrev pub invariant-loop-e : goal.invariant-loop-e
invariant-loop-e l = Wrote (slots_bytes (take l.e-index l.row)) l.fn.rest l.rest l.at
