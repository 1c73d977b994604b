-- `row::stored::put_slots` meets its contract: record after record. Assumes nothing.
use Rattle.octets.proofs.Writing.{wrote_rest, wrote_as}
use Rattle.row.proofs.Sized.{next_written}
use Rattle.row.proofs.stored.put_slots.Goals as goal

pub loop-e-preserved : goal.loop-e-preserved
loop-e-preserved c =
    wrote_as (next_written c.args.row.now c.loop-e.e-index _ c.loop-e-test.true) (wrote_rest c.loop-e.invariant c.put_slot-at.ensures)
