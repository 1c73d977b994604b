-- `image::put_started` meets its contract: kind 1, our identity, 64 times kind 0.
use Rattle.octets.proofs.Writing.{wrote_rest, wrote_as}
use Rattle.image.proofs.Buffers.{started_as}
use Rattle.image.proofs.put_started.Goals as goal

pub returns : goal.returns
returns c =
    wrote_as (started_as c.args.own) (wrote_rest (wrote_rest c.fill-a.ensures c.copy.ensures) c.fill.ensures)
