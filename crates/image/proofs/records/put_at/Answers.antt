-- `image::records::put_at` meets its contract: the entry over the body of the record, where it lies whole in the image.
use Rattle.image.proofs.Buffers.{put_back_so, put_back_not}
use Rattle.image.proofs.records.put_at.Goals as goal

pub returns-then-at-image : goal.returns-then-at-image
returns-then-at-image c =
    let a = c.args in
    put_back_so a.at a.e a.image.now c.put_entry.new.rest c.if-at-image.true c.put_entry.ensures.rest_after

pub returns-else-at-image : goal.returns-else-at-image
returns-else-at-image c =
    let a = c.args in
    put_back_not a.at a.e a.image.now c.if-at-image.false
