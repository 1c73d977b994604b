-- `image::records::remove_at` meets its contract: refused outside the image and without room, else delivered.
use Rattle.std.specs.Prelude.{None}
use native.Mathlib.Omega.{arith}
use Rattle.image.specs.Results.{removed}
use Rattle.image.proofs.Buffers.{Given, removed_outside, removed_no_room, removed_wrote}
use Rattle.image.proofs.records.remove_at.Goals.{then-image-lt-PARTNER_SIZE-via-then-image-lt-PARTNER_SIZE}
use Rattle.image.proofs.records.remove_at.Goals.{then-image-lt-PARTNER_SIZE-via-else-image-lt-PARTNER_SIZE+then-image-at}
use Rattle.image.proofs.records.remove_at.Goals.{then-image-lt-PARTNER_SIZE-via-else-image-lt-PARTNER_SIZE+else-image-at+then-out-image}
use Rattle.image.proofs.records.remove_at.Goals as goal

pub returns-then-image-lt-PARTNER_SIZE : goal.returns-then-image-lt-PARTNER_SIZE
returns-then-image-lt-PARTNER_SIZE c =
    let a = c.args in
    let g : Given (removed a.at a.image.now) a.out.now a.out.now None =
    elim c.then-image-lt-PARTNER_SIZE.branch [
      | then-image-lt-PARTNER_SIZE-via-then-image-lt-PARTNER_SIZE w ↦ removed_outside a.at a.image.now a.out.now (omega arith)
      | then-image-lt-PARTNER_SIZE-via-else-image-lt-PARTNER_SIZE+then-image-at w ↦ removed_outside a.at a.image.now a.out.now (omega arith)
      | then-image-lt-PARTNER_SIZE-via-else-image-lt-PARTNER_SIZE+else-image-at+then-out-image w ↦
          removed_no_room a.at a.image.now a.out.now (omega arith) (omega arith)
    ] in
    record { out_after = g.out_after; value = g.value }

pub returns : goal.returns
returns c =
    let a = c.args in
    let g = removed_wrote a.at a.image.now a.out.now (omega arith) (omega arith) c.put_removed.ensures in
    record { out_after = g.out_after; value = g.value }
