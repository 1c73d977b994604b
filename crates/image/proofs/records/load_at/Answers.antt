-- `image::records::load_at` meets its contract: refused outside the image and without room, else delivered.
use Rattle.std.specs.Prelude.{None}
use mathlib.Core.Path.{◌≡◌}
use borrow.Author.Rules.{rules}
use lib.ListN.{length}
use Rattle.partner.specs.Record.{entry_bytes, entry_size}
use Rattle.partner.proofs.Storing.{names_size}
use Rattle.image.specs.Results.{added}
use Rattle.image.proofs.Buffers.{Given, added_outside, added_no_room, added_wrote}
use Rattle.image.proofs.records.load_at.Goals.{then-image-at-via-then-image-at}
use Rattle.image.proofs.records.load_at.Goals.{then-image-at-via-else-image-at+then-out-image}
use Rattle.image.proofs.records.load_at.Goals as goal

-- the entry's record has 156 bytes, for each of its names has 16
pub returns-then-image-at : goal.returns-then-image-at
returns-then-image-at c =
    let a = c.args in
    let sized : length (entry_bytes c.args.e) ≡ entry_size =
    let fields = c.well_formed.1.1.0.1.1 in
    let outgoing = fields.1.1.0.1.1.1.1.0.1.1 in
    let incoming = fields.1.1.1.0.1.1.1.0.1.1 in
    names_size c.args.e (search rules) fields.1.0.1.1.0.1.1.0.1.0.1
    outgoing.1.0.1.1.1.0.1.1.0.1.0.1
    outgoing.1.1.0.1.1.1.0.1.1.0.1.0.1
    incoming.1.0.1.1.1.0.1.1.0.1.0.1
    incoming.1.1.0.1.1.1.0.1.1.0.1.0.1 in
    let g : Given (added a.at a.e a.image.now) a.out.now a.out.now None = elim c.then-image-at.branch [
      | then-image-at-via-then-image-at w ↦ added_outside a.at a.image.now a.out.now a.e w.if-image-at.true
      | then-image-at-via-else-image-at+then-out-image w ↦
          added_no_room a.at a.image.now a.out.now a.e sized w.if-image-at.false w.if-out-image.true
    ] in
    record { out_after = g.out_after; value = g.value }

pub returns : goal.returns
returns c =
    let a = c.args in
    let sized : length (entry_bytes c.args.e) ≡ entry_size =
    let fields = c.well_formed.1.1.0.1.1 in
    let outgoing = fields.1.1.0.1.1.1.1.0.1.1 in
    let incoming = fields.1.1.1.0.1.1.1.0.1.1 in
    names_size c.args.e (search rules) fields.1.0.1.1.0.1.1.0.1.0.1
    outgoing.1.0.1.1.1.0.1.1.0.1.0.1
    outgoing.1.1.0.1.1.1.0.1.1.0.1.0.1
    incoming.1.0.1.1.1.0.1.1.0.1.0.1
    incoming.1.1.0.1.1.1.0.1.1.0.1.0.1 in
    let g = added_wrote a.at a.image.now a.out.now a.e sized c.if-image-at.false c.if-out-image.false c.put_added.ensures in
    record { out_after = g.out_after; value = g.value }
