-- `image::records::put_removed` meets its contract: what is before the record, an empty slot, what is behind the record.
use mathlib.Core.Path.{sym}
use mathlib.Core.List.{[], ◌∷◌}
use native.Mathlib.Omega.{arith}
use lib.Seq.{length-take-le}
use Rattle.octets.proofs.Writing.{wrote_rest, wrote_as}
use Rattle.image.specs.Image.{partner_size}
use Rattle.image.specs.Places.{without_partner}
use Rattle.image.proofs.Buffers.{splice_as}
use Rattle.image.proofs.records.put_removed.Goals as goal

pub slice_bounds-copy-end : goal.slice_bounds-copy-end
slice_bounds-copy-end c =
    let a = c.args in
    sym (length-take-le a.at a.image.now (omega arith))

pub returns : goal.returns
unfolding without_partner
returns c =
    let third = c in
    let second = third in
    let first = second in
    let a = first.args in
    wrote_as (splice_as a.at partner_size (0 ∷ []) a.image.now)
    (wrote_rest (wrote_rest first.copy-a.ensures second.fill.ensures) third.copy.ensures)
