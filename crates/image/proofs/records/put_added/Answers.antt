-- `image::records::put_added` meets its contract: what is before the slot, the record, what is behind the slot.
use mathlib.Core.Path.{sym}
use mathlib.Core.List.{◌∷◌}
use native.Mathlib.Omega.{arith}
use lib.Seq.{length-take-le}
use Rattle.octets.proofs.Writing.{wrote_rest, wrote_as}
use Rattle.partner.specs.Record.{entry_bytes}
use Rattle.image.specs.Places.{with_partner}
use Rattle.image.proofs.Buffers.{splice_as}
use Rattle.image.proofs.records.put_added.Goals as goal

pub slice_bounds-copy-end : goal.slice_bounds-copy-end
slice_bounds-copy-end c =
    let a = c.args in
    sym (length-take-le a.at a.image.now (omega arith))

pub returns : goal.returns
unfolding with_partner
returns c =
    let third = c in
    let second = third in
    let first = second in
    let a = first.args in
    wrote_as (splice_as a.at 1 (2 ∷ entry_bytes a.e) a.image.now)
    (wrote_rest (wrote_rest first.copy-a.ensures second.put_partner.ensures) third.copy.ensures)
