-- `row::stored::put_image` meets its contract: kind 1, our identity, the slots. Assumes nothing.
use Rattle.std.proofs.Common.{ap, ◌++◌, ◌∷◌}
use Rattle.octets.proofs.Writing.{wrote_rest, wrote_as}
use Rattle.partner.specs.declared.Name.{Name}
use Rattle.image.specs.Image.{encode, slots_bytes}
use Rattle.row.proofs.stored.put_image.Goals as goal

pub returns : goal.returns
unfolding encode
returns c =
    wrote_as (ap (λ (n : Name). 1 ∷ (n.bytes ++ slots_bytes c.args.row.now)) c.name_of.ensures)
    (wrote_rest (wrote_rest c.fill-a.ensures c.copy.ensures) c.put_slots.ensures)
