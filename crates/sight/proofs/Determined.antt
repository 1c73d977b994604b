-- Of each public function: any two outcomes that its contract allows are equal.
use mathlib.Core.Path.{refl}
use Rattle.octets.specs.One.{OneOutcome}
use Rattle.octets.proofs.Alike.{alike, ◌also◌}
use Rattle.sight.specs.contracts as contract
use Rattle.sight.proofs as fn

pub is_empty : OneOutcome contract.is_empty.ended fn.is_empty.Reads.Post
is_empty κs a x y v w p q = (alike p q, refl)

pub differ : OneOutcome contract.differ.ended fn.differ.Reads.Post
differ κs a x y v w p q = (alike p q, refl)

pub unseen : OneOutcome contract.Sight.unseen.ended fn.Sight.unseen.Reads.Post
unseen κs a x y v w p q = (alike p q, refl)

pub see : OneOutcome contract.Sight.see.ended fn.Sight.see.Reads.Post
see κs a x y v w p q = (refl, alike p q also refl)

pub conclude : OneOutcome contract.Sight.conclude.ended fn.Sight.conclude.Reads.Post
conclude κs a x y v w p q = (refl, alike p q also refl)

pub shown : OneOutcome contract.Sight.shown.ended fn.Sight.shown.Reads.Post
shown κs a x y v w p q = (alike p q, refl)

pub at_partner : OneOutcome contract.aims.Aim.at_partner.ended fn.aims.Aim.at_partner.Reads.Post
at_partner κs a x y v w p q = (alike p q, refl)

pub ours : OneOutcome contract.aims.Aim.ours.ended fn.aims.Aim.ours.Reads.Post
ours κs a x y v w p q = (alike p q, refl)

pub with_room : OneOutcome contract.aims.Aim.with_room.ended fn.aims.Aim.with_room.Reads.Post
with_room κs a x y v w p q = (alike p q, refl)

pub aim : OneOutcome contract.aims.Act.aim.ended fn.aims.Act.aim.Reads.Post
aim κs a x y v w p q = (alike p q, refl)
