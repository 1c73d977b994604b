-- Of each public function: any two outcomes that its contract allows are equal.
use mathlib.Core.Path.{refl}
use Rattle.octets.specs.One.{OneOutcome, OneSeen}
use Rattle.octets.proofs.Alike.{alike, ◌also◌}
use Rattle.image.specs.contracts as contract
use Rattle.image.proofs as fn

pub own_identity : OneSeen contract.own_identity.ended (λ κs. (λ x. x.now)) fn.own_identity.Reads.Post
own_identity κs a x y v w p q = (alike p q, refl)

pub slot_of : OneOutcome contract.slot_of.ended fn.slot_of.Reads.Post
slot_of κs a x y v w p q = (alike p q, refl)

pub free_slot : OneOutcome contract.free_slot.ended fn.free_slot.Reads.Post
free_slot κs a x y v w p q = (alike p q, refl)

pub slot : OneOutcome contract.slot.ended fn.slot.Reads.Post
slot κs a x y v w p q = (alike p q, refl)

pub legal : OneOutcome contract.legal.ended fn.legal.Reads.Post
legal κs a x y v w p q = (alike p q, refl)

pub put_slot : OneOutcome contract.put_slot.ended fn.put_slot.Reads.Post
put_slot κs a x y v w p q = (refl, alike p q also refl)

pub load_slot : OneOutcome contract.load_slot.ended fn.load_slot.Reads.Post
load_slot κs a x y v w p q = (alike p.1 q.1, refl also refl also refl also alike p.0 q.0 also refl)

pub remove_slot : OneOutcome contract.remove_slot.ended fn.remove_slot.Reads.Post
remove_slot κs a x y v w p q = (alike p.1 q.1, refl also refl also alike p.0 q.0 also refl)

pub start : OneOutcome contract.start.ended fn.start.Reads.Post
start κs a x y v w p q = (alike p.1 q.1, refl also alike p.0 q.0 also refl)
