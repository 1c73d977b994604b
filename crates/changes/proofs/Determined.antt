-- Of each public function: any two outcomes that its contract allows are equal.
use mathlib.Core.Path.{refl}
use Rattle.octets.specs.One.{OneOutcome}
use Rattle.octets.proofs.Alike.{alike}
use Rattle.changes.specs.contracts as contract
use Rattle.changes.proofs as fn

pub with_sending : OneOutcome contract.with_sending.ended fn.with_sending.Reads.Post
with_sending κs a x y v w p q = (alike p q, refl)

pub with_receiving : OneOutcome contract.with_receiving.ended fn.with_receiving.Reads.Post
with_receiving κs a x y v w p q = (alike p q, refl)

pub loaded : OneOutcome contract.loaded.ended fn.loaded.Reads.Post
loaded κs a x y v w p q = (alike p q, refl)

pub accepted : OneOutcome contract.accepted.ended fn.accepted.Reads.Post
accepted κs a x y v w p q = (alike p q, refl)

pub issued : OneOutcome contract.issued.ended fn.issued.Reads.Post
issued κs a x y v w p q = (alike p q, refl)

pub settled : OneOutcome contract.settled.ended fn.settled.Reads.Post
settled κs a x y v w p q = (alike p q, refl)

pub given_up : OneOutcome contract.given_up.ended fn.given_up.Reads.Post
given_up κs a x y v w p q = (alike p q, refl)

pub failed : OneOutcome contract.failed.ended fn.failed.Reads.Post
failed κs a x y v w p q = (alike p q, refl)
