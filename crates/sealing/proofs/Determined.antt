-- Of each public function: any two outcomes that its contract allows are equal.
use mathlib.Core.Path.{refl}
use Rattle.octets.specs.One.{OneOutcome}
use Rattle.octets.proofs.Alike.{alike}
use Rattle.sealing.specs.contracts as contract
use Rattle.sealing.proofs as fn

pub odd : OneOutcome contract.odd.ended fn.odd.Reads.Post
odd κs a x y v w p q = (alike p q, refl)

pub odd_top : OneOutcome contract.odd_top.ended fn.odd_top.Reads.Post
odd_top κs a x y v w p q = (alike p q, refl)

pub seal : OneOutcome contract.seal.ended fn.seal.Reads.Post
seal κs a x y v w p q = (alike p q, refl)

pub unseal : OneOutcome contract.unseal.ended fn.unseal.Reads.Post
unseal κs a x y v w p q = (alike p q, refl)

pub mac_key : OneOutcome contract.mac_key.ended fn.mac_key.Reads.Post
mac_key κs a x y v w p q = (alike p q, refl)

pub mac : OneOutcome contract.mac.ended fn.mac.Reads.Post
mac κs a x y v w p q = (alike p q, refl)

pub conceal : OneOutcome contract.conceal.ended fn.conceal.Reads.Post
conceal κs a x y v w p q = (alike p q, refl)

pub reveal : OneOutcome contract.reveal.ended fn.reveal.Reads.Post
reveal κs a x y v w p q = (alike p q, refl)
