-- Of each public function: any two outcomes that its contract allows are equal.
use mathlib.Core.Path.{refl}
use Rattle.octets.specs.One.{OneOutcome}
use Rattle.octets.proofs.Alike.{alike}
use Rattle.reader.specs.contracts as contract
use Rattle.reader.proofs as fn

pub read : OneOutcome contract.read.ended fn.read.Reads.Post
read κs a x y v w p q = (alike p q, refl)

pub covered : OneOutcome contract.covered.ended fn.covered.Reads.Post
covered κs a x y v w p q = (alike p q, refl)

pub head : OneOutcome contract.Message.head.ended fn.Message.head.Reads.Post
head κs a x y v w p q = (alike p q, refl)
