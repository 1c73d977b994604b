-- Of each public function: any two outcomes that its contract allows are equal.
use mathlib.Core.Path.{refl}
use Rattle.octets.specs.One.{OneOutcome}
use Rattle.octets.proofs.Alike.{alike}
use Rattle.notary.specs.contracts as contract
use Rattle.notary.proofs as fn

pub working : OneOutcome contract.working.ended fn.working.Reads.Post
working κs a x y v w p q = (alike p q, refl)
