-- Of each public function: any two outcomes that its contract allows are equal.
use mathlib.Core.Path.{refl}
use Rattle.octets.specs.One.{OneOutcome}
use Rattle.octets.proofs.Alike.{alike}
use Rattle.calls.specs.contracts as contract
use Rattle.calls.proofs as fn

pub number : OneOutcome contract.Refusal.number.ended fn.Refusal.number.Reads.Post
number κs a x y v w p q = (alike p q, refl)

pub numbered : OneOutcome contract.Refusal.numbered.ended fn.Refusal.numbered.Reads.Post
numbered κs a x y v w p q = (alike p q, refl)
