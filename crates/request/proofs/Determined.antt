-- Of each public function: any two outcomes that its contract allows are equal.
use mathlib.Core.Path.{refl}
use Rattle.octets.specs.One.{OneOutcome}
use Rattle.octets.proofs.Alike.{alike}
use Rattle.request.specs.contracts as contract
use Rattle.request.proofs as fn

pub request_in : OneOutcome contract.request_in.ended fn.request_in.Reads.Post
request_in κs a x y v w p q = (alike p q, refl)
