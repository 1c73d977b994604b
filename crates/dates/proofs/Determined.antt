-- Of each public function: any two outcomes that its contract allows are equal.
use mathlib.Core.Path.{refl}
use Rattle.octets.specs.One.{OneOutcome}
use Rattle.octets.proofs.Alike.{alike}
use Rattle.dates.specs.contracts as contract
use Rattle.dates.proofs as fn

pub is_date : OneOutcome contract.is_date.ended fn.is_date.Reads.Post
is_date κs a x y v w p q = (alike p q, refl)
