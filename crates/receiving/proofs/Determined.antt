-- Of each public function: any two outcomes that its contract allows are equal.
use mathlib.Core.Path.{refl}
use Rattle.octets.specs.One.{OneOutcome, OneSeen}
use Rattle.octets.proofs.Alike.{alike, ◌also◌}
use Rattle.outcome.proofs.Known.{one_turned}
use Rattle.receiving.specs.contracts as contract
use Rattle.receiving.proofs as fn

pub receive : OneOutcome contract.receive.ended fn.receive.Reads.Post
receive κs a x y v w p q = (one_turned _ x y (alike p.0 q.0), refl also refl also refl also alike p.1 q.1 also refl)

pub name_in_force : OneSeen contract.keys.name_in_force.ended (λ κs. (λ x. x.now)) fn.keys.name_in_force.Reads.Post
name_in_force κs a x y v w p q = (alike p q, refl)
