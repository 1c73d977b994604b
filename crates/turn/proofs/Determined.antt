-- Of each public function: any two outcomes that its contract allows are equal.
use mathlib.Core.Path.{refl}
use Rattle.octets.specs.One.{OneOutcome}
use Rattle.octets.proofs.Alike.{alike, ◌also◌}
use Rattle.outcome.proofs.Known.{one_turned}
use Rattle.turn.specs.contracts as contract
use Rattle.turn.proofs as fn

pub take : OneOutcome contract.take.ended fn.take.Reads.Post
take κs a x y v w p q =
    (alike p.0 q.0 also alike p.1.0 q.1.0, refl also refl also refl also refl also refl also alike p.1.1 q.1.1 also refl)

pub turn : OneOutcome contract.turn.ended fn.turn.Reads.Post
turn κs a x y v w p q =
    (one_turned _ x y (alike p.0 q.0), refl also refl also refl also refl also refl also alike p.1 q.1 also refl)

pub refusal : OneOutcome contract.refusal.ended fn.refusal.Reads.Post
refusal κs a x y v w p q = (alike p q, refl)
