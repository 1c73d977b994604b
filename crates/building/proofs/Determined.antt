-- Of each public function: any two outcomes that its contract allows are equal.
use mathlib.Core.Path.{refl}
use Rattle.octets.specs.One.{OneOutcome}
use Rattle.octets.proofs.Alike.{alike, ◌also◌}
use Rattle.outcome.proofs.Known.{one_turned}
use Rattle.building.specs.contracts as contract
use Rattle.building.proofs as fn

pub build_ksm : OneOutcome contract.build_ksm.ended fn.build_ksm.Reads.Post
build_ksm κs a x y v w p q = (one_turned _ x y (alike p.0 q.0), refl also refl also refl also alike p.1 q.1 also refl)

pub build_rsi : OneOutcome contract.build_rsi.ended fn.build_rsi.Reads.Post
build_rsi κs a x y v w p q = (one_turned _ x y (alike p.0 q.0), refl also refl also refl also alike p.1 q.1 also refl)

pub give_up : OneOutcome contract.give_up.ended fn.give_up.Reads.Post
give_up κs a x y v w p q = (one_turned _ x y (alike p q), refl)
