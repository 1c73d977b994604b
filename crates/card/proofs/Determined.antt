-- Of each public function: any two outcomes that its contract allows are equal.
use mathlib.Core.Path.{refl}
use Rattle.octets.specs.One.{OneOutcome}
use Rattle.octets.proofs.Alike.{alike, ◌also◌}
use Rattle.card.specs.contracts as contract
use Rattle.card.proofs as fn

pub receive : OneOutcome contract.receive.ended fn.receive.Reads.Post
receive κs a x y v w p q =
    (alike p.told q.told, alike p.stored q.stored also refl also alike p.reply q.reply also refl)

pub build_ksm : OneOutcome contract.build_ksm.ended fn.build_ksm.Reads.Post
build_ksm κs a x y v w p q =
    (alike p.told q.told, alike p.stored q.stored also refl also refl also alike p.reply q.reply also refl)

pub build_rsi : OneOutcome contract.build_rsi.ended fn.build_rsi.Reads.Post
build_rsi κs a x y v w p q =
    (alike p.told q.told, refl also refl also refl also alike p.written q.written also refl)

pub give_up : OneOutcome contract.give_up.ended fn.give_up.Reads.Post
give_up κs a x y v w p q = (alike p.told q.told, alike p.stored q.stored also refl)

pub ask : OneOutcome contract.ask.ended fn.ask.Reads.Post
ask κs a x y v w p q = (alike p.told q.told, refl also refl also alike p.written q.written also refl)

pub start : OneOutcome contract.start.ended fn.start.Reads.Post
start κs a x y v w p q = (alike p.told q.told, refl also alike p.written q.written also refl)

pub load : OneOutcome contract.load.ended fn.load.Reads.Post
load κs a x y v w p q =
    (alike p.told q.told, refl also refl also refl also refl also alike p.written q.written also refl)

pub remove : OneOutcome contract.remove.ended fn.remove.Reads.Post
remove κs a x y v w p q = (alike p.told q.told, refl also refl also alike p.written q.written also refl)
