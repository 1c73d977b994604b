-- Of each public function: any two outcomes that its contract allows are equal.
use mathlib.Core.Path.{refl}
use Rattle.octets.specs.One.{OneOutcome}
use Rattle.octets.proofs.Alike.{alike, ◌also◌}
use Rattle.row.specs.contracts as contract
use Rattle.row.proofs as fn

pub look_up : OneOutcome contract.look_up.ended fn.look_up.Reads.Post
look_up κs a x y v w p q = (alike p q, refl)

pub replace : OneOutcome contract.replace.ended fn.replace.Reads.Post
replace κs a x y v w p q = (refl, alike p q also refl)

pub legal : OneOutcome contract.legal.ended fn.legal.Reads.Post
legal κs a x y v w p q = (alike p q, refl)

pub ask : OneOutcome contract.ask.ended fn.ask.Reads.Post
ask κs a x y v w p q = (alike p q, refl)

pub call : OneOutcome contract.call.ended fn.call.Reads.Post
call κs a x y v w p q = (alike p.given q.given, alike p.row q.row also refl also refl also refl also refl also alike p.reply q.reply also refl)

pub start : OneOutcome contract.start.ended fn.start.Reads.Post
start κs a x y v w p q = (alike p.answer q.answer, alike p.row q.row also refl)

pub read_image : OneOutcome contract.read_image.ended fn.read_image.Reads.Post
read_image κs a x y v w p q = (alike p.answer q.answer, refl also alike p.row q.row also refl)

pub write_image : OneOutcome contract.write_image.ended fn.write_image.Reads.Post
write_image κs a x y v w p q = (alike p.given q.given, refl also refl also alike p.out q.out also refl)
