-- Of each public function: any two outcomes that its contract allows are equal.
use mathlib.Core.Path.{refl}
use Rattle.octets.specs.One.{OneOutcome}
use Rattle.octets.proofs.Alike.{alike}
use Rattle.rules.specs.contracts as contract
use Rattle.rules.proofs as fn

pub is_filled : OneOutcome contract.is_filled.ended fn.is_filled.Reads.Post
is_filled κs a x y v w p q = (alike p q, refl)

pub broken : OneOutcome contract.broken.ended fn.broken.Reads.Post
broken κs a x y v w p q = (alike p q, refl)

pub legal : OneOutcome contract.legal.ended fn.legal.Reads.Post
legal κs a x y v w p q = (alike p q, refl)

pub is_named : OneOutcome contract.is_named.ended fn.is_named.Reads.Post
is_named κs a x y v w p q = (alike p q, refl)

pub is_unused : OneOutcome contract.is_unused.ended fn.is_unused.Reads.Post
is_unused κs a x y v w p q = (alike p q, refl)

pub top_right : OneOutcome contract.top_right.ended fn.top_right.Reads.Post
top_right κs a x y v w p q = (alike p q, refl)

pub sending_right : OneOutcome contract.sending_right.ended fn.sending_right.Reads.Post
sending_right κs a x y v w p q = (alike p q, refl)

pub receiving_right : OneOutcome contract.receiving_right.ended fn.receiving_right.Reads.Post
receiving_right κs a x y v w p q = (alike p q, refl)
