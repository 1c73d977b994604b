-- Of each public function: any two outcomes that its contract allows are equal.
use mathlib.Core.Path.{refl}
use Rattle.octets.specs.One.{OneOutcome}
use Rattle.octets.proofs.Alike.{alike, ◌also◌}
use Rattle.messages.specs.contracts as contract
use Rattle.messages.proofs as fn

pub write_rsi : OneOutcome contract.write_rsi.ended fn.write_rsi.Reads.Post
write_rsi κs a x y v w p q = (alike p.0 q.0, alike p.1 q.1 also refl)

pub write_rsm : OneOutcome contract.write_rsm.ended fn.write_rsm.Reads.Post
write_rsm κs a x y v w p q = (alike p.0 q.0, alike p.1 q.1 also refl)

pub write_esm : OneOutcome contract.write_esm.ended fn.write_esm.Reads.Post
write_esm κs a x y v w p q = (alike p.0 q.0, alike p.1 q.1 also refl)

pub write_ksm : OneOutcome contract.write_ksm.ended fn.write_ksm.Reads.Post
write_ksm κs a x y v w p q = (alike p.0 q.0, alike p.1 q.1 also refl)
