-- Of each public function: any two outcomes that its contract allows are equal.
use mathlib.Core.Path.{refl}
use Rattle.octets.specs.One.{OneOutcome}
use Rattle.octets.proofs.Alike.{alike, ◌also◌}
use Rattle.record.specs.contracts as contract
use Rattle.record.proofs as fn

pub entry_in : OneOutcome contract.entry_in.ended fn.entry_in.Reads.Post
entry_in κs a x y v w p q = (alike p q, refl)

pub put_whole : OneOutcome contract.put_whole.ended fn.put_whole.Reads.Post
put_whole κs a x y v w p q = (alike p.count q.count, alike p.text q.text also refl)

pub put_entry : OneOutcome contract.put_entry.ended fn.put_entry.Reads.Post
put_entry κs a x y v w p q = (alike p.1 q.1, alike p.0 q.0 also refl)

pub is_legal : OneOutcome contract.legal.is_legal.ended fn.legal.is_legal.Reads.Post
is_legal κs a x y v w p q = (alike p q, refl)
