-- Of each public function: any two outcomes that its contract allows are equal.
use mathlib.Core.Path.{refl}
use Rattle.octets.specs.One.{OneOutcome}
use Rattle.octets.proofs.Alike.{alike, ◌also◌}
use Rattle.writer.specs.contracts as contract
use Rattle.writer.proofs as fn

pub put_text : OneOutcome contract.put_text.ended fn.put_text.Reads.Post
put_text κs a x y v w p q = (alike p.count q.count, alike p.text q.text also refl)

pub put_field : OneOutcome contract.put_field.ended fn.put_field.Reads.Post
put_field κs a x y v w p q = (alike p.count q.count, alike p.text q.text also refl)

pub put_count : OneOutcome contract.put_count.ended fn.put_count.Reads.Post
put_count κs a x y v w p q = (alike p.count q.count, alike p.text q.text also refl)

pub put_erf : OneOutcome contract.put_erf.ended fn.put_erf.Reads.Post
put_erf κs a x y v w p q = (alike p.count q.count, alike p.text q.text also refl)

pub put_mac : OneOutcome contract.put_mac.ended fn.put_mac.Reads.Post
put_mac κs a x y v w p q = (alike p.count q.count, alike p.text q.text also refl)

pub put_svr : OneOutcome contract.put_svr.ended fn.put_svr.Reads.Post
put_svr κs a x y v w p q = (alike p.count q.count, alike p.text q.text also refl)

pub put_iv : OneOutcome contract.put_iv.ended fn.put_iv.Reads.Post
put_iv κs a x y v w p q = (alike p.count q.count, alike p.text q.text also refl)

pub put_edk : OneOutcome contract.put_edk.ended fn.put_edk.Reads.Post
put_edk κs a x y v w p q = (alike p.count q.count, alike p.text q.text also refl)

pub put_nos : OneOutcome contract.put_nos.ended fn.put_nos.Reads.Post
put_nos κs a x y v w p q = (alike p.count q.count, alike p.text q.text also refl)

pub put_keys : OneOutcome contract.put_keys.ended fn.put_keys.Reads.Post
put_keys κs a x y v w p q = (alike p.count q.count, alike p.text q.text also refl)
