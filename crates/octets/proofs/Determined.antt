-- Of each public function: any two outcomes that its contract allows are equal.
use mathlib.Core.Path.{refl}
use Rattle.octets.specs.One.{OneOutcome, OneSeen}
use Rattle.octets.proofs.Alike.{alike, ◌also◌}
use Rattle.octets.specs.contracts as contract
use Rattle.octets.proofs as fn

pub same : OneOutcome contract.same.ended fn.same.Reads.Post
same κs a x y v w p q = (alike p q, refl)

pub starts : OneOutcome contract.starts.ended fn.starts.Reads.Post
starts κs a x y v w p q = (alike p q, refl)

pub is_run : OneOutcome contract.is_run.ended fn.is_run.Reads.Post
is_run κs a x y v w p q = (alike p q, refl)

pub is_name : OneOutcome contract.is_name.ended fn.is_name.Reads.Post
is_name κs a x y v w p q = (alike p q, refl)

pub until : OneOutcome contract.until.ended fn.until.Reads.Post
until κs a x y v w p q = (alike p q, refl)

pub bare : OneSeen contract.bare.ended (λ κs. (λ x. x.now)) fn.bare.Reads.Post
bare κs a x y v w p q = (alike p q, refl)

pub part : OneSeen contract.part.ended (λ κs. (λ x. x.now)) fn.part.Reads.Post
part κs a x y v w p q = (alike p q, refl)

pub copy : OneOutcome contract.copy.ended fn.copy.Reads.Post
copy κs a x y v w p q = (alike p.count q.count, alike p.text q.text also refl)

pub fill : OneOutcome contract.fill.ended fn.fill.Reads.Post
fill κs a x y v w p q = (alike p.count q.count, alike p.text q.text also refl)

pub same_numbers : OneOutcome contract.same_numbers.ended fn.same_numbers.Reads.Post
same_numbers κs a x y v w p q = (alike p q, refl)

pub number : OneOutcome contract.number.ended fn.number.Reads.Post
number κs a x y v w p q = (alike p q, refl)

pub put_number : OneOutcome contract.put_number.ended fn.put_number.Reads.Post
put_number κs a x y v w p q = (alike p.count q.count, alike p.text q.text also refl)

pub then : OneOutcome contract.then.ended fn.then.Reads.Post
then κs a x y v w p q = (alike p q, refl)
