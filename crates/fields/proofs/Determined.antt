-- Of each public function: any two outcomes that its contract allows are equal.
use mathlib.Core.Path.{refl}
use Rattle.octets.specs.One.{OneOutcome, OneSeen}
use Rattle.octets.proofs.Alike.{alike}
use Rattle.fields.specs.contracts as contract
use Rattle.fields.proofs as fn

pub name : OneSeen contract.Class.name.ended (λ κs. (λ x. x.now)) fn.Class.name.Reads.Post
name κs a x y v w p q = (alike p q, refl)

pub run_field : OneOutcome contract.run_field.ended fn.run_field.Reads.Post
run_field κs a x y v w p q = (alike p q, refl)

pub count_field : OneOutcome contract.count_field.ended fn.count_field.Reads.Post
count_field κs a x y v w p q = (alike p q, refl)

pub check_field : OneOutcome contract.check_field.ended fn.check_field.Reads.Post
check_field κs a x y v w p q = (alike p q, refl)

pub service_field : OneOutcome contract.service_field.ended fn.service_field.Reads.Post
service_field κs a x y v w p q = (alike p q, refl)

pub letters_field : OneOutcome contract.letters_field.ended fn.letters_field.Reads.Post
letters_field κs a x y v w p q = (alike p q, refl)

pub key_field : OneOutcome contract.key_field.ended fn.key_field.Reads.Post
key_field κs a x y v w p q = (alike p q, refl)

pub class_field : OneOutcome contract.class_field.ended fn.class_field.Reads.Post
class_field κs a x y v w p q = (alike p q, refl)

pub block : OneOutcome contract.words.block.ended fn.words.block.Reads.Post
block κs a x y v w p q = (alike p q, refl)

pub service : OneOutcome contract.words.service.ended fn.words.service.Reads.Post
service κs a x y v w p q = (alike p q, refl)
