-- Of each public function: any two outcomes that its contract allows are equal.
use mathlib.Core.Path.{refl}
use Rattle.octets.specs.One.{OneOutcome}
use Rattle.octets.proofs.Alike.{alike}
use Rattle.cipher.specs.contracts as contract
use Rattle.cipher.proofs as fn

pub key_schedule : OneOutcome contract.key_schedule.ended fn.key_schedule.Reads.Post
key_schedule κs a x y v w p q = (alike p q, refl)

pub encipher_with : OneOutcome contract.encipher_with.ended fn.encipher_with.Reads.Post
encipher_with κs a x y v w p q = (alike p q, refl)

pub decipher_with : OneOutcome contract.decipher_with.ended fn.decipher_with.Reads.Post
decipher_with κs a x y v w p q = (alike p q, refl)

pub encipher : OneOutcome contract.encipher.ended fn.encipher.Reads.Post
encipher κs a x y v w p q = (alike p q, refl)

pub decipher : OneOutcome contract.decipher.ended fn.decipher.Reads.Post
decipher κs a x y v w p q = (alike p q, refl)

pub chain : OneOutcome contract.chain.ended fn.chain.Reads.Post
chain κs a x y v w p q = (alike p q, refl)
