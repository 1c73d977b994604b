-- Of each public function: any two outcomes that its contract allows are equal.
use mathlib.Core.Path.{◌≡◌, refl, ap}
use mathlib.Core.Bool.{Bool-set, true}
use mathlib.Core.HLevel.{is_prop→PathP}
use native.Mathlib.Omega.{arith}
use Rattle.std.specs.Prelude.{Ok, Err}
use Rattle.octets.specs.One.{OneOutcome}
use Rattle.octets.proofs.Alike.{alike}
use Rattle.outcome.specs.declared.Parties.{Parties}
use Rattle.outcome.specs.Acts.{sound}
use Rattle.outcome.specs.contracts as contract
use Rattle.outcome.proofs as fn

pub report_of : OneOutcome contract.report_of.ended fn.report_of.Reads.Post
report_of κs a x y v w p q = (alike p q, refl)

pub refusal : OneOutcome contract.refusal.ended fn.refusal.Reads.Post
refusal κs a x y v w p q = (alike p q, refl)

pub told_service : OneOutcome contract.told_service.ended fn.told_service.Reads.Post
told_service κs a x y v w p q = (alike p q, refl)

pub is_sound : OneOutcome contract.is_sound.ended fn.is_sound.Reads.Post
is_sound κs a x y v w p q = (alike p q, refl)

-- the two parties are known by what they are
one_parties : (p q : Parties) → p.own ≡ q.own → p.e ≡ q.e → p ≡ q
one_parties p q h k = λ i. record {
  own = h i;
  e = k i;
  sound = is_prop→PathP (λ j. sound (h j).now (k j).now ≡ true) (λ j. Bool-set _ _) p.sound q.sound i;
}

pub Parties_new : OneOutcome contract.Parties.new.ended fn.Parties.new.Reads.Post
Parties_new κs a (Ok p) (Ok q) v w f g = (ap Ok (one_parties p q (alike f.0.0 g.0.0) (alike f.0.1 g.0.1)), refl)
Parties_new κs a (Ok p) (Err s) v w f g = absurd (grind arith)
Parties_new κs a (Err r) (Ok q) v w f g = absurd (grind arith)
Parties_new κs a (Err r) (Err s) v w f g = (grind arith, refl)
