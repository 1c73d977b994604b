-- Choices of the steps as the check's own.
use mathlib.Core.Path.{◌≡◌, refl}
use mathlib.Core.Bool.{Bool, true, false, cond}
use Rattle.std.proofs.lemmas.Bool.Decides.{nat_tests}
use Rattle.calls.specs.Words.{in_case◌then◌else◌}

pub in_cases : {A : Type 0} (b : Bool) (x y : A) → in_case b then x else y ≡ cond b x y
unfolding in_case◌then◌else◌
in_cases true x y = refl
in_cases false x y = refl

pub ruleset choices = (nat_tests, in_cases)
