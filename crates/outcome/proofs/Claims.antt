-- The claims hold.
use mathlib.Core.Path.{refl, ap, ◌∙◌}
use mathlib.Core.Bool.{not}
use lib.Dec.{ltb}
use borrow.Author.Tests.{lt-ltb, le-ltb}
use Rattle.calls.proofs.Tests.{if_true, if_false}
use Rattle.outcome.specs.Report.{replied}
use Rattle.outcome.specs.Acts.{sound, guarded}
use Rattle.outcome.specs.Claims.{Claims}

pub claims : Claims
unfolding replied sound guarded
claims = record {
  reply_in_front = refl;
  refusal_writes_nothing = λ n buffer. refl;
  turn_13 = λ own e room turn h. if_true _ _ _ (ap not h);
  turn_6 = λ own e room turn h r. if_false _ _ _ (ap not h) ∙ if_true (ltb room 256) _ _ (lt-ltb room 256 r);
  turn_taken = λ own e room turn h r. if_false _ _ _ (ap not h) ∙ if_false (ltb room 256) _ _ (le-ltb room 256 r);
}
