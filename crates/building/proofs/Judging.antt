-- What is judged of building a KSM, beside the steps: refused, or done.
use mathlib.Core.Path.{◌≡◌}
use mathlib.Core.Bool.{true, false}
use native.Mathlib.Omega.{arith}
use Rattle.std.specs.Prelude.{ℕ, ◌≤◌}
use Rattle.std.proofs.lemmas.Bool.Decides.{nat_tests}
use Rattle.octets.specs.Text.{Text}
use Rattle.octets.specs.First.{first}
use Rattle.partner.specs.declared.Entry.{Entry}
use Rattle.calls.specs.declared.Refusal.{Refusal}
use Rattle.calls.specs.declared.Request.{Request}
use Rattle.calls.specs.Refusal.{number}
use Rattle.partner.specs.Changes.{with_sending, issued}
use Rattle.calls.specs.Outcome.{nothing, refused, done}
use Rattle.calls.specs.Build.{malformed, outgoing_of, ksm_text}
use Rattle.calls.specs.Build as calls
use Rattle.calls.proofs.Numbered.{number_not_0}
use Rattle.outcome.specs.Acts.{sound, guarded, build_ksm}
use Rattle.building.specs.Order as order
use Rattle.building.proofs.Chosen.{in_cases}

module _ (own : Text) (e : Entry) (room : ℕ) (q : Request) where
  pub ksm_unsound : sound own e ≡ false → build_ksm own e room q ≡ refused e 13
  unfolding build_ksm guarded
  ksm_unsound h = grind (arith, in_cases)

  pub ksm_refused : (r : Refusal) → sound own e ≡ true → number r ≡ first (order.build_ksm e room q)
      → build_ksm own e room q ≡ refused e (number r)
  unfolding build_ksm guarded calls.build_ksm order.build_ksm
  ksm_refused r h p = grind (arith, nat_tests, in_cases, number_not_0)

  -- 0: there is room, and the request is one of the paper
  pub ksm_done : sound own e ≡ true → 0 ≡ first (order.build_ksm e room q)
      → build_ksm own e room q ≡ done (with_sending e (issued e.sending (outgoing_of q))) (ksm_text own e q) nothing
  unfolding build_ksm guarded calls.build_ksm order.build_ksm
  ksm_done h p = grind (arith, nat_tests, in_cases)

  pub roomy : 0 ≡ first (order.build_ksm e room q) → 256 ≤ room
  unfolding order.build_ksm
  roomy p = grind (arith, nat_tests)

  pub well_formed : 0 ≡ first (order.build_ksm e room q) → malformed q ≡ false
  unfolding order.build_ksm
  well_formed p = grind (arith, nat_tests)

pub ruleset judging = (ksm_unsound, ksm_refused, ksm_done, roomy, well_formed)
