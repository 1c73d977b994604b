-- The contracts of `khl_*`: what a call leaves, by its outcome and by the image and the buffer that it was lent.
use Rattle.std.specs.Prelude.{◌≡◌, ℕ}
use Rattle.octets.specs.Text.{Text}
use Rattle.calls.specs.Outcome.{Outcome}
use Rattle.calls.specs.Calls.{Call}
use Rattle.outcome.specs.Report as outcomes
use Rattle.card.specs.Over.{outcome_over, image_over}
use Rattle.host.specs.Report.{report_bytes}

-- its answer as the result, and the rest in the report
pub record Tells (o : Outcome) (answer : ℕ) (report : Text) : Type 0 where
  pub answer_told : answer ≡ o.answer
  pub report_told : report ≡ report_bytes (outcomes.report o)

-- one that writes, a reply or a new image: that at the front of the buffer, behind it the bytes that were there
pub record Writes (o : Outcome) (before : Text) (answer : ℕ) (buffer report : Text) : Type 0 where
  pub told : Tells o answer report
  pub buffer_after : buffer ≡ outcomes.replied o before

-- one that changes the image that it was lent
pub record Changes (lent : Text) (c : Call) (answer : ℕ) (image report : Text) : Type 0 where
  pub told : Tells (outcome_over lent c) answer report
  pub image_after : image ≡ image_over lent c

-- one that does both
pub record ChangesAndWrites (lent : Text) (c : Call) (before : Text) (answer : ℕ) (image buffer report : Text)
    : Type 0 where
  pub changed : Changes lent c answer image report
  pub wrote : Writes (outcome_over lent c) before answer buffer report
