-- What a call gives and its report, as the contracts have them.
use mathlib.Core.Path.{◌≡◌, ap, ◌∙◌}
use Prim.Native.Nat.{ℕ}
use Rattle.octets.specs.Text.{Text}
use Rattle.calls.specs.Outcome.{Outcome}
use Rattle.calls.specs.Calls.{Call}
use Rattle.outcome.specs.declared.Report.{Report}
use Rattle.outcome.specs.Report.{report, replied}
use Rattle.card.specs.Over.{outcome_over, image_over}
use Rattle.host.specs.Report.{report_bytes}
use Rattle.host.specs.Promises.{Tells, Writes, Changes, ChangesAndWrites}

-- an answer and a report's bytes
pub tells : (o : Outcome) {r : Report} {answer : ℕ} {bytes : Text} → r ≡ report o
    → (answer ≡ r.answer) × (bytes ≡ report_bytes r) → Tells o answer bytes
unfolding report
tells o p t = record {
  answer_told = t.0 ∙ ap (λ (r : Report). r.answer) p;
  report_told = t.1 ∙ ap report_bytes p;
}

-- with what stands in the buffer
pub writes : {o : Outcome} {answer : ℕ} {before buffer bytes : Text} → Tells o answer bytes → buffer ≡ replied o before
    → Writes o before answer buffer bytes
writes t b = record { told = t; buffer_after = b }

-- with the image after it
pub changes : {lent : Text} {c : Call} {answer : ℕ} {image bytes : Text} → Tells (outcome_over lent c) answer bytes
    → image ≡ image_over lent c
    → Changes lent c answer image bytes
changes t i = record { told = t; image_after = i }

-- with both
pub changes_and_writes : {lent : Text} {c : Call} {answer : ℕ} {image before buffer bytes : Text}
    → Tells (outcome_over lent c) answer bytes
    → image ≡ image_over lent c → buffer ≡ replied (outcome_over lent c) before
    → ChangesAndWrites lent c before answer image buffer bytes
changes_and_writes t i b = record { changed = changes t i; wrote = writes t b }
