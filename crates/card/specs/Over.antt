-- A call over the stored image: its outcome, and the image after it (document 01, "Answers" and "Stored image").
use Rattle.std.specs.Prelude.{◌≡◌, None, Some}
use Rattle.octets.specs.Text.{Text}
use Rattle.image.specs.Image.{decode, encode}
use Rattle.calls.specs.Outcome.{Outcome, refusal}
use Rattle.calls.specs.Calls.{Call, run}
use Rattle.outcome.specs.declared.Report.{Report}
use Rattle.outcome.specs.Report.{report, replied}

-- 13 where the bytes are no image, else the call on its table
unfoldable pub outcome_over : Text → Call → Outcome
outcome_over image c = elim (decode image) [ None ↦ refusal 13 | Some t ↦ (run t c).outcome ]

-- the image of the table after it; the bytes as they were where they are no image
unfoldable pub image_over : Text → Call → Text
image_over image c = elim (decode image) [ None ↦ image | Some t ↦ encode (run t c).table ]

-- ---- what a call over a lent image ends with

-- what it gives, and the image and the reply buffer after it
pub record Called (image : Text) (c : Call) (buffer : Text) (given : Report) (image_after buffer_after : Text) : Type 0 where
  pub told : given ≡ report (outcome_over image c)
  pub stored : image_after ≡ image_over image c
  pub reply : buffer_after ≡ replied (outcome_over image c) buffer

-- the same without a reply buffer
pub record CalledQuietly (image : Text) (c : Call) (given : Report) (image_after : Text) : Type 0 where
  pub told : given ≡ report (outcome_over image c)
  pub stored : image_after ≡ image_over image c

-- what only writes to a lent buffer: what it gives, and the buffer after it
pub record Written (o : Outcome) (buffer : Text) (given : Report) (buffer_after : Text) : Type 0 where
  pub told : given ≡ report o
  pub written : buffer_after ≡ replied o buffer
