-- What `left` makes of an outcome: the report's bytes, and what stands in the buffer.
use mathlib.Core.Path.{◌≡◌, refl, sym, ap, ◌∙◌}
use mathlib.Core.List.{◌++◌}
use Prim.Native.Nat.{ℕ, ◌<◌}
use lib.ListN.{length, take, drop}
use lib.Seq.{take-append_seam, drop-append_seam}
use Rattle.octets.specs.Text.{Text}
use Rattle.octets.specs.Number.{bytes, copies}
use Rattle.octets.proofs.Numbers.{number_bytes_below}
use Rattle.calls.specs.Outcome.{Outcome, Told, nothing, refusal}
use Rattle.outcome.specs.Report.{report, replied}
use Rattle.host.specs.Report.{report_bytes}
use Rattle.demands.specs.Face.{left, length_told, put_out}
use Rattle.demands.specs.Terms.{refused}

-- a refusal
pub left_refusal : (n : ℕ) (image buffer : Text) → left (refusal n) image buffer ≡ refused n image buffer
unfolding left replied report report_bytes
left_refusal n image buffer = refl

-- an error: its letters and its length
pub error_report : (o : Outcome) → o.told ≡ nothing
    → report_bytes (report o) ≡ bytes 2 o.letters ++ (bytes 2 (length o.reply) ++ copies 28 0)
unfolding report report_bytes
error_report o h =
    ap (λ (t : Told). report_bytes (report (record {
      answer = o.answer;
      letters = o.letters;
      reply = o.reply;
      told = t;
    }))) h

-- a reply of less than 65,536 bytes is what was written, and behind it the buffer is as it was
module _ (o : Outcome) (image buffer : Text) (short : length o.reply < 65_536) where
  pub told_length : length_told (left o image buffer).report ≡ length o.reply
  unfolding left length_told report report_bytes
  told_length = number_bytes_below 2 (length o.reply) short

  pub written_reply : put_out (left o image buffer) ≡ o.reply
  unfolding left put_out replied
  written_reply =
      ap (λ (n : ℕ). take n (replied o buffer)) told_length
      ∙ take-append_seam o.reply (drop (length o.reply) buffer)

  pub rest_stays : drop (length (put_out (left o image buffer))) (left o image buffer).buffer
      ≡ drop (length (put_out (left o image buffer))) buffer
  unfolding left replied
  rest_stays =
      ap (λ (w : Text). drop (length w) (replied o buffer)) written_reply
      ∙ drop-append_seam o.reply (drop (length o.reply) buffer)
      ∙ ap (λ (w : Text). drop (length w) buffer) (sym written_reply)
