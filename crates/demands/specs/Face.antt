-- The calls of the C face as functions on bytes, as the contracts of `khl_*` have them, and what a host does with what
-- they leave.
use Rattle.std.specs.Prelude.{List, [], ℕ, eqb, length, take, drop}
use Rattle.octets.specs.Text.{Text}
use Rattle.octets.specs.Number.{number}
use Rattle.calls.specs.Words.{in_case◌then◌else◌}
use Rattle.calls.specs.Outcome.{Outcome}
use Rattle.calls.specs.Calls as steps
use Rattle.outcome.specs.Report.{report, replied}
use Rattle.host.specs.Report.{report_bytes}
use Rattle.request.specs.Request.{request_in}
use Rattle.card.specs.Over.{outcome_over, image_over}
use Rattle.card.specs.Whole.{ask_over, start_over, load_over, remove_over}
use Rattle.line.specs.Line.{texts}

-- what a call is lent besides the image and a buffer: a text; or a partner's identity, and with it a request, a
-- service, or a key name and a key
pub data Call : Type 0 where
  receive : Text → Call
  build_ksm : Text → Text → Call
  build_rsi : Text → Text → Call
  ask : Text → Call
  give_up : Text → Call
  load : Text → Text → Text → Call
  remove : Text → Call

-- what a call leaves: its answer, the image, the buffer (the reply's, or that of a new image), the report
pub record Left : Type 0 where
  pub answer : ℕ
  pub image : Text
  pub buffer : Text
  pub report : Text

-- by an outcome and the image after it
unfoldable pub left : Outcome → Text → Text → Left
left o image buffer = record {
  answer = o.answer;
  image = image;
  buffer = replied o buffer;
  report = report_bytes (report o);
}

abbrev pub over_image : Text → Text → steps.Call → Left
over_image image buffer c = left (outcome_over image c) (image_over image c) buffer

-- each call on an image and a buffer; give up is lent no buffer, and leaves any as it was
unfoldable pub leaves : Text → Text → Call → Left
leaves image buffer (receive text) = over_image image buffer (steps.receive (length buffer) text)
leaves image buffer (build_ksm partner request) =
    over_image image buffer (steps.about partner (steps.build_ksm (length buffer) (request_in request)))
leaves image buffer (build_rsi partner service) =
    left (outcome_over image (steps.about partner (steps.build_rsi (length buffer) service))) image buffer
leaves image buffer (ask partner) = left (ask_over image (length buffer) partner) image buffer
leaves image buffer (give_up partner) = over_image image buffer (steps.about partner steps.give_up)
leaves image buffer (load partner name key) = left (load_over image (length buffer) partner name key) image buffer
leaves image buffer (remove partner) = left (remove_over image (length buffer) partner) image buffer

-- start, which is lent no image
unfoldable pub start_leaves : Text → Text → Left
start_leaves own out = left (start_over own (length out)) [] out

-- ---- the host

-- the length that a report tells: its third and fourth byte
unfoldable pub length_told : Text → ℕ
length_told report = number (take 2 (drop 2 report))

-- what a call wrote: the buffer to the length told
unfoldable pub put_out : Left → Text
put_out l = take (length_told l.report) l.buffer

-- the new image, where the answer is 0
unfoldable pub new_image : Left → Text
new_image l = in_case eqb l.answer 0 then put_out l else l.image

-- the image that is kept, to be lent with the next call
unfoldable pub kept : Call → Left → Text
kept (receive text) l = l.image
kept (build_ksm partner request) l = l.image
kept (build_rsi partner service) l = l.image
kept (ask partner) l = l.image
kept (give_up partner) l = l.image
kept (load partner name key) l = new_image l
kept (remove partner) l = new_image l

-- the message that goes out on the line, if there is one
unfoldable pub sent : Call → Left → List Text
sent (receive text) l = texts (put_out l)
sent (build_ksm partner request) l = texts (put_out l)
sent (build_rsi partner service) l = texts (put_out l)
sent (ask partner) l = []
sent (give_up partner) l = []
sent (load partner name key) l = []
sent (remove partner) l = []
