-- The words of the first two demands: each call's answers, a refusal, an error, what the steps of document 01 make of a
-- call's bytes, a whole exchange.
use Rattle.std.specs.Prelude.{◌≡◌, true, List, [], ◌∷◌, ◌++◌, ℕ, ◌+◌, eqb, length, take, drop, Option, None, Some}
use Rattle.octets.specs.Text.{Text}
use Rattle.octets.specs.Part.{bare, all_octets}
use Rattle.octets.specs.Number.{bytes, copies}
use Rattle.keying.specs.declared.Top.{Top}
use Rattle.csm.specs.Message.{Reading, Esm, esm, read}
use Rattle.partner.specs.declared.Entry.{Entry}
use Rattle.partner.specs.Entry.{confirmed}
use Rattle.partner.specs.Record.{entry_in, entry_bytes}
use Rattle.partner.specs.Table.{Table}
use Rattle.image.specs.Image.{largest, decode}
use Rattle.calls.specs.Words.{in_case◌then◌else◌}
use Rattle.calls.specs.Outcome.{Outcome, Told, nothing, keys, success}
use Rattle.calls.specs.Calls.{After, entry_of}
use Rattle.calls.specs.Calls as steps
use Rattle.calls.specs.Results.{Keeps}
use Rattle.calls.specs.Steps.{iv_asked, date_asked}
use Rattle.outcome.specs.Report.{report, replied}
use Rattle.host.specs.Report.{report_bytes}
use Rattle.request.specs.Request.{request_in}
use Rattle.card.specs.Whole.{delivering, top_in}
use Rattle.demands.specs.Face.{Call, receive, build_ksm, build_rsi, ask, give_up, load, remove, Left, leaves}
use Rattle.demands.specs.Face.{put_out, kept}

-- ---- bytes

-- each element is below 256: whatever C lends is so
abbrev pub Bytes : Text → Type 0
Bytes s = all_octets s ≡ true

-- it is asked of keys: of a request and of a key to load
abbrev pub OfBytes : Call → Type 0
OfBytes (receive text) = Unit {0}
OfBytes (build_ksm partner request) = Bytes request
OfBytes (build_rsi partner service) = Unit {0}
OfBytes (ask partner) = Unit {0}
OfBytes (give_up partner) = Unit {0}
OfBytes (load partner name key) = Bytes key
OfBytes (remove partner) = Unit {0}

-- the identity in an image: 16 bytes behind the first, filled with blanks
abbrev pub our_identity : Text → Text
our_identity image = bare (take 16 (drop 1 image))

-- the entry that an image has for a partner
abbrev pub in_table : Option Table → Text → Option Entry
in_table None partner = None
in_table (Some t) partner = entry_of partner t

unfoldable pub entry_stored : Text → Text → Option Entry
entry_stored image partner = in_table (decode image) partner

-- the entry that a card tells when it is asked for a partner: the record that it writes
abbrev pub entry_told : Text → Text → Text → Entry
entry_told image buffer partner = entry_in (put_out (leaves image buffer (ask partner)))

-- ---- answers

-- each call's own
abbrev pub answers_of : Call → List ℕ
answers_of (receive text) = 0 ∷ 1 ∷ 2 ∷ 3 ∷ 4 ∷ 5 ∷ 6 ∷ 13 ∷ []
answers_of (build_ksm partner request) = 0 ∷ 3 ∷ 6 ∷ 7 ∷ 8 ∷ 11 ∷ 12 ∷ 13 ∷ []
answers_of (build_rsi partner service) = 0 ∷ 3 ∷ 6 ∷ 12 ∷ 13 ∷ []
answers_of (ask partner) = 0 ∷ 3 ∷ 6 ∷ 13 ∷ []
answers_of (give_up partner) = 0 ∷ 3 ∷ 5 ∷ 13 ∷ []
answers_of (load partner name key) = 0 ∷ 6 ∷ 9 ∷ 10 ∷ 11 ∷ 12 ∷ 13 ∷ []
answers_of (remove partner) = 0 ∷ 3 ∷ 6 ∷ 13 ∷ []

-- a refusal: every byte as it was, and a report that is zero throughout
abbrev pub refused : ℕ → Text → Text → Left
refused n image buffer = record { answer = n; image = image; buffer = buffer; report = copies 32 0 }

-- an error about a text: the image as it was; an ESM to the text's originator; the report has its letters and its
-- length and is zero elsewhere
pub record Complains (image text : Text) (l : Left) : Type 0 where
  pub table_stays : l.image ≡ image
  pub about : Reading
  pub reading : read text ≡ Some about
  pub message : Esm
  pub error : read (put_out l) ≡ Some (record { rcv = about.org; org = our_identity image; body = esm message })
  pub some_letter : message.erf ≡ 0 → ⊥
  pub no_edc : message.edc ≡ None
  pub told : l.report ≡ bytes 2 message.erf ++ (bytes 2 (length (put_out l)) ++ copies 28 0)

-- ---- the steps

-- 6: less room than this
abbrev pub room_for : Call → ℕ
room_for (receive text) = 256
room_for (build_ksm partner request) = 256
room_for (build_rsi partner service) = 256
room_for (ask partner) = 256
room_for (give_up partner) = 0
room_for (load partner name key) = largest
room_for (remove partner) = largest

-- the call of document 01 that is made in so much room; none for a key that is not of 8 or 16 bytes
abbrev pub loading : Text → Text → Option Top → Option steps.Call
loading partner name None = None
loading partner name (Some top) = Some (steps.load partner name top)

abbrev pub step_of : ℕ → Call → Option steps.Call
step_of room (receive text) = Some (steps.receive room text)
step_of room (build_ksm partner request) = Some (steps.about partner (steps.build_ksm room (request_in request)))
step_of room (build_rsi partner service) = Some (steps.about partner (steps.build_rsi room service))
step_of room (ask partner) = Some (steps.about partner steps.ask)
step_of room (give_up partner) = Some (steps.about partner steps.give_up)
step_of room (load partner name key) = loading partner name (top_in key)
step_of room (remove partner) = Some (steps.about partner steps.remove)

-- the record of an entry that is asked for
abbrev pub record_of : Option Entry → Text
record_of None = []
record_of (Some e) = entry_bytes e

-- with 0 the record of the partner's entry
unfoldable pub showing : Text → After → Outcome
showing partner a =
    in_case eqb a.outcome.answer 0 then success (record_of (entry_of partner a.table)) nothing else a.outcome

-- what it gives in bytes: ask writes the record of the entry, load and remove the image of the table
abbrev pub in_bytes : Call → After → Outcome
in_bytes (receive text) a = a.outcome
in_bytes (build_ksm partner request) a = a.outcome
in_bytes (build_rsi partner service) a = a.outcome
in_bytes (ask partner) a = showing partner a
in_bytes (give_up partner) a = a.outcome
in_bytes (load partner name key) a = delivering a
in_bytes (remove partner) a = delivering a

-- the answer is that of the steps, the image that is kept that of the table after them; the buffer has what they write
-- at its front and is as it was behind it, the report tells the rest; the image lent keeps its length
pub record AsTheSteps (image buffer : Text) (c : Call) (a : After) (l : Left) : Type 0 where
  pub answer : l.answer ≡ a.outcome.answer
  pub table : decode (kept c l) ≡ Some a.table
  pub buffer_after : l.buffer ≡ replied (in_bytes c a) buffer
  pub reply : put_out l ≡ (in_bytes c a).reply
  pub report_after : l.report ≡ report_bytes (report (in_bytes c a))
  pub length_stays : length l.image ≡ length image

-- class, service, IV and date, as a report has them behind letters and length
abbrev pub tells : Told → Text
tells t = drop 4 (report_bytes (report (success [] t)))

-- ---- a whole exchange

-- two images, B's identity and a request to A, and three buffers
pub record Exchange : Type 0 where
  pub a : Text
  pub b : Text
  pub partner : Text
  pub request : Text
  pub first : Text
  pub second : Text
  pub third : Text

-- A builds a KSM for B, B receives what A wrote, A receives what B wrote
abbrev pub built : Exchange → Left
built x = leaves x.a x.first (build_ksm x.partner x.request)

abbrev pub taken : Exchange → Left
taken x = leaves x.b x.second (receive (put_out (built x)))

abbrev pub confirming : Exchange → Left
confirming x = leaves (built x).image x.third (receive (put_out (taken x)))

-- both images hold the keys of the request under one count, the IV and the date arrive, and A knows it; e is A's entry
-- for B before
pub record Exchanged (x : Exchange) (e : Entry) : Type 0 where
  pub built_answer : (built x).answer ≡ 0
  pub taken_answer : (taken x).answer ≡ 0
  pub confirming_answer : (confirming x).answer ≡ 0
  pub no_reply : put_out (confirming x) ≡ []
  pub returned : drop 4 (taken x).report
      ≡ tells (keys (iv_asked (request_in x.request)) (date_asked (request_in x.request)))
  pub ours : Entry
  pub theirs : Entry
  pub our_entry : entry_stored (confirming x).image x.partner ≡ Some ours
  pub their_entry : entry_stored (taken x).image (our_identity x.a) ≡ Some theirs
  pub phase : ours.sending.phase ≡ confirmed
  pub requested : Keeps (request_in x.request) ours.sending.outgoing
  pub same_keys : theirs.receiving.incoming ≡ ours.sending.outgoing
  pub sent : ours.sending.next ≡ e.sending.next + 1
  pub accepted : theirs.receiving.expected ≡ e.sending.next + 1
