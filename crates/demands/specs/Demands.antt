-- The three demands about the C face, each sentence with its theorem. Proved as `demands` in proofs/Demands.antt; that the
-- code of the face does what is said of it here is the last page, firmware/specs/Firmware.antt.
use Rattle.std.specs.Prelude.{◌≡◌, true, false, ◌≢◌, ◌↔◌, List, [], ◌∷◌, ℕ, ◌<◌, ◌≤◌, length, drop, None, Some}
use Rattle.octets.specs.Text.{Text, is_name}
use Rattle.octets.specs.Part.{bare}
use Rattle.keying.specs.declared.Top.{Top}
use Rattle.keying.specs.Claims as keying
use Rattle.csm.specs.Claims as csm
use Rattle.partner.specs.declared.Entry.{Entry}
use Rattle.partner.specs.Entry.{confirmed}
use Rattle.partner.specs.Claims as partner
use Rattle.partner.specs.Table.{Table}
use Rattle.image.specs.Image.{largest, decode}
use Rattle.image.specs.Claims as image
use Rattle.calls.specs.Calls.{run}
use Rattle.calls.specs.Calls as paper
use Rattle.calls.specs.Good.{GoodRequest, GoodIdentity}
use Rattle.calls.specs.Claims as calls
use Rattle.calls.specs.Steps as step
use Rattle.calls.specs.Refusals as refusing
use Rattle.calls.specs.Numbers as numbers
use Rattle.request.specs.Request.{request_in}
use Rattle.card.specs.Whole.{top_in}
use Rattle.line.specs.Line.{◌∈◌, Rising}
use Rattle.line.specs.Line as line
use Rattle.demands.specs.Face.{Call, receive, ask, load, leaves, start_leaves, put_out, kept}
use Rattle.demands.specs.Terms.{Bytes, OfBytes, our_identity, entry_stored, entry_told, answers_of, refused}
use Rattle.demands.specs.Terms.{Complains, room_for, step_of, AsTheSteps, Exchange, Exchanged}
use Rattle.demands.specs.Hosts.{Hosts, Allowed, Fresh, Afresh, Reach, Distinct, Agreed, Loaded, Confirms}

-- 1. Every call, on every input, ends with one of document 01's answers. A refusal changes neither the table nor a byte
-- of the reply buffer; answer 4 alone writes its error message, and changes no table.
pub record Demand1 : Type 0 where
  -- one of the call's own answers
  pub answers : (image buffer : Text) (c : Call) → (leaves image buffer c).answer ∈ answers_of c
  pub start_answers : (own out : Text) → (start_leaves own out).answer ∈ (0 ∷ 6 ∷ 10 ∷ [])
  -- a refusal changes no byte of the image, none of the buffer, and reports nothing
  pub refusals : (image buffer : Text) (c : Call)
      → (leaves image buffer c).answer ≢ 0 → (leaves image buffer c).answer ≢ 4
      → leaves image buffer c ≡ refused (leaves image buffer c).answer image buffer
  pub start_refusals : (own out : Text) → (start_leaves own out).answer ≢ 0
      → start_leaves own out ≡ refused (start_leaves own out).answer [] out
  -- 4, which receive alone gives, writes its ESM and leaves the image
  pub errors : (image text buffer : Text) → (leaves image buffer (receive text)).answer ≡ 4
      → Complains image text (leaves image buffer (receive text))
  -- a reply, or a new image, touches only the bytes of its length
  pub rest_stays : (image buffer : Text) (c : Call) → Bytes image → OfBytes c
      → drop (length (put_out (leaves image buffer c))) (leaves image buffer c).buffer
      ≡ drop (length (put_out (leaves image buffer c))) buffer
  pub start_rest_stays : (own out : Text)
      → drop (length (put_out (start_leaves own out))) (start_leaves own out).buffer
      ≡ drop (length (put_out (start_leaves own out))) out

-- 2. Messages, enciphered keys, counts and MACs are document 01's. Each text has at most one reading and each reading
-- one text; what one end builds the other reads back; each call changes the table exactly as the steps say.
pub record Demand2 : Type 0 where
  -- each text has at most one reading and each reading one text
  pub texts : csm.Claims
  -- a key that is sealed, plain or notarized, is unsealed, an IV that is concealed is revealed
  pub keys : keying.Claims
  -- a record and an image are read back as they were written
  pub records : partner.Claims
  pub images : image.Claims
  -- the numbers to hold it to
  pub starred : numbers.Numbers
  -- each step, in the paper's terms: each good KSM is accepted, and no other
  pub steps : step.Steps
  -- each number's condition, where none earlier in the call's order holds
  pub in_order : refusing.Refusals
  -- every reply a message to the partner, every other entry as it was, no count ever lower
  pub every_call : calls.Claims
  -- 13: no legal image
  pub no_image_is_13 : (image buffer : Text) (c : Call) → decode image ≡ None
      → leaves image buffer c ≡ refused 13 image buffer
  -- then 6
  pub no_room_is_6 : (image buffer : Text) (c : Call) (t : Table) → decode image ≡ Some t
      → length buffer < room_for c → leaves image buffer c ≡ refused 6 image buffer
  -- a key to load that is not of 8 or 16 bytes is 12, with 10 before it
  pub no_key_is_12 : (image buffer partner name key : Text) (t : Table) → decode image ≡ Some t
      → largest ≤ length buffer → top_in key ≡ None → GoodIdentity t partner
      → leaves image buffer (load partner name key) ≡ refused 12 image buffer
  pub no_key_after_10 : (image buffer partner name key : Text) (t : Table) → decode image ≡ Some t
      → largest ≤ length buffer → top_in key ≡ None → (GoodIdentity t partner → ⊥)
      → leaves image buffer (load partner name key) ≡ refused 10 image buffer
  -- else each call writes and changes the table exactly as the steps say
  pub as_the_steps : (image buffer : Text) (c : Call) (d : paper.Call) (t : Table) → Bytes image → OfBytes c
      → decode image ≡ Some t → room_for c ≤ length buffer → step_of (length buffer) c ≡ Some d
      → AsTheSteps image buffer c (run t d) (leaves image buffer c)
  -- start: 6, then 10, else the image of a table with our identity and 64 empty slots
  pub no_room_to_start : (own out : Text) → length out < largest → start_leaves own out ≡ refused 6 [] out
  pub no_identity_to_start : (own out : Text) → largest ≤ length out → is_name own ≡ false
      → start_leaves own out ≡ refused 10 [] out
  pub else_started : (own out : Text) → largest ≤ length out → is_name own ≡ true
      → (t : Table) × ((start_leaves own out).answer ≡ 0)
      × (decode (put_out (start_leaves own out)) ≡ Some t) × refusing.Starts own t
  -- ask tells the entry that the image has
  pub entry_is_told : (image buffer partner : Text) (e : Entry) → Bytes image → 256 ≤ length buffer
      → entry_stored image partner ≡ Some e
      → ((leaves image buffer (ask partner)).answer ≡ 0) × (entry_told image buffer partner ≡ e)
  pub told_is_stored : (image buffer partner : Text) → Bytes image → (leaves image buffer (ask partner)).answer ≡ 0
      → entry_stored image partner ≡ Some (entry_told image buffer partner)
  -- what one end builds, plain or notarized, the other reads back, and its answer is taken
  pub exchange : (x : Exchange) (t u : Table) (e f : Entry) → Bytes x.a → Bytes x.b → Bytes x.request
      → decode x.a ≡ Some t → decode x.b ≡ Some u → x.partner ≡ bare u.own
      → step.Partners t u e f → GoodRequest e (request_in x.request)
      → 256 ≤ length x.first → 256 ≤ length x.second → 256 ≤ length x.third → Exchanged x e

-- 3. Two cards, loaded afresh for each other, on a line that loses, delays, repeats and reorders: whenever A says its
-- keys to B are confirmed, B holds those very keys from A, with their names, under the same count; and the counts that
-- B accepts from A strictly rise.
pub record Demand3 (a b name : Text) (top : Top) : Type 0 where
  -- whenever A's image says confirmed for B, B's image holds those very keys
  pub agreement : {h₀ h : Hosts} → Afresh a b name top h₀ → Reach a b name top h₀ h → Distinct a b name top h
      → (for_b : Entry) → entry_stored h.a b ≡ Some for_b → for_b.sending.phase ≡ confirmed → Agreed a b name top h for_b.sending
  -- and so by what the cards tell: asked for B, A tells confirmed; asked for A, B tells those keys under that count
  pub as_told : {h₀ h : Hosts} → Afresh a b name top h₀ → Reach a b name top h₀ h → Distinct a b name top h
      → (first second : Text) → 256 ≤ length second → (leaves h.a first (ask b)).answer ≡ 0
      → (entry_told h.a first b).sending.phase ≡ confirmed
      → ((leaves h.b second (ask a)).answer ≡ 0)
      × ((entry_told h.b second a).receiving.incoming ≡ (entry_told h.a first b).sending.outgoing)
      × ((entry_told h.b second a).receiving.expected ≡ (entry_told h.a first b).sending.next)
  -- the counts that B accepts from A strictly rise
  pub rise : {h₀ h : Hosts} → Afresh a b name top h₀ → Reach a b name top h₀ h → Rising h.accepted
  -- afresh: just started, or just loaded for the other
  pub started : (own other out : Text) → (start_leaves own out).answer ≡ 0
      → Fresh name top own other (put_out (start_leaves own out))
  pub just_loaded : (image buffer other key : Text) → Bytes image → Bytes key → top_in key ≡ Some top
      → (leaves image buffer (load other name key)).answer ≡ 0
      → Fresh name top (our_identity image) other
      (kept (load other name key) (leaves image buffer (load other name key)))
  -- and it comes to that: once both are loaded, each good request of A's for B is confirmed in three calls
  pub confirmed_is_reached : (h : Hosts) (request buffer : Text) → Loaded a b name top h → Bytes request
      → GoodRequest (line.entry_for name top b) (request_in request) → 256 ≤ length buffer
      → Confirms a b name top h (request_in request)
  -- of a call no more is asked than `line` asks of the steps that it makes
  pub asked_alike : (other : Text) (wrote : List Text) (c : Call) (d : paper.Call) (room answer : ℕ) → OfBytes c
      → step_of room c ≡ Some d → Allowed name top other wrote c answer ↔ line.Allowed name top other wrote d answer
  -- the same of the cards' tables; an old ESM after a resend is harmless
  pub cards : line.Claims a b name top

pub record Demands : Type 0 where
  pub demand_1 : Demand1
  pub demand_2 : Demand2
  pub demand_3 : (a b name : Text) (top : Top) → Demand3 a b name top
