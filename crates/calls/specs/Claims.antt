-- What is claimed of every call; proved as `claims` in proofs/Claims.antt.
use Rattle.std.specs.Prelude.{◌≡◌, ◌⊎◌, true, List, ◌∷◌, [], ℕ, ◌≤◌, ◌<◌, ◌^◌, Option, None, Some}
use Rattle.octets.specs.Text.{Text}
use Rattle.octets.specs.Part.{bare}
use Rattle.keying.specs.declared.Top.{Top}
use Rattle.csm.specs.Format.{value}
use Rattle.csm.specs.Fields.{svr}
use Rattle.csm.specs.Message.{Reading, Body, Ksm, Rsm, Esm, rsi, ksm, rsm, esm, option, read}
use Rattle.partner.specs.declared.Entry.{Entry}
use Rattle.partner.specs.Entry.{empty, filled}
use Rattle.partner.specs.Table.{Table, legal, is_empty}
use Rattle.calls.specs.declared.Request.{Request}
use Rattle.calls.specs.Outcome.{Outcome, refusal, nothing}
use Rattle.calls.specs.Calls.{Act, build_ksm, build_rsi, give_up, remove, ask, Call, receive, about, load, entry_of}
use Rattle.calls.specs.Calls.{run}

-- ---- the partner that a call is about

-- the originator of a text; none where it is no message
abbrev pub sender : Option Reading → Text
sender None = []
sender (Some r) = r.org

unfoldable pub subject : Call → Text
subject (receive room text) = sender (read text)
subject (about id a) = id
subject (load id name top) = id

-- the calls but load, which also asks for a free slot
abbrev pub OfOneEntry : Call → Type 0
OfOneEntry (receive room text) = Unit {0}
OfOneEntry (about id a) = Unit {0}
OfOneEntry (load id name top) = ⊥

-- ---- slots

-- a slot before and after a call about a partner: as it was, or that partner's: turned, filled or emptied
pub data Slot (id : Text) : Entry → Entry → Type 0 where
  kept : (e : Entry) → Slot id e e
  turned : (e f : Entry) → e.identity.bytes ≡ id → f.identity.bytes ≡ id → Slot id e f
  placed : (e f : Entry) → is_empty e ≡ true → f.identity.bytes ≡ id → Slot id e f
  emptied : (e : Entry) → e.identity.bytes ≡ id → Slot id e empty

-- the same of each slot of a row
pub data Slotwise (id : Text) : List Entry → List Entry → Type 0 where
  end : Slotwise id [] []
  next : {e f : Entry} {l m : List Entry} → Slot id e f → Slotwise id l m → Slotwise id (e ∷ l) (f ∷ m)

-- ---- replies

-- the text is read as this message from us to them
abbrev pub Carries : Text → Text → Body → Text → Type 0
Carries us them body text = read text ≡ Some (record { rcv = them; org = us; body = body })

-- 4: the letters, and an ESM of these letters; nothing else is told
pub record Complains (us them : Text) (o : Outcome) : Type 0 where
  pub message : Esm
  pub written : Carries us them (esm message) o.reply
  pub same_letters : message.erf ≡ o.letters
  pub some_letter : o.letters ≡ 0 → ⊥
  pub no_edc : message.edc ≡ None
  pub no_more : o.told ≡ nothing

-- 0 for a text that was received: an RSM for a KSM, else no reply
abbrev pub Answers : Text → Text → Body → Text → Type 0
Answers us them (rsi m) reply = reply ≡ []
Answers us them (ksm m) reply = (x : Rsm) × Carries us them (rsm x) reply
Answers us them (rsm m) reply = reply ≡ []
Answers us them (esm m) reply = reply ≡ []
Answers us them (option c w) reply = ⊥

abbrev pub AnswersText : Text → Option Reading → Text → Type 0
AnswersText us None reply = ⊥
AnswersText us (Some r) reply = Answers us r.org r.body reply

-- 0 for an act: a KSM or an RSI where one is built, else no reply
abbrev pub Sends : Text → Text → Act → Text → Type 0
Sends us them (build_ksm room q) reply = (x : Ksm) × Carries us them (ksm x) reply
Sends us them (build_rsi room contents) reply =
    (s : ℕ) × (value svr contents ≡ Some s) × Carries us them (rsi (record { svr = s; edc = None })) reply
Sends us them give_up reply = reply ≡ []
Sends us them remove reply = reply ≡ []
Sends us them ask reply = reply ≡ []

-- 0: the reply of each call
abbrev pub Writes : Text → Call → Text → Type 0
Writes us (receive room text) reply = AnswersText us (read text) reply
Writes us (about id a) reply = Sends us id a reply
Writes us (load id name top) reply = reply ≡ []

-- keys and IV of 64 bits; in a request's bytes they are
pub record Sized (q : Request) : Type 0 where
  pub first : q.first.key < 2 ^ 64
  pub second : q.second.key < 2 ^ 64
  pub iv : q.iv < 2 ^ 64

pub record Claims : Type 0 where
  -- a refusal and an error leave the table as it was
  pub unless_done_nothing_changes : (t : Table) (c : Call)
      → ((run t c).outcome.answer ≡ 0 → ⊥) → (run t c).table ≡ t
  -- with a refusal every other part of the result is zero or empty
  pub refusals_are_bare : (t : Table) (c : Call)
      → ((run t c).outcome.answer ≡ 0 → ⊥) → ((run t c).outcome.answer ≡ 4 → ⊥)
      → (run t c).outcome ≡ refusal (run t c).outcome.answer
  -- with 4 the letters are given and the reply is an ESM to the partner
  pub errors_are_answered : (t : Table) (c : Call) → (run t c).outcome.answer ≡ 4
      → Complains (bare t.own) (subject c) (run t c).outcome
  -- with 0 a reply, if any, is a message from us to the partner
  pub replies : (t : Table) (c : Call) → (run t c).outcome.answer ≡ 0
      → Writes (bare t.own) c (run t c).outcome.reply
  -- no ESM is ever answered
  pub no_esm_is_answered : (t : Table) (room : ℕ) (text us them : Text) (m : Esm)
      → Carries them us (esm m) text → (run t (receive room text)).outcome.reply ≡ []
  -- the card's identity stays, and every other entry stays in its slot
  pub own_stays : (t : Table) (c : Call) → (run t c).table.own ≡ t.own
  pub others_stay : (t : Table) (c : Call) → Slotwise (filled (subject c)) t.slots (run t c).table.slots
  -- a legal table stays legal
  pub stays_legal : (t : Table) (c : Call) → legal t ≡ true → legal (run t c).table ≡ true
  -- a partner's counts never fall
  pub counts_never_fall : (t : Table) (c : Call) (e f : Entry)
      → entry_of (subject c) t ≡ Some e → entry_of (subject c) (run t c).table ≡ Some f
      → (e.sending.next ≤ f.sending.next) × (e.receiving.expected ≤ f.receiving.expected)
  -- what a call does depends on the call, our identity and that partner's entry, and on no other entry
  pub one_entry_decides : (t u : Table) (c : Call) → OfOneEntry c
      → legal t ≡ true → legal u ≡ true → t.own ≡ u.own
      → entry_of (subject c) t ≡ entry_of (subject c) u
      → ((run t c).outcome ≡ (run u c).outcome)
      × (entry_of (subject c) (run t c).table ≡ entry_of (subject c) (run u c).table)
  -- and that is every call but load
  pub all_but_load : (c : Call) → OfOneEntry c ⊎ ((id name : Text) × (top : Top) × (c ≡ load id name top))
