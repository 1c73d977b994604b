-- Two cards, A and B, on a bad line: the demand and all that it rests on. Proved as `claims` in proofs/Theorem.antt.
use Rattle.std.specs.Prelude.{◌≡◌, ◌⊎◌, ◌≢◌, ℕ, ◌+◌, ◌^◌, ◌<◌, eqb, Option, None, Some}
use mathlib.Core.List.{List, [], ◌∷◌, ◌++◌, Memᴰ}
use Rattle.octets.specs.Text.{Text, same}
use Rattle.octets.specs.Part.{bare}
use Rattle.keying.specs.declared.Top.{Top}
use Rattle.keying.specs.Mac.{mac_key, mac}
use Rattle.csm.specs.Message.{Ksm, Esm, Body, rsi, ksm, rsm, esm, option, Reading, read}
use Rattle.csm.specs.Covered.{covered_part}
use Rattle.partner.specs.declared.Sending.{Sending}
use Rattle.partner.specs.declared.Receiving.{Receiving}
use Rattle.partner.specs.declared.Entry.{Entry}
use Rattle.partner.specs.Entry.{name_of, keys_in, confirmed}
use Rattle.partner.specs.Changes.{loaded}
use Rattle.partner.specs.Table.{Table}
use Rattle.calls.specs.declared.Request.{Request}
use Rattle.calls.specs.Words.{in_case◌then◌else◌}
use Rattle.calls.specs.Receive.{rsm_body, brought}
use Rattle.calls.specs.Calls.{Act, build_ksm, build_rsi, give_up, remove, ask, Call, receive, about, load, run, start, entry_of}

infix 20 ◌∈◌
-- a text, or a count, is in a list
abbrev pub ◌∈◌ : {A : Type 0} → A → List A → Type 0
x ∈ l = Memᴰ x l

-- ---- the state

-- both cards' whole tables; the texts that each has written, to whomever; the counts of the key messages from A that B
-- accepted; the newest first
pub record State : Type 0 where
  pub a : Table
  pub b : Table
  pub from_a : List Text
  pub from_b : List Text
  pub accepted : List ℕ

-- what a call writes: its reply, where there is one
unfoldable pub texts : Text → List Text
texts [] = []
texts (x ∷ w) = (x ∷ w) ∷ []

-- the count of a key message from one partner
unfoldable pub count_in : Body → List ℕ
count_in (ksm m) = m.ctp ∷ []
count_in (rsi m) = []
count_in (rsm m) = []
count_in (esm m) = []
count_in (option c w) = []

unfoldable pub count_from : Text → Option Reading → List ℕ
count_from id None = []
count_from id (Some r) = in_case same r.org id then count_in r.body else []

-- the count of a key message from that partner that the call accepted
unfoldable pub counted : Text → Call → ℕ → List ℕ
counted id (receive room text) answer = in_case eqb answer 0 then count_from id (read text) else []
counted id (about to a) answer = []
counted id (load to key_name key) answer = []

-- counts, the newest first, that strictly rise
pub data Rising : List ℕ → Type 0 where
  empty : Rising []
  more : {n : ℕ} {l : List ℕ} → ((m : ℕ) → m ∈ l → m < n) → Rising l → Rising (n ∷ l)

-- ---- the steps: any call at either end

-- a call of A's
abbrev pub at_a : State → Call → State
at_a s c = record {
  a = (run s.a c).table;
  b = s.b;
  from_a = texts (run s.a c).outcome.reply ++ s.from_a;
  from_b = s.from_b;
  accepted = s.accepted;
}

-- a call of B's, to which A has the identity a
abbrev pub at_b : Text → State → Call → State
at_b a s c = record {
  a = s.a;
  b = (run s.b c).table;
  from_a = s.from_a;
  from_b = texts (run s.b c).outcome.reply ++ s.from_b;
  accepted = counted a c (run s.b c).outcome.answer ++ s.accepted;
}

-- the keys of a request are numbers of 64 bits
pub record In64Bits (q : Request) : Type 0 where
  pub first : q.first.key < 2 ^ 64
  pub second : q.second.key < 2 ^ 64

-- what is asked of an act about a partner that is answered so; `other` is the other card
abbrev pub AllowedAct : Text → Text → Act → ℕ → Type 0
AllowedAct other to (build_ksm room q) answer = In64Bits q
AllowedAct other to (build_rsi room s) answer = Unit {0}
AllowedAct other to give_up answer = Unit {0}
-- a remove does not find the other card
AllowedAct other to remove answer = answer ≡ 0 → to ≢ other
AllowedAct other to ask answer = Unit {0}

-- the two are loaded for each other with one key or pair under one name
module _ (name : Text) (top : Top) where
  -- what is asked of a call that is answered so; `other` is the other card, `wrote` what that card has written
  unfoldable pub Allowed : Text → List Text → Call → ℕ → Type 0
  -- a message naming the other card as originator was written by it
  Allowed other wrote (receive room text) answer = (r : Reading) → read text ≡ Some r → r.org ≡ other → text ∈ wrote
  Allowed other wrote (about to a) answer = AllowedAct other to a answer
  -- a load of the other card is refused, or has that key under that name
  Allowed other wrote (load to key_name key) answer = answer ≡ 0 → to ≡ other → (key_name ≡ name) × (key ≡ top)

  -- the entry that loading makes
  abbrev pub entry_for : Text → Entry
  entry_for other = loaded (name_of other) (name_of name) top

  -- a card that has this identity, and for the other no entry yet or the one that loading makes
  pub record Fresh (own other : Text) (t : Table) : Type 0 where
    pub identity : bare t.own ≡ own
    pub entry : (entry_of other t ≡ None) ⊎ (entry_of other t ≡ Some (entry_for other))

-- B's receiving unit holds the very keys of A's sending unit, with their names, under the count of the key message
pub record InStep (ours : Sending) (theirs : Receiving) (m : Ksm) : Type 0 where
  pub keys : theirs.incoming ≡ ours.outgoing
  pub next_send : ours.next ≡ m.ctp + 1
  pub expected : theirs.expected ≡ m.ctp + 1

-- A is under the identity a, B under b
module _ (a b name : Text) (top : Top) where
  -- what calls at either end lead to: there is no step for starting a card again, nor for restoring or altering a table
  -- outside the calls
  pub data Reach (s₀ : State) : State → Type 0 where
    begin : Reach s₀ s₀
    step_a : {s : State} → Reach s₀ s → (c : Call)
        → Allowed name top b s.from_b c (run s.a c).outcome.answer → Reach s₀ (at_a s c)
    step_b : {s : State} → Reach s₀ s → (c : Call)
        → Allowed name top a s.from_a c (run s.b c).outcome.answer → Reach s₀ (at_b a s c)

  -- ---- the beginning

  -- two cards afresh for each other, whatever else their tables hold, and nothing written since
  pub record Afresh (s : State) : Type 0 where
    pub card_a : Fresh name top a b s.a
    pub card_b : Fresh name top b a s.b
    pub a_silent : s.from_a ≡ []
    pub b_silent : s.from_b ≡ []
    pub none_accepted : s.accepted ≡ []

  -- ---- the premise on MACs

  -- a message from A to B
  abbrev pub a_to_b : Body → Reading
  a_to_b body = record { rcv = b; org = a; body = body }

  -- the MAC of the answer that a key message of A's calls for: that of the RSM from B to A under the keys that it
  -- carries, plain or notarized, deciphered as B does
  unfoldable pub called_for : Ksm → ℕ
  called_for m =
      mac (mac_key (keys_in (brought b (entry_for name top a) m)))
      (covered_part (record { rcv = a; org = b; body = rsm_body 0 }))

  -- no two of A's key messages to B call for answers with equal MACs
  abbrev pub Distinct : List Text → Type 0
  Distinct wrote =
      (t u : Text) (m n : Ksm) → t ∈ wrote → u ∈ wrote → read t ≡ Some (a_to_b (ksm m)) → read u ≡ Some (a_to_b (ksm n))
      → called_for m ≡ called_for n → t ≡ u

  -- ---- the conclusions

  -- and that message, which A has written and B accepted, carried them
  pub record Agreed (s : State) (ours : Sending) : Type 0 where
    pub text : Text
    pub message : Ksm
    pub sent : text ∈ s.from_a
    pub reading : read text ≡ Some (a_to_b (ksm message))
    pub carried : brought b (entry_for name top a) message ≡ ours.outgoing
    pub for_a : Entry
    pub held : entry_of a s.b ≡ Some for_a
    pub in_step : InStep ours for_a.receiving message
    pub accepted : message.ctp ∈ s.accepted

  -- the history of an error that comes too late: what A has sent is sent again and reaches B, and after that an ESM
  -- reaches A that B wrote before; whatever else happens before, between and after
  pub record LateError (s₀ s : State) : Type 0 where
    pub before : State
    pub until_then : Reach s₀ before
    pub resent : Text
    pub sent : resent ∈ before.from_a
    pub room_b : ℕ
    pub later : State
    pub meanwhile : Reach (at_b a before (receive room_b resent)) later
    pub error : Text
    pub message : Esm
    pub reading : read error ≡ Some (record { rcv = a; org = b; body = esm message })
    pub old : error ∈ before.from_b
    pub room_a : ℕ
    pub since : Reach (at_a later (receive room_a error)) s

  pub record Claims : Type 0 where
    -- whenever A says that its keys to B are confirmed, B holds those very keys, with their names, under the same count
    pub agreement : {s₀ s : State} → Afresh s₀ → Reach s₀ s → Distinct s.from_a
        → (for_b : Entry) → entry_of b s.a ≡ Some for_b → for_b.sending.phase ≡ confirmed → Agreed s for_b.sending
    -- the counts of the key messages that B accepts from A strictly rise
    pub rise : {s₀ s : State} → Afresh s₀ → Reach s₀ s → Rising s.accepted
    -- `agreement` on one kind of run: an old ESM after a resend never leaves A confirmed with keys that B does not hold
    pub late_error_is_harmless : {s₀ s : State} → Afresh s₀ → LateError s₀ s → Distinct s.from_a
        → (for_b : Entry) → entry_of b s.a ≡ Some for_b → for_b.sending.phase ≡ confirmed → Agreed s for_b.sending
    -- a card that was started is fresh, and so is one that was just loaded for the other
    pub started : (own other : Text) (t : Table) → start own ≡ Some t → Fresh name top own other t
    pub just_loaded : (own other : Text) (t : Table) → bare t.own ≡ own
        → (run t (load other name top)).outcome.answer ≡ 0
        → Fresh name top own other (run t (load other name top)).table
    -- a card that begins with the other loaded refuses every load of it: there nothing is asked of loads
    pub loaded_once_at_a : {s₀ s : State} → Reach s₀ s → (for_b : Entry) → entry_of b s₀.a ≡ Some for_b
        → (key_name : Text) (key : Top) → (run s.a (load b key_name key)).outcome.answer ≢ 0
    pub loaded_once_at_b : {s₀ s : State} → Reach s₀ s → (for_a : Entry) → entry_of a s₀.b ≡ Some for_a
        → (key_name : Text) (key : Top) → (run s.b (load a key_name key)).outcome.answer ≢ 0
