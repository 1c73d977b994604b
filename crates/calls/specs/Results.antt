-- What a step leads to, field by field in the paper's terms (document 01, "Receive", "Build a KSM", "Load").
use Rattle.std.specs.Prelude.{◌≡◌, Bool, true, false, ◌++◌, [], ℕ, ◌+◌, ◌/◌, ◌%◌, max, Option, None, Some}
use Rattle.octets.specs.Text.{Text, ascii}
use Rattle.octets.specs.Part.{bare}
use Rattle.keying.specs.Keys.{seal}
use Rattle.keying.specs.Working.{working}
use Rattle.keying.specs.Iv.{conceal}
use Rattle.csm.specs.Fields.{Kd, hex_text, erf}
use Rattle.csm.specs.Message.{Ksm, Rsm, ksm, rsm, esm}
use Rattle.partner.specs.declared.DataKey.{DataKey}
use Rattle.partner.specs.declared.KeySet.{KeySet}
use Rattle.partner.specs.declared.Entry.{Entry}
use Rattle.partner.specs.Entry.{blanks, top_of, keys_in, unused, no_keys, waiting, confirmed, broken}
use Rattle.calls.specs.declared.KeyRequest.{KeyRequest}
use Rattle.calls.specs.declared.Request.{Request}
use Rattle.calls.specs.Outcome.{Outcome, nothing, keys, confirmation}
use Rattle.calls.specs.Calls.{After, entry_of}
use Rattle.calls.specs.Claims.{Carries}
use Rattle.calls.specs.Good.{Brings, Iv, Sealed}

-- ---- what stays of an entry: identity, and the top key with its name

pub record KeyStays (e f : Entry) : Type 0 where
  pub identity : f.identity ≡ e.identity
  pub top : f.top ≡ e.top

-- ---- errors

-- 4 with these letters: an ESM that spells them, with these counts, and nothing else told
pub record Tells (us id letters : Text) (ctp ctr : Option ℕ) (o : Outcome) : Type 0 where
  pub answered : o.answer ≡ 4
  pub spelled : erf.text o.letters ≡ letters
  pub written : Carries us id (esm (record { ctp = ctp; ctr = ctr; erf = o.letters; edc = None })) o.reply
  pub no_more : o.told ≡ nothing

-- a condition holds or does not
pub data Judged (P : Type 0) : Bool → Type 0 where
  holds : P → Judged P true
  fails : (P → ⊥) → Judged P false

-- a letter, unless all is well
abbrev pub unless : Bool → Text → Text
unless true letter = []
unless false letter = letter

-- a count is told where the count is wrong
abbrev pub told_unless : Bool → ℕ → Option ℕ
told_unless true n = None
told_unless false n = Some n

-- ---- a KSM is accepted

-- the IV that is returned: its value, if there is one
pub record ReturnsIv (m : Ksm) (set : KeySet) (iv : Option ℕ) : Type 0 where
  pub without : m.iv ≡ None → iv ≡ None
  pub value : (w : Text) → m.iv ≡ Some w → (n : ℕ) × (iv ≡ Some n) × Iv set w n

-- the keys and names replace the incoming ones, expected becomes count + 1, IV and date are returned, the reply is an
-- RSM under the keys of the KSM that it answers
pub record Accepts (us id : Text) (e : Entry) (m : Ksm) (a : After) : Type 0 where
  pub answered : a.outcome.answer ≡ 0
  pub later : Entry
  pub entry : entry_of id a.table ≡ Some later
  pub expected : later.receiving.expected ≡ m.ctp + 1
  pub incoming : Brings us e m later.receiving.incoming
  pub key_stays : KeyStays e later
  pub sending_stays : later.sending ≡ e.sending
  pub iv : Option ℕ
  pub returned : a.outcome.told ≡ keys iv m.edk
  pub value : ReturnsIv m later.receiving.incoming iv
  pub message : Rsm
  pub written : Carries us id (rsm message) a.outcome.reply
  pub sealed : Sealed later.receiving.incoming a.outcome.reply message.mac

-- ---- an RSM is taken, an ESM breaks

-- phase 2, nothing else
pub record Confirms (id : Text) (e : Entry) (a : After) : Type 0 where
  pub answered : a.outcome.answer ≡ 0
  pub silent : a.outcome.reply ≡ []
  pub told : a.outcome.told ≡ confirmation
  pub later : Entry
  pub entry : entry_of id a.table ≡ Some later
  pub phase : later.sending.phase ≡ confirmed
  pub next : later.sending.next ≡ e.sending.next
  pub outgoing : later.sending.outgoing ≡ e.sending.outgoing
  pub key_stays : KeyStays e later
  pub receiving_stays : later.receiving ≡ e.receiving

-- phase 3, outgoing keys wiped, this next send count
pub record Breaks (id : Text) (e : Entry) (count : ℕ) (a : After) : Type 0 where
  pub answered : a.outcome.answer ≡ 0
  pub silent : a.outcome.reply ≡ []
  pub later : Entry
  pub entry : entry_of id a.table ≡ Some later
  pub phase : later.sending.phase ≡ broken
  pub outgoing : later.sending.outgoing ≡ no_keys
  pub next : later.sending.next ≡ count
  pub key_stays : KeyStays e later
  pub receiving_stays : later.receiving ≡ e.receiving

-- with CTP x the larger of itself and x
abbrev pub raised_to : ℕ → Option ℕ → ℕ
raised_to n None = n
raised_to n (Some x) = max n x

-- ---- a KSM is built

-- a flag that is 1 asks for this, and 0 for nothing
pub data Asked {A : Type 0} (a : A) : ℕ → Option A → Type 0 where
  yes : Asked a 1 (Some a)
  no : Asked a 0 None

pub data Marked : ℕ → Bool → Type 0 where
  yes : Marked 1 true
  no : Marked 0 false

-- an outgoing key, named by the IDK1 written
pub record KeepsKey (r : KeyRequest) (d : DataKey) : Type 0 where
  pub key : d.key ≡ r.key
  pub named : r.flags / 2 % 2 ≡ 1 → d.name ≡ r.name
  pub nameless : r.flags / 2 % 2 ≡ 0 → d.name.bytes ≡ blanks

-- the outgoing keys: those of the request
pub record Keeps (q : Request) (set : KeySet) : Type 0 where
  pub count : set.count ≡ q.count
  pub first : KeepsKey q.first set.first
  pub one : q.count ≡ 1 → set.second ≡ unused
  pub two : q.count ≡ 2 → KeepsKey q.second set.second

-- a KD, notarized or not, where we are the originator: the key under the top key offset by the next send count or under
-- the notarizing key; P, IDK1 and IDK2 (always the entry's key name) as the flags say
pub record WritesKey (us : Text) (e : Entry) (nos : Bool) (r : KeyRequest) (k : Kd) : Type 0 where
  pub key : k.key ≡ seal (working nos us (bare e.identity.bytes) (top_of e.top) e.sending.next) r.key
  pub p : Marked (r.flags % 2) k.p
  pub idk1 : Asked (bare r.name.bytes) (r.flags / 2 % 2) k.idk1
  pub idk2 : Asked (bare e.top.name.bytes) (r.flags / 4 % 2) k.idk2

-- the IV: none, P and the value, or E and the value enciphered
pub data WritesIv (q : Request) (set : KeySet) : ℕ → Option Text → Type 0 where
  without : WritesIv q set 0 None
  plain : WritesIv q set 1 (Some (ascii "P" ++ hex_text 16 q.iv))
  enciphered : WritesIv q set 2 (Some (ascii "E" ++ hex_text 16 (conceal (keys_in set) q.iv)))

-- the fields of the message
pub record WritesFields (us : Text) (e : Entry) (q : Request) (set : KeySet) (m : Ksm) : Type 0 where
  pub nos : Marked q.notarized m.nos
  pub first : WritesKey us e m.nos q.first m.kd
  pub one : q.count ≡ 1 → m.second ≡ None
  pub two : q.count ≡ 2 → (k : Kd) × (m.second ≡ Some k) × WritesKey us e m.nos q.second k
  pub iv : WritesIv q set q.kind m.iv
  pub date : Asked q.date.digits q.dated m.edk
  pub count : m.ctp ≡ e.sending.next

-- a message with the next send count, which rises by one, and its MAC; outgoing keys set; phase 1
pub record Builds (us id : Text) (e : Entry) (q : Request) (a : After) : Type 0 where
  pub answered : a.outcome.answer ≡ 0
  pub told : a.outcome.told ≡ nothing
  pub later : Entry
  pub entry : entry_of id a.table ≡ Some later
  pub next : later.sending.next ≡ e.sending.next + 1
  pub phase : later.sending.phase ≡ waiting
  pub outgoing : Keeps q later.sending.outgoing
  pub key_stays : KeyStays e later
  pub receiving_stays : later.receiving ≡ e.receiving
  pub message : Ksm
  pub written : Carries us id (ksm message) a.outcome.reply
  pub fields : WritesFields us e q later.sending.outgoing message
  pub sealed : Sealed later.sending.outgoing a.outcome.reply message.mac
