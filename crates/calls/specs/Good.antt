-- What is good: a KSM, an RSM and a request for a key message, and whom to load (document 01, "Receive" and on). Said in
-- the paper's terms, apart from the steps, so that a step that says otherwise makes a claim about it false.
use Rattle.std.specs.Prelude.{◌≡◌, true, ◌∷◌, ℕ, ◌/◌, ◌%◌, ◌≤◌, ◌<◌, None, Some}
use Prim.Native.Char.{code}
use Rattle.octets.specs.Text.{Text, is_run, is_name}
use Rattle.octets.specs.Part.{bare}
use Rattle.keying.specs.Parity.{odd}
use Rattle.keying.specs.Keys.{unseal}
use Rattle.keying.specs.Working.{working}
use Rattle.keying.specs.Mac.{mac_key, mac}
use Rattle.keying.specs.Iv.{reveal}
use Rattle.dates.specs.Date.{is_date}
use Rattle.csm.specs.Fields.{Kd, numeral}
use Rattle.csm.specs.Covered.{covered}
use Rattle.csm.specs.Message.{Ksm}
use Rattle.partner.specs.declared.DataKey.{DataKey}
use Rattle.partner.specs.declared.KeySet.{KeySet}
use Rattle.partner.specs.declared.Entry.{Entry}
use Rattle.partner.specs.Entry.{blanks, filled, top_of, keys_in, unused, waiting}
use Rattle.partner.specs.Legal.{is_filled}
use Rattle.partner.specs.Table.{Table}
use Rattle.calls.specs.declared.KeyRequest.{KeyRequest}
use Rattle.calls.specs.declared.Request.{Request}
use Rattle.calls.specs.Calls.{entry_of}

-- ---- a KSM

-- the KDs of a KSM: one or two
pub data KdOf (m : Ksm) : Kd → Type 0 where
  first : KdOf m m.kd
  second : (k : Kd) → m.second ≡ Some k → KdOf m k

-- an IDK2 is the entry's name
abbrev pub Ours : Entry → Kd → Type 0
Ours e k = (n : Text) → k.idk2 ≡ Some n → n ≡ bare e.top.name.bytes

-- a KD's key deciphered, where we are the receiver: under the top key offset by the message's CTP or, with NOS, under the
-- notarizing key
abbrev pub in_clear : Text → Entry → Ksm → Kd → ℕ
in_clear us e m k = unseal (working m.nos (bare e.identity.bytes) us (top_of e.top) m.ctp) k.key

-- a KD marked P is of odd parity once deciphered
abbrev pub EvenOnlyUnmarked : Text → Entry → Ksm → Kd → Type 0
EvenOnlyUnmarked us e m k = k.p ≡ true → odd (in_clear us e m k) ≡ true

-- a data key that a KD brings, named by its IDK1 or not at all
pub record BringsKey (us : Text) (e : Entry) (m : Ksm) (k : Kd) (d : DataKey) : Type 0 where
  pub key : d.key ≡ in_clear us e m k
  pub named : (n : Text) → k.idk1 ≡ Some n → d.name.bytes ≡ filled n
  pub nameless : k.idk1 ≡ None → d.name.bytes ≡ blanks

-- the data keys that a KSM brings, in its order; an unused place is zero
pub record Brings (us : Text) (e : Entry) (m : Ksm) (set : KeySet) : Type 0 where
  pub first : BringsKey us e m m.kd set.first
  pub one : m.second ≡ None → (set.count ≡ 1) × (set.second ≡ unused)
  pub two : (k : Kd) → m.second ≡ Some k → (set.count ≡ 2) × BringsKey us e m k set.second

-- an IV and its value: P and the value, or E and the value enciphered, either of 16 hex digits
pub data Iv (set : KeySet) : Text → ℕ → Type 0 where
  plain : (w : Text) → is_run (code "F") 16 16 w ≡ true → Iv set (code "P" ∷ w) (numeral 16 0 w)
  enciphered : (w : Text) → is_run (code "F") 16 16 w ≡ true
      → Iv set (code "E" ∷ w) (reveal (keys_in set) (numeral 16 0 w))

-- an IV has a value, an EDK is a date
pub record FormedKsm (set : KeySet) (m : Ksm) : Type 0 where
  pub iv : (w : Text) → m.iv ≡ Some w → (n : ℕ) × Iv set w n
  pub date : (w : Text) → m.edk ≡ Some w → is_date w ≡ true

-- the MAC of a text is the one under these keys
abbrev pub Sealed : KeySet → Text → ℕ → Type 0
Sealed set text n = n ≡ mac (mac_key (keys_in set)) (covered text)

-- the count is not below the expected one, and is not 99,999,999
pub record InTurn (expected count : ℕ) : Type 0 where
  pub fresh : expected ≤ count
  pub not_last : count < 99_999_999

-- names, parity, IV and date and MAC as they must be
pub record GoodButItsCount (us : Text) (e : Entry) (text : Text) (m : Ksm) : Type 0 where
  pub names : (k : Kd) → KdOf m k → Ours e k
  pub parity : (k : Kd) → KdOf m k → EvenOnlyUnmarked us e m k
  pub set : KeySet
  pub brings : Brings us e m set
  pub format : FormedKsm set m
  pub sealed : Sealed set text m.mac

-- and the count
pub record GoodKsm (us : Text) (e : Entry) (text : Text) (m : Ksm) : Type 0 where
  pub rest : GoodButItsCount us e text m
  pub count : InTurn e.receiving.expected m.ctp

-- ---- a request for a key message

-- of more than two keys none is used
pub data Uses (q : Request) : KeyRequest → Type 0 where
  only : q.count ≡ 1 → Uses q q.first
  first : q.count ≡ 2 → Uses q q.first
  second : q.count ≡ 2 → Uses q q.second

-- 11: a used key to be marked P (bit 0 of its flags) is of odd parity
abbrev pub OddWhereMarked : Request → Type 0
OddWhereMarked q = (k : KeyRequest) → Uses q k → k.flags % 2 ≡ 1 → odd k.key ≡ true

-- flags of three bits, and an IDK1 that is written (bit 1) a name
pub record FormedKey (k : KeyRequest) : Type 0 where
  pub flags : k.flags < 8
  pub name : k.flags / 2 % 2 ≡ 1 → is_filled k.name.bytes ≡ true

-- 12: one key or two different ones; names, date and flags as they must be
pub record FormedRequest (q : Request) : Type 0 where
  pub count : (1 ≤ q.count) × (q.count ≤ 2)
  pub different : q.count ≡ 2 → q.first.key ≡ q.second.key → ⊥
  pub keys : (k : KeyRequest) → Uses q k → FormedKey k
  pub iv : q.kind ≤ 2
  pub dated : q.dated ≤ 1
  pub date : q.dated ≡ 1 → is_date q.date.digits ≡ true
  pub notarized : q.notarized ≤ 1

-- nothing waits, the count is not the last, parity and form as they must be
pub record GoodRequest (e : Entry) (q : Request) : Type 0 where
  pub free : e.sending.phase ≡ waiting → ⊥
  pub not_last : e.sending.next < 99_999_999
  pub parity : OddWhereMarked q
  pub formed : FormedRequest q

-- ---- whom to load

-- well-formed, not our own, not taken
pub record GoodIdentity (t : Table) (id : Text) : Type 0 where
  pub formed : is_name id ≡ true
  pub not_ours : filled id ≡ t.own → ⊥
  pub not_taken : entry_of id t ≡ None
