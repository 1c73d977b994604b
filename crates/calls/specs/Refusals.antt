-- What is claimed of each refusal before the steps: its condition in the paper's terms, where none earlier in the call's order holds.
-- The refusals within a class and of build a KSM stand with the steps. Proved as `refusals` in proofs/Refusals.antt.
use Rattle.std.specs.Prelude.{◌≡◌, true, false, ℕ, ◌≤◌, ◌<◌, length, None, Some}
use mathlib.Core.List.{List, ◌∷◌, ◌++◌, Memᴰ, []}
use Rattle.octets.specs.Text.{Text, is_name}
use Rattle.octets.specs.Part.{bare}
use Rattle.keying.specs.declared.Top.{Top}
use Rattle.keying.specs.Keys.{odd_top}
use Rattle.csm.specs.Format.{value}
use Rattle.csm.specs.Fields.{svr}
use Rattle.csm.specs.Message.{Reading, read}
use Rattle.partner.specs.declared.Entry.{Entry}
use Rattle.partner.specs.Entry.{filled, top_of, no_keys, idle}
use Rattle.partner.specs.Table.{Table, legal, is_empty}
use Rattle.calls.specs.declared.Request.{Request}
use Rattle.calls.specs.Outcome.{success, nothing}
use Rattle.calls.specs.Calls.{Call, receive, about, build_ksm, build_rsi, give_up, load, remove, ask, After, refuse, start}
use Rattle.calls.specs.Calls.{entry_of, run}
use Rattle.calls.specs.Good.{GoodIdentity}

-- slots that are all in use; all empty
abbrev pub InUse : List Entry → Type 0
InUse slots = (e : Entry) → Memᴰ e slots → is_empty e ≡ false

abbrev pub Empty : List Entry → Type 0
Empty slots = (e : Entry) → Memᴰ e slots → is_empty e ≡ true

-- the lowest free slot is taken: both counts 1, phase 0, no data keys
pub record Loads (id name : Text) (top : Top) (t : Table) (a : After) : Type 0 where
  pub done : a.outcome ≡ success [] nothing
  pub before : List Entry
  pub free : Entry
  pub behind : List Entry
  pub slots : t.slots ≡ before ++ (free ∷ behind)
  pub lowest : InUse before
  pub is_free : is_empty free ≡ true
  pub entry : Entry
  pub slots_now : a.table.slots ≡ before ++ (entry ∷ behind)
  pub identity : entry.identity.bytes ≡ filled id
  pub key_name : entry.top.name.bytes ≡ filled name
  pub key : top_of entry.top ≡ top
  pub next : entry.sending.next ≡ 1
  pub expected : entry.receiving.expected ≡ 1
  pub phase : entry.sending.phase ≡ idle
  pub outgoing : entry.sending.outgoing ≡ no_keys
  pub incoming : entry.receiving.incoming ≡ no_keys

-- a table with our identity and 64 empty slots
pub record Starts (own : Text) (t : Table) : Type 0 where
  pub identity : t.own ≡ filled own
  pub size : length t.slots ≡ 64
  pub all_empty : Empty t.slots

pub record Refusals : Type 0 where
  -- any call that is lent a table tests 13 before all else
  pub illegal_is_13 : (t : Table) (c : Call) → legal t ≡ false → run t c ≡ refuse t 13
  -- reply room under 256, and 256 is enough
  pub no_room_to_receive : (t : Table) (room : ℕ) (text : Text) → legal t ≡ true → room < 256
      → run t (receive room text) ≡ refuse t 6
  pub no_room_to_build : (t : Table) (room : ℕ) (id : Text) (q : Request) → legal t ≡ true → room < 256
      → run t (about id (build_ksm room q)) ≡ refuse t 6
  pub no_room_to_ask_for_service : (t : Table) (room : ℕ) (id contents : Text) → legal t ≡ true → room < 256
      → run t (about id (build_rsi room contents)) ≡ refuse t 6
  -- receive: text not a message of this paper, then RCV is not us, then partner not in the table
  pub no_message_is_1 : (t : Table) (room : ℕ) (text : Text) → legal t ≡ true → 256 ≤ room → read text ≡ None
      → run t (receive room text) ≡ refuse t 1
  pub not_for_us_is_2 : (t : Table) (room : ℕ) (text : Text) (r : Reading) → legal t ≡ true → 256 ≤ room
      → read text ≡ Some r → (r.rcv ≡ bare t.own → ⊥) → run t (receive room text) ≡ refuse t 2
  pub no_sender_is_3 : (t : Table) (room : ℕ) (text : Text) (r : Reading) → legal t ≡ true → 256 ≤ room
      → read text ≡ Some r → r.rcv ≡ bare t.own → entry_of r.org t ≡ None
      → run t (receive room text) ≡ refuse t 3
  -- the other calls about a partner
  pub nobody_to_build_for : (t : Table) (room : ℕ) (id : Text) (q : Request) → legal t ≡ true → 256 ≤ room
      → entry_of id t ≡ None → run t (about id (build_ksm room q)) ≡ refuse t 3
  pub nobody_to_ask_for_service : (t : Table) (room : ℕ) (id contents : Text) → legal t ≡ true → 256 ≤ room
      → entry_of id t ≡ None → run t (about id (build_rsi room contents)) ≡ refuse t 3
  pub nobody_to_give_up : (t : Table) (id : Text) → legal t ≡ true → entry_of id t ≡ None
      → run t (about id give_up) ≡ refuse t 3
  pub nobody_to_remove : (t : Table) (id : Text) → legal t ≡ true → entry_of id t ≡ None
      → run t (about id remove) ≡ refuse t 3
  pub nobody_to_show : (t : Table) (id : Text) → legal t ≡ true → entry_of id t ≡ None → run t (about id ask) ≡ refuse t 3
  -- build an RSI: no legal SVR
  pub no_service_is_12 : (t : Table) (room : ℕ) (id contents : Text) (e : Entry) → legal t ≡ true → 256 ≤ room
      → entry_of id t ≡ Some e → value svr contents ≡ None → run t (about id (build_rsi room contents)) ≡ refuse t 12
  -- remove and ask for an entry
  pub removed_is_gone : (t : Table) (id : Text) (e : Entry) → legal t ≡ true → entry_of id t ≡ Some e
      → ((run t (about id remove)).outcome ≡ success [] nothing) × (entry_of id (run t (about id remove)).table ≡ None)
  pub asked_is_found : (t : Table) (id : Text) (e : Entry) → legal t ≡ true → entry_of id t ≡ Some e
      → run t (about id ask) ≡ record { outcome = success [] nothing; table = t }
  -- load: identity malformed, our own, or taken; key name; top key; 64 entries in use
  pub bad_identity_is_10 : (t : Table) (id name : Text) (top : Top) → legal t ≡ true → (GoodIdentity t id → ⊥)
      → run t (load id name top) ≡ refuse t 10
  pub bad_name_is_12 : (t : Table) (id name : Text) (top : Top) → legal t ≡ true → GoodIdentity t id
      → is_name name ≡ false → run t (load id name top) ≡ refuse t 12
  pub even_top_is_11 : (t : Table) (id name : Text) (top : Top) → legal t ≡ true → GoodIdentity t id
      → is_name name ≡ true → odd_top top ≡ false → run t (load id name top) ≡ refuse t 11
  pub full_is_9 : (t : Table) (id name : Text) (top : Top) → legal t ≡ true → GoodIdentity t id
      → is_name name ≡ true → odd_top top ≡ true → InUse t.slots → run t (load id name top) ≡ refuse t 9
  pub else_loaded : (t : Table) (id name : Text) (top : Top) → legal t ≡ true → GoodIdentity t id
      → is_name name ≡ true → odd_top top ≡ true → (InUse t.slots → ⊥)
      → Loads id name top t (run t (load id name top))
  -- start: identity malformed
  pub bad_start_is_none : (own : Text) → is_name own ≡ false → start own ≡ None
  pub else_started : (own : Text) → is_name own ≡ true → (t : Table) × (start own ≡ Some t) × Starts own t
