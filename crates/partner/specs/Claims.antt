-- What is claimed of an entry; proved as `claims` in proofs/Claims.antt.
use Rattle.std.specs.Prelude.{◌≡◌, true, false, ◌↔◌, ℕ, ◌+◌, ◌<◌, ◌≤◌, length}
use Rattle.octets.specs.Text.{Text, is_name}
use Rattle.octets.specs.Part.{bare, all_octets}
use Rattle.octets.specs.First.{Passed, Given}
use Rattle.keying.specs.declared.Top.{Top}
use Rattle.keying.specs.Keys.{odd_top}
use Rattle.partner.specs.declared.Name.{Name}
use Rattle.partner.specs.declared.DataKey.{DataKey}
use Rattle.partner.specs.declared.KeySet.{KeySet}
use Rattle.partner.specs.declared.Sending.{Sending}
use Rattle.partner.specs.declared.Receiving.{Receiving}
use Rattle.partner.specs.declared.Entry.{Entry}
use Rattle.partner.specs.Entry.{blanks, filled, limit, risen, waiting, no_keys, one_key, two_keys, top_of}
use Rattle.partner.specs.Legal.{is_filled, is_named, keys_formed, rules, broken, legal}
use Rattle.partner.specs.Changes.{loaded, accepted, issued, settled, given_up, failed}
use Rattle.partner.specs.Changes.{with_sending, with_receiving}
use Rattle.partner.specs.Record.{entry_size, entry_bytes, entry_in}
use Rattle.partner.specs.Held.{Held}
use Rattle.partner.specs.Table.{Table}
use Rattle.partner.specs.Table as tables

-- ---- what each change makes of its unit, field by field

-- loading sets both counts to 1, phase 0, no data keys
pub record Loads (id key_name : Name) (key : Top) (f : Entry) : Type 0 where
  pub identity : f.identity ≡ id
  pub name : f.top.name ≡ key_name
  pub top : top_of f.top ≡ key
  pub next : f.sending.next ≡ 1
  pub phase : f.sending.phase ≡ 0
  pub outgoing : f.sending.outgoing ≡ no_keys
  pub expected : f.receiving.expected ≡ 1
  pub incoming : f.receiving.incoming ≡ no_keys

-- the keys and names replace the incoming ones, expected becomes count + 1
pub record Accepts (count : ℕ) (keys : KeySet) (r : Receiving) : Type 0 where
  pub expected : r.expected ≡ count + 1
  pub incoming : r.incoming ≡ keys

-- the next send count rises by one, outgoing keys set, phase 1
pub record Issues (s : Sending) (keys : KeySet) (t : Sending) : Type 0 where
  pub next : t.next ≡ s.next + 1
  pub phase : t.phase ≡ 1
  pub outgoing : t.outgoing ≡ keys

-- phase 2
pub record Settles (s t : Sending) : Type 0 where
  pub next : t.next ≡ s.next
  pub phase : t.phase ≡ 2
  pub outgoing : t.outgoing ≡ s.outgoing

-- phase 3, outgoing keys wiped, and that next send count
pub record Breaks (next_send : ℕ) (t : Sending) : Type 0 where
  pub next : t.next ≡ next_send
  pub phase : t.phase ≡ 3
  pub outgoing : t.outgoing ≡ no_keys

pub record Claims : Type 0 where
  pub loaded_so : (identity name : Name) (top : Top) → Loads identity name top (loaded identity name top)
  pub accepted_so : (count : ℕ) (keys : KeySet) → count < 99_999_999 → Accepts count keys (accepted count keys)
  pub issued_so : (s : Sending) (keys : KeySet) → s.next < 99_999_999 → Issues s keys (issued s keys)
  pub settled_so : (s : Sending) → Settles s (settled s)
  pub given_up_so : (s : Sending) → Breaks s.next (given_up s)
  -- next send becomes the larger of itself and x
  pub failed_below : (s : Sending) (x : ℕ) → x ≤ s.next → Breaks s.next (failed s x)
  pub failed_above : (s : Sending) (x : ℕ) → s.next ≤ x → Breaks x (failed s x)
  -- a rule's number is given exactly when that rule is broken and none earlier is
  pub broken_exactly : (e : Entry) (n : ℕ) → (n ≡ 0 → ⊥) → (broken e ≡ n) ↔ Given (rules e) n
  -- legal is none broken
  pub legal_exactly : (e : Entry) → (legal e ≡ true) ↔ Passed (rules e)
  -- and so for a table
  pub table_broken_exactly : (t : Table) (n : ℕ) → (n ≡ 0 → ⊥) → (tables.broken t ≡ n) ↔ Given (tables.rules t) n
  pub table_legal_exactly : (t : Table) → (tables.legal t ≡ true) ↔ Passed (tables.rules t)
  -- a change leaves a legal entry
  pub loaded_is_legal : (identity name : Name) (top : Top) → is_filled identity.bytes ≡ true
      → is_filled name.bytes ≡ true → odd_top top ≡ true → legal (loaded identity name top) ≡ true
  pub accepted_is_legal : (e : Entry) (count : ℕ) (keys : KeySet) → legal e ≡ true → 1 ≤ count → count < limit
      → keys_formed keys ≡ true → legal (with_receiving e (accepted count keys)) ≡ true
  pub issued_is_legal : (e : Entry) (keys : KeySet) → legal e ≡ true → e.sending.next < limit
      → keys_formed keys ≡ true → legal (with_sending e (issued e.sending keys)) ≡ true
  pub settled_is_legal : (e : Entry) → legal e ≡ true → e.sending.phase ≡ waiting
      → legal (with_sending e (settled e.sending)) ≡ true
  pub given_up_is_legal : (e : Entry) → legal e ≡ true → e.sending.phase ≡ waiting
      → legal (with_sending e (given_up e.sending)) ≡ true
  pub failed_is_legal : (e : Entry) (x : ℕ) → legal e ≡ true → e.sending.phase ≡ waiting → 1 ≤ x → x ≤ limit
      → legal (with_sending e (failed e.sending x)) ≡ true
  -- short of the limit a count rises by one
  pub rises_by_one : (n : ℕ) → n < limit → risen n ≡ n + 1
  -- write then read, read then write
  pub written_then_read : (e : Entry) → Held e → entry_in (entry_bytes e) ≡ e
  pub read_then_written : (s : Text) → length s ≡ entry_size → all_octets s ≡ true → entry_bytes (entry_in s) ≡ s
  pub record_has_156_bytes : (e : Entry) → Held e → length (entry_bytes e) ≡ 156
  pub record_is_octets : (e : Entry) → Held e → all_octets (entry_bytes e) ≡ true
  pub read_is_held : (s : Text) → all_octets s ≡ true → Held (entry_in s)
  -- a name and its 16 bytes determine each other
  pub bare_after_filled : (w : Text) → is_name w ≡ true → bare (filled w) ≡ w
  pub filled_is_filled : (w : Text) → is_name w ≡ true → is_filled (filled w) ≡ true
  pub filled_after_bare : (s : Text) → is_filled s ≡ true → filled (bare s) ≡ s
  -- and 16 blanks are none
  pub blanks_are_no_name : is_filled blanks ≡ false
  -- one or two keys, each with a name or none, are well-formed
  pub one_key_is_formed : (k : DataKey) → is_named k ≡ true → keys_formed (one_key k) ≡ true
  pub two_keys_are_formed : (k l : DataKey) → is_named k ≡ true → is_named l ≡ true → keys_formed (two_keys k l) ≡ true
