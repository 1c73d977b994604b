-- The order of the answers over the stored image, number by number: each is given where its condition holds and none earlier
-- does, whatever else is wrong (document 01, "Answers"). Proved as `orders` in proofs/Orders.antt.
use Rattle.std.specs.Prelude.{◌≡◌, true, false, [], ◌∷◌, ◌++◌, ℕ, ◌<◌, ◌≤◌, length, None, Some}
use Rattle.octets.specs.Text.{Text, is_name}
use Rattle.octets.specs.Number.{copies}
use Rattle.keying.specs.declared.Top.{Top}
use Rattle.keying.specs.declared.Top.TheVariants.{Single, Pair}
use Rattle.keying.specs.Keys.{odd_top}
use Rattle.partner.specs.declared.Entry.{Entry}
use Rattle.partner.specs.Entry.{filled}
use Rattle.partner.specs.Record.{entry_bytes}
use Rattle.partner.specs.Table.{Table, identities}
use Rattle.image.specs.Image.{largest, decode}
use Rattle.calls.specs.declared.Request.{Request}
use Rattle.calls.specs.Outcome.{nothing, refusal, success}
use Rattle.calls.specs.Calls.{Call, receive, about, build_ksm, build_rsi, entry_of}
use Rattle.calls.specs.Good.{GoodIdentity}
use Rattle.card.specs.Over.{outcome_over}
use Rattle.card.specs.Whole.{ask_over, start_over, top_in, load_over, remove_over}

pub record Orders : Type 0 where
  -- every call: 13 before all else; receive and both builds: 6 next, reply room under 256
  pub call_13 : (image : Text) (c : Call) → decode image ≡ None → outcome_over image c ≡ refusal 13
  pub receive_6 : (image : Text) (t : Table) (room : ℕ) (text : Text) → decode image ≡ Some t → room < 256
      → outcome_over image (receive room text) ≡ refusal 6
  pub build_ksm_6 : (image : Text) (t : Table) (room : ℕ) (id : Text) (q : Request) → decode image ≡ Some t → room < 256
      → outcome_over image (about id (build_ksm room q)) ≡ refusal 6
  pub build_rsi_6 : (image : Text) (t : Table) (room : ℕ) (id contents : Text) → decode image ≡ Some t → room < 256
      → outcome_over image (about id (build_rsi room contents)) ≡ refusal 6
  -- ask: 13, 6, 3, else the body of the entry's record
  pub ask_13 : (image : Text) (room : ℕ) (id : Text) → decode image ≡ None → ask_over image room id ≡ refusal 13
  pub ask_6 : (image : Text) (t : Table) (room : ℕ) (id : Text) → decode image ≡ Some t → room < 256
      → ask_over image room id ≡ refusal 6
  pub ask_3 : (image : Text) (t : Table) (room : ℕ) (id : Text) → decode image ≡ Some t → 256 ≤ room
      → entry_of id t ≡ None → ask_over image room id ≡ refusal 3
  pub ask_0 : (image : Text) (t : Table) (room : ℕ) (id : Text) (e : Entry) → decode image ≡ Some t → 256 ≤ room
      → entry_of id t ≡ Some e → ask_over image room id ≡ success (entry_bytes e) nothing
  -- start: 6, 10, else kind 1, our identity, 64 empty slots
  pub start_6 : (own : Text) (room : ℕ) → room < largest → start_over own room ≡ refusal 6
  pub start_10 : (own : Text) (room : ℕ) → largest ≤ room → is_name own ≡ false → start_over own room ≡ refusal 10
  pub start_0 : (own : Text) (room : ℕ) → largest ≤ room → is_name own ≡ true
      → start_over own room ≡ success (1 ∷ (filled own ++ copies 64 0)) nothing
  -- remove: 13, 6, 3
  pub remove_13 : (image : Text) (room : ℕ) (id : Text) → decode image ≡ None → remove_over image room id ≡ refusal 13
  pub remove_6 : (image : Text) (t : Table) (room : ℕ) (id : Text) → decode image ≡ Some t → room < largest
      → remove_over image room id ≡ refusal 6
  pub remove_3 : (image : Text) (t : Table) (room : ℕ) (id : Text) → decode image ≡ Some t → largest ≤ room
      → entry_of id t ≡ None → remove_over image room id ≡ refusal 3
  pub remove_0 : (image : Text) (t : Table) (room : ℕ) (id : Text) (e : Entry) → decode image ≡ Some t → largest ≤ room
      → entry_of id t ≡ Some e → (remove_over image room id).answer ≡ 0
  -- load: 13, 6
  pub load_13 : (image : Text) (room : ℕ) (id name key : Text) → decode image ≡ None
      → load_over image room id name key ≡ refusal 13
  pub load_6 : (image : Text) (t : Table) (room : ℕ) (id name key : Text) → decode image ≡ Some t → room < largest
      → load_over image room id name key ≡ refusal 6
  -- then 10: identity malformed, our own, or taken
  pub load_10_malformed : (image : Text) (t : Table) (room : ℕ) (id name key : Text) → decode image ≡ Some t
      → largest ≤ room → is_name id ≡ false → load_over image room id name key ≡ refusal 10
  pub load_10_ours : (image : Text) (t : Table) (room : ℕ) (id name key : Text) → decode image ≡ Some t
      → largest ≤ room → filled id ≡ t.own → load_over image room id name key ≡ refusal 10
  pub load_10_taken : (image : Text) (t : Table) (room : ℕ) (id name key : Text) (e : Entry) → decode image ≡ Some t
      → largest ≤ room → entry_of id t ≡ Some e → load_over image room id name key ≡ refusal 10
  -- then 12: the key name, or a key that is not of 8 or 16 bytes
  pub load_12_name : (image : Text) (t : Table) (room : ℕ) (id name key : Text) → decode image ≡ Some t
      → largest ≤ room → GoodIdentity t id → is_name name ≡ false → load_over image room id name key ≡ refusal 12
  pub load_12_key : (image : Text) (t : Table) (room : ℕ) (id name key : Text) → decode image ≡ Some t
      → largest ≤ room → GoodIdentity t id → (length key ≡ 8 → ⊥) → (length key ≡ 16 → ⊥)
      → load_over image room id name key ≡ refusal 12
  -- then 11: the top key, not of odd parity
  pub load_11 : (image : Text) (t : Table) (room : ℕ) (id name key : Text) (top : Top) → decode image ≡ Some t
      → largest ≤ room → GoodIdentity t id → is_name name ≡ true → top_in key ≡ Some top → odd_top top ≡ false
      → load_over image room id name key ≡ refusal 11
  -- then 9: 64 entries in use
  pub load_9 : (image : Text) (t : Table) (room : ℕ) (id name key : Text) (top : Top) → decode image ≡ Some t
      → largest ≤ room → GoodIdentity t id → is_name name ≡ true → top_in key ≡ Some top → odd_top top ≡ true
      → length (identities t.slots) ≡ 64 → load_over image room id name key ≡ refusal 9
  pub load_0 : (image : Text) (t : Table) (room : ℕ) (id name key : Text) (top : Top) → decode image ≡ Some t
      → largest ≤ room → GoodIdentity t id → is_name name ≡ true → top_in key ≡ Some top → odd_top top ≡ true
      → length (identities t.slots) < 64 → (load_over image room id name key).answer ≡ 0
  -- a single key is its 8 bytes, a pair its 16, the high byte first
  pub key_of_8 : top_in (0x01 ∷ 0x23 ∷ 0x45 ∷ 0x67 ∷ 0x89 ∷ 0xAB ∷ 0xCD ∷ 0xEF ∷ []) ≡ Some (Single 0x0123456789ABCDEF)
  pub key_of_16 : top_in (0x01 ∷ 0x23 ∷ 0x45 ∷ 0x67 ∷ 0x89 ∷ 0xAB ∷ 0xCD ∷ 0xEF
      ∷ 0xFE ∷ 0xDC ∷ 0xBA ∷ 0x98 ∷ 0x76 ∷ 0x54 ∷ 0x32 ∷ 0x10 ∷ []) ≡ Some (Pair 0x0123456789ABCDEF 0xFEDCBA9876543210)
