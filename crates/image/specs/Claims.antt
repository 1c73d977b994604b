-- What is claimed of the stored image; proved as `claims` in proofs/Claims.antt.
use Rattle.std.specs.Prelude.{◌≡◌, true, false, List, ◌∷◌, ℕ, ◌+◌, ◌≤◌, ◌<◌, length, get_or, set, None, Some}
use Rattle.octets.specs.Text.{Text}
use Rattle.octets.specs.Part.{all_octets}
use Rattle.partner.specs.declared.Name.{Name}
use Rattle.partner.specs.declared.Entry.{Entry}
use Rattle.partner.specs.Entry.{empty}
use Rattle.partner.specs.Held.{Held}
use Rattle.partner.specs.Record.{entry_size}
use Rattle.partner.specs.Legal as partner
use Rattle.partner.specs.Table.{Table, is_empty, legal, identities, differs, find, into_free_slot}
use Rattle.partner.specs.Table.{holding, started, AllHeld}
use Rattle.image.specs.Image.{smallest, largest, encode, decode}
use Rattle.image.specs.Places.{slot_of, free_slot}
use Rattle.image.specs.Results.{put_slot, added_slot, removed_slot}

-- a slot of a table, and the table with other contents in that slot and every other slot as it was
abbrev pub in_slot : ℕ → Table → Entry
in_slot k t = get_or t.slots k empty

abbrev pub with_slot : ℕ → Entry → Table → Table
with_slot k e t = holding t (set t.slots k e)

pub record Claims : Type 0 where
  -- write then read gives the table back, slot by slot
  pub write_then_read : (t : Table) → legal t ≡ true → AllHeld t.slots → decode (encode t) ≡ Some t
  -- what is read is legal, and writing it gives the image, byte for byte
  pub read_then_write : (s : Text) (t : Table) → decode s ≡ Some t → (legal t ≡ true) × (encode t ≡ s)
  pub read_is_held : (s : Text) (t : Table) → all_octets s ≡ true → decode s ≡ Some t → AllHeld t.slots
  -- the largest image, and that of 64 empty slots
  pub image_sizes : (s : Text) (t : Table) → decode s ≡ Some t → (smallest ≤ length s) × (length s ≤ largest)
  -- and there is an image of each of the two
  pub largest_image : (s : Text) × ((t : Table) × ((decode s ≡ Some t) × (length s ≡ largest)))
  pub smallest_image : (s : Text) × ((t : Table) × ((decode s ≡ Some t) × (length s ≡ smallest)))
  pub start_is_legal : (own : Name) → partner.is_filled own.bytes ≡ true
      → decode (encode (started own)) ≡ Some (started own)
  -- a partner's slot is found exactly where the table has the partner, and holds its entry
  pub slot_found : (s : Text) (t : Table) (id : Text) (e : Entry) → decode s ≡ Some t → partner.is_filled id ≡ true
      → find id t.slots ≡ Some e → (slot_of id s < 64) × (in_slot (slot_of id s) t ≡ e)
  pub slot_missed : (s : Text) (t : Table) (id : Text) → decode s ≡ Some t → partner.is_filled id ≡ true
      → find id t.slots ≡ None → slot_of id s ≡ 64
  -- an entry put back: that slot changed, every other as it was
  pub entry_put_back : (s : Text) (t : Table) (k : ℕ) (e : Entry) → decode s ≡ Some t → k < 64
      → is_empty (in_slot k t) ≡ false → partner.legal e ≡ true → Held e
      → e.identity.bytes ≡ (in_slot k t).identity.bytes
      → (decode (put_slot k e s) ≡ Some (with_slot k e t)) × (length (put_slot k e s) ≡ length s)
  -- the lowest empty slot is found exactly where the table has one
  pub empty_slot_found : (s : Text) (t : Table) (e : Entry) (slots : List Entry) → decode s ≡ Some t
      → into_free_slot e t.slots ≡ Some slots
      → (free_slot s < 64) × (in_slot (free_slot s) t ≡ empty) × (set t.slots (free_slot s) e ≡ slots)
  pub empty_slot_missed : (s : Text) (t : Table) (e : Entry) → decode s ≡ Some t → into_free_slot e t.slots ≡ None
      → free_slot s ≡ 64
  -- a partner added in an empty slot: that slot filled, every other as it was
  pub partner_added : (s : Text) (t : Table) (k : ℕ) (e : Entry) → decode s ≡ Some t → k < 64
      → is_empty (in_slot k t) ≡ true → partner.legal e ≡ true → Held e
      → differs e.identity.bytes (t.own ∷ identities t.slots) ≡ true
      → (u : Text) × ((added_slot k e s ≡ Some u)
      × ((decode u ≡ Some (with_slot k e t)) × (length u ≡ length s + entry_size)))
  -- a partner taken out: its slot empty, every other as it was
  pub partner_removed : (s : Text) (t : Table) (k : ℕ) → decode s ≡ Some t → k < 64 → is_empty (in_slot k t) ≡ false
      → (u : Text) × ((removed_slot k s ≡ Some u)
      × ((decode u ≡ Some (with_slot k empty t)) × (length u + entry_size ≡ length s)))
