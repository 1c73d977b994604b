-- The slots of a legal image by their numbers: they are the table's, a partner's slot and the lowest empty one are found
-- where the table has them, and an image with a slot changed, filled or emptied is that of the table so changed.
use Rattle.std.specs.Prelude.{Option, None, Some}
use mathlib.Core.Path.{◌≡◌, sym, ap, ◌∙◌, subst}
use mathlib.Core.Bool.{true, false, true≢false}
use mathlib.Core.List.{List, [], ◌∷◌, ◌++◌}
use mathlib.Core.Logic.{⊎_elim}
use Prim.Native.Nat.{ℕ, zero, suc, ◌+◌, ◌≤◌, ◌<◌}
use native.Mathlib.Omega.{arith}
use lib.Dec.{ltb}
use lib.ListN.{length, drop, get_or, set, length-append}
use lib.Seq.{get_or_at}
use Rattle.octets.specs.Text.{Text}
use Rattle.octets.specs.Part.{all_octets}
use Rattle.octets.proofs.Comparing.{same_equal, all_drop}
use Rattle.partner.specs.declared.Entry.{Entry}
use Rattle.partner.specs.Entry.{empty}
use Rattle.partner.specs.Held.{Held}
use Rattle.partner.specs.Legal as partner
use Rattle.partner.specs.Record.{entry_bytes}
use Rattle.partner.specs.Table.{Table, is_empty, find, put, into_free_slot, holding, AllHeld}
use Rattle.image.specs.Image.{slot_bytes, encode, slots_in, decode, front_size, partner_size}
use Rattle.image.specs.Places.{slot_of, free_slot, slot_place, splice, with_partner, without_partner}
use Rattle.image.specs.Results.{put_slot, added_slot, removed_slot}
use Rattle.image.proofs.Entries.{empty_is, empty_held, filled_full, legal_full, is_filled_real}
use Rattle.image.proofs.Slots.{Stored, vacant_size, used_size, row_held}
use Rattle.image.proofs.Images.{rules, Decoded, decoded, slots_there}
use Rattle.image.proofs.Spots.{number_found, number_missed, found_same, vacancy_found, vacancy_missed}
use Rattle.image.proofs.Edits.{splice_middle, stored_at}
use Rattle.image.proofs.Updates.{entry_splice, slot_there, free_there, Cut, cut}
use Rattle.image.proofs.Buffers.{put_back_within, added_within, removed_within}
use Rattle.image.proofs.Buffers.{put_slot_within, added_slot_within, removed_slot_within}

-- ---- one slot's record

-- an entry that is not empty: its kind and its body
pub full_bytes : (e : Entry) → is_empty e ≡ false → slot_bytes e ≡ 2 ∷ entry_bytes e
unfolding slot_bytes
full_bytes e h = rw h

vacant_record : slot_bytes empty ≡ 0 ∷ []
unfolding slot_bytes
vacant_record = rw empty_is

module _ (slots : List Entry) (st : Stored slots) (k : ℕ) where
  -- what looks empty is the empty one
  pub empty_there : is_empty (get_or slots k empty) ≡ true → get_or slots k empty ≡ empty
  empty_there h =
      ⊎_elim (λ e. e) (λ w. absurd (true≢false (sym h ∙ legal_full (get_or slots k empty) w.0))) (stored_at slots st k)

  -- a partner's record has 157 bytes
  pub full_size : is_empty (get_or slots k empty) ≡ false → length (slot_bytes (get_or slots k empty)) ≡ partner_size
  full_size h =
      ⊎_elim (λ e. absurd (true≢false (sym empty_is ∙ ap is_empty (sym e) ∙ h)))
      (λ w. used_size (get_or slots k empty) w.0 w.1) (stored_at slots st k)

-- what a slot of octets holds fits its types
held_at : (slots : List Entry) (k : ℕ) → AllHeld slots → Held (get_or slots k empty)
held_at [] k h = empty_held
held_at (e ∷ slots) zero h = h.0
held_at (e ∷ slots) (suc k) h = held_at slots k h.1

pub slot_held : (image : Text) (k : ℕ) → all_octets image ≡ true → Held (get_or (slots_in 64 (drop front_size image)) k empty)
slot_held image k o =
    held_at (slots_in 64 (drop front_size image)) k (row_held 64 (drop front_size image) (all_drop (λ b. ltb b 256) front_size image o))

module _ (image : Text) (t : Table) (d : decode image ≡ Some t) where
  abbrev is : Decoded image t
  is = decoded image t d

  pub slots_are : t.slots ≡ slots_in 64 (drop front_size image)
  slots_are = slots_there image t d

  slots_64 : length t.slots ≡ 64
  slots_64 = (rules t is.is_legal).slots_64

  -- ---- found

  pub slot_found : (id : Text) (e : Entry) → partner.is_filled id ≡ true → find id t.slots ≡ Some e
      → (slot_of id image < 64) × (get_or t.slots (slot_of id image) empty ≡ e) × (is_empty e ≡ false)
      × ((x : Entry) → set t.slots (slot_of id image) x ≡ put id x t.slots)
  slot_found id e f h =
      let r = number_found id e t.slots h in
      let w = r.within in
      let n = slots_64 in
      let i : e.identity.bytes ≡ id = same_equal e.identity.bytes id (found_same id e t.slots h) in
      let g : is_empty e ≡ false = filled_full e (ap partner.is_filled i ∙ f) in
      subst (λ (k : ℕ). (k < 64) × (get_or t.slots k empty ≡ e) × (is_empty e ≡ false)
      × ((x : Entry) → set t.slots k x ≡ put id x t.slots))
      (sym (slot_there image t is id (is_filled_real id f))) (omega arith, r.holds, g, r.changed)

  pub slot_missed : (id : Text) → partner.is_filled id ≡ true → find id t.slots ≡ None → slot_of id image ≡ 64
  slot_missed id f h = slot_there image t is id (is_filled_real id f) ∙ number_missed id t.slots h ∙ slots_64

  pub free_found : (x : Entry) (m : List Entry) → into_free_slot x t.slots ≡ Some m
      → (free_slot image < 64) × (get_or t.slots (free_slot image) empty ≡ empty)
      × (set t.slots (free_slot image) x ≡ m)
  free_found x m h =
      let r = vacancy_found x t.slots m h in
      let w = r.within in
      let n = slots_64 in
      subst (λ (k : ℕ). (k < 64) × (get_or t.slots k empty ≡ empty) × (set t.slots k x ≡ m))
      (sym (free_there image t is)) (omega arith, empty_there t.slots is.stored _ r.holds, r.changed)

  pub free_missed : (x : Entry) → into_free_slot x t.slots ≡ None → free_slot image ≡ 64
  free_missed x h = free_there image t is ∙ vacancy_missed x t.slots h ∙ slots_64

  -- ---- changed

  module _ (k : ℕ) (h : k < 64) where
    abbrev c : Cut image t k
    c = cut image t is k h

    abbrev at : ℕ
    at = slot_place k image

    -- the bytes of a slot's record replaced
    replaced : (n : ℕ) (x : Entry) → length (slot_bytes (get_or t.slots k empty)) ≡ n
        → splice at n (slot_bytes x) image ≡ encode (holding t (set t.slots k x))
    replaced n x l =
        let b = slot_bytes (get_or t.slots k empty) in
        ap (splice at n (slot_bytes x)) c.whole
        ∙ splice_middle c.before b c.behind (slot_bytes x) at n c.place l ∙ sym (c.changed x)

    -- and it lies whole in the image
    within : (n : ℕ) → length (slot_bytes (get_or t.slots k empty)) ≡ n → at + n ≤ length image
    within n l =
        let b = slot_bytes (get_or t.slots k empty) in
        omega
        (arith, ap length c.whole, length-append c.before (b ++ c.behind), length-append b c.behind, c.place)

    -- a partner's record: its kind
    kind : is_empty (get_or t.slots k empty) ≡ false → get_or image at 0 ≡ 2
    kind f =
        let e = get_or t.slots k empty in
        ap (λ (u : Text). get_or u at 0) (c.whole ∙ ap (λ (b : Text). c.before ++ (b ++ c.behind)) (full_bytes e f))
        ∙ get_or_at c.before 2 (entry_bytes e ++ c.behind) 0 at c.place

  pub put_slot_is : (k : ℕ) (e : Entry) → k < 64 → is_empty (get_or t.slots k empty) ≡ false → is_empty e ≡ false
      → put_slot k e image ≡ encode (holding t (set t.slots k e))
  put_slot_is k e h f g =
      let at = slot_place k image in
      let l = full_size t.slots is.stored k f in
      let w : at + partner_size ≤ length image = within k h partner_size l in
      put_slot_within k image h e ∙ put_back_within at e image w ∙ entry_splice at e image (kind k h f) (omega arith)
      ∙ ap (λ (b : Text). splice at partner_size b image) (sym (full_bytes e g)) ∙ replaced k h partner_size e l

  pub load_slot_is : (k : ℕ) (e : Entry) → k < 64 → is_empty (get_or t.slots k empty) ≡ true → is_empty e ≡ false
      → added_slot k e image ≡ Some (encode (holding t (set t.slots k e)))
  unfolding with_partner
  load_slot_is k e h f g =
      let at = slot_place k image in
      let l : length (slot_bytes (get_or t.slots k empty)) ≡ 1 =
      ap (λ (x : Entry). length (slot_bytes x)) (empty_there t.slots is.stored k f) ∙ vacant_size in
      let w : at + 1 ≤ length image = within k h 1 l in
      added_slot_within k image h e ∙ added_within at e image (omega arith)
      ∙ ap {B = Option Text} Some
      (ap (λ (b : Text). splice at 1 b image) (sym (full_bytes e g)) ∙ replaced k h 1 e l)

  pub remove_slot_is : (k : ℕ) → k < 64 → is_empty (get_or t.slots k empty) ≡ false
      → removed_slot k image ≡ Some (encode (holding t (set t.slots k empty)))
  unfolding without_partner
  remove_slot_is k h f =
      let at = slot_place k image in
      let l = full_size t.slots is.stored k f in
      removed_slot_within k image h ∙ removed_within at image (within k h partner_size l)
      ∙ ap {B = Option Text} Some
      (ap (λ (b : Text). splice at partner_size b image) (sym vacant_record) ∙ replaced k h partner_size empty l)
