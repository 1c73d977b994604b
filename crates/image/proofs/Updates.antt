-- A legal image, slot by slot: the number of a slot, where its record stands, and the image of the table with that slot
-- changed.
use Rattle.std.specs.Prelude.{Some}
use mathlib.Core.Path.{◌≡◌, sym, ap, ◌∙◌}
use mathlib.Core.Bool.{true, false}
use mathlib.Core.List.{List, [], ◌∷◌, ◌++◌, append_assoc}
use Prim.Native.Nat.{ℕ, suc, ◌+◌, ◌≤◌, ◌<◌}
use native.Mathlib.Numerals.{add-one}
use native.Mathlib.Omega.{arith}
use lib.ListN.{length, take, drop, get_or, set, length-append, length-drop, length-set}
use lib.Seq.{take_at, take-suc, length-take-le}
use Rattle.octets.specs.Text.{Text, same}
use Rattle.octets.specs.Number.{copies}
use Rattle.octets.proofs.Comparing.{both}
use Rattle.partner.specs.declared.Entry.{Entry}
use Rattle.partner.specs.Entry.{empty}
use Rattle.partner.specs.Record.{entry_bytes, entry_size}
use Rattle.partner.proofs.Naming.{filled_length}
use Rattle.partner.specs.Table.{Table, is_empty, identities, differs, apart, holding}
use Rattle.image.specs.Image.{slot_bytes, slots_bytes, encode, decode, front_size, partner_size}
use Rattle.image.specs.Places.{own_in, seek_slot, slot_of, seek_free, free_slot, slot_place, splice, with_entry}
use Rattle.image.proofs.Slots.{Stored, slots_legal_stored}
use Rattle.image.proofs.Images.{Rules, rules, rules_legal, Decoded, decode_encode}
use Rattle.image.proofs.Shifts.{seek_shift, free_shift, past_shift}
use Rattle.image.proofs.Spots.{number_of, vacancy, row_seek, row_free, row_past}
use Rattle.image.proofs.Edits.{row_set, row_cut, identities_kept, differs_set, apart_set}

-- ---- bytes replaced

pub splice_size : (at k : ℕ) (t s : Text) → at + k ≤ length s → length (splice at k t s) + k ≡ length t + length s
unfolding splice
splice_size at k t s h =
    let a = length-append (take at s) (t ++ drop (at + k) s) in
    let b = length-append t (drop (at + k) s) in
    let c : length (take at s) ≡ at = length-take-le at s (omega arith) in
    let d = length-drop (at + k) s in
    omega arith

-- a record put back is its kind's byte and its body replaced
pub entry_splice : (at : ℕ) (e : Entry) (s : Text) → get_or s at 0 ≡ 2 → at < length s
    → with_entry at e s ≡ splice at partner_size (2 ∷ entry_bytes e) s
unfolding with_entry splice
entry_splice at e s k h =
    let a : take (at + 1) s ≡ take at s ++ (2 ∷ []) =
    ap (λ (i : ℕ). take i s) (add-one at) ∙ take-suc s at 0 h ∙ ap (λ (x : ℕ). take at s ++ (x ∷ [])) k in
    let i : at + 1 + entry_size ≡ at + partner_size = omega arith in
    let r = entry_bytes e ++ drop (at + partner_size) s in
    ap (λ (j : ℕ). take (at + 1) s ++ (entry_bytes e ++ drop j s)) i ∙ ap (λ (t : Text). t ++ r) a
    ∙ append_assoc (take at s) (2 ∷ []) r

-- ---- a decoded image

-- an image cut at the record of a slot: what is before it, the record, and what is behind it
pub record Cut (s : Text) (t : Table) (k : ℕ) : Type 0 where
  pub before : Text
  pub behind : Text
  pub place : length before ≡ slot_place k s
  pub whole : s ≡ before ++ (slot_bytes (get_or t.slots k empty) ++ behind)
  pub changed : (x : Entry) → encode (holding t (set t.slots k x)) ≡ before ++ (slot_bytes x ++ behind)

module _ (s : Text) (t : Table) (d : Decoded s t) where
  kept_rules : Rules t
  kept_rules = rules t d.is_legal

  own_16 : length t.own ≡ 16
  own_16 = filled_length t.own kept_rules.own_filled

  split : s ≡ (1 ∷ t.own) ++ slots_bytes t.slots
  unfolding encode
  split = d.text

  pub own_there : own_in s ≡ t.own
  own_there = ap own_in split ∙ take_at t.own (slots_bytes t.slots) 16 own_16

  -- the numbers of slots
  pub slot_there : (id : Text) → same (copies 16 0) id ≡ false → slot_of id s ≡ number_of id t.slots
  unfolding slot_of
  slot_there id real =
      let r = slots_bytes t.slots in
      ap (seek_slot 64 0 front_size id) split ∙ seek_shift (1 ∷ t.own) r front_size (ap suc own_16) 64 0 0 id
      ∙ ap (λ (n : ℕ). seek_slot n 0 0 id r) (sym kept_rules.slots_64)
      ∙ omega (arith, row_seek id real t.slots d.stored 0)

  pub free_there : free_slot s ≡ vacancy t.slots
  unfolding free_slot
  free_there =
      let r = slots_bytes t.slots in
      ap (seek_free 64 0 front_size) split ∙ free_shift (1 ∷ t.own) r front_size (ap suc own_16) 64 0 0
      ∙ ap (λ (n : ℕ). seek_free n 0 0 r) (sym kept_rules.slots_64)
      ∙ omega (arith, row_free t.slots d.stored 0)

  -- where a slot's record stands
  place_there : (k : ℕ) → k < 64 → slot_place k s ≡ front_size + length (slots_bytes (take k t.slots))
  unfolding slot_place
  place_there k h =
      ap (slot_place k) split ∙ past_shift (1 ∷ t.own) (slots_bytes t.slots) front_size (ap suc own_16) k 0
      ∙ ap (λ (n : ℕ). front_size + n) (row_past t.slots d.stored k (omega (arith, kept_rules.slots_64)))

  pub cut : (k : ℕ) → k < 64 → Cut s t k
  unfolding encode
  cut k h =
      let n = kept_rules.slots_64 in
      let w : k < length t.slots = omega arith in
      let a : Text = 1 ∷ t.own in
      let b : Text = slots_bytes (take k t.slots) in
      let c : Text = slots_bytes (drop (suc k) t.slots) in
      record {
        before = a ++ b;
        behind = c;
        place = length-append a b ∙ omega (arith, own_16, place_there k h);
        whole = split ∙ ap (λ (u : Text). a ++ u) (row_cut t.slots k w)
            ∙ sym (append_assoc a b (slot_bytes (get_or t.slots k empty) ++ c));
        changed = λ x.
            ap (λ (u : Text). a ++ u) (row_set t.slots k x w) ∙ sym (append_assoc a b (slot_bytes x ++ c));
      }

  -- the length of the image with that slot changed
  pub changed_size : (k : ℕ) → k < 64 → (x : Entry) → length (encode (holding t (set t.slots k x)))
      + length (slot_bytes (get_or t.slots k empty)) ≡ length s + length (slot_bytes x)
  changed_size k h x =
      let c = cut k h in
      let e = get_or t.slots k empty in
      let a = ap length c.whole ∙ length-append c.before (slot_bytes e ++ c.behind) in
      let b = ap length (c.changed x) ∙ length-append c.before (slot_bytes x ++ c.behind) in
      omega (arith, length-append (slot_bytes e) c.behind, length-append (slot_bytes x) c.behind)

  -- that image is read again, where the identities differ from each other and from ours
  module _ (k : ℕ) (x : Entry) (st : Stored (set t.slots k x)) where
    read_again : apart (t.own ∷ identities (set t.slots k x)) ≡ true
        → decode (encode (holding t (set t.slots k x))) ≡ Some (holding t (set t.slots k x))
    read_again a =
        let u : Table = holding t (set t.slots k x) in
        let w : Rules u = record {
          slots_64 = length-set t.slots k x ∙ kept_rules.slots_64;
          own_filled = kept_rules.own_filled;
          each_legal = slots_legal_stored (set t.slots k x) st;
          all_apart = a;
        } in
        decode_encode u (rules_legal u w) st

    -- an entry with the identity of its slot
    pub kept_again : is_empty (get_or t.slots k empty) ≡ false → is_empty x ≡ false
        → x.identity.bytes ≡ (get_or t.slots k empty).identity.bytes
        → decode (encode (holding t (set t.slots k x))) ≡ Some (holding t (set t.slots k x))
    kept_again e f i =
        read_again
        (ap (λ (l : List Text). apart (t.own ∷ l)) (identities_kept x t.slots k e f i) ∙ kept_rules.all_apart)

    -- an empty slot, or an entry whose identity is new
    pub new_again : (is_empty x ≡ false → differs x.identity.bytes (identities t.slots) ≡ true)
        → (is_empty x ≡ false → same x.identity.bytes t.own ≡ false)
        → decode (encode (holding t (set t.slots k x))) ≡ Some (holding t (set t.slots k x))
    new_again f g =
        let b = both (differs t.own (identities t.slots)) (apart (identities t.slots)) kept_rules.all_apart in
        let p : differs t.own (identities (set t.slots k x)) ≡ true = differs_set x t.own t.slots k b.0 g in
        let q : apart (identities (set t.slots k x)) ≡ true = apart_set x t.slots k b.1 f in
        read_again (rw (p, q))
