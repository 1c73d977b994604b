-- Ask, load and remove over an image: 13, 6 where there is no room for what they write, else what the table gives.
use Rattle.std.specs.Prelude.{Option, None, Some}
use mathlib.Core.Path.{◌≡◌, refl, sym, ap, ◌∙◌, subst}
use mathlib.Core.Bool.{Bool, true, false, cond, not}
use mathlib.Core.List.{[]}
use Prim.Native.Nat.{ℕ, ◌^◌, ◌<◌, ◌≤◌}
use native.Mathlib.Omega.{arith}
use lib.Dec.{ltb}
use lib.ListN.{length}
use borrow.Author.Tests.{lt-ltb, le-ltb, ltb-true, ltb-false, eqb-false}
use Rattle.octets.specs.Text.{Text}
use Rattle.octets.specs.Part.{all_octets, found}
use Rattle.keying.specs.declared.Top.{Top}
use Rattle.partner.specs.Record.{entry_size, entry_bytes}
use Rattle.partner.specs.Changes.{left_of, right_of}
use Rattle.partner.specs.Table.{Table, legal}
use Rattle.image.specs.Image.{largest, decode, encode, table_in}
use Rattle.image.specs.Results.{added_slot, removed_slot}
use Rattle.image.proofs.Images.{table_missing}
use Rattle.calls.specs.Outcome.{Outcome, Turn, refusal, refused}
use Rattle.calls.specs.Calls.{about, remove, load, run}
use Rattle.partner.proofs.Claims as entries
use Rattle.sight.specs.declared.aims.Act.TheVariants.{Remove, Ask, Load}
use Rattle.sight.specs.declared.aims.Aim.{Aim}
use Rattle.sight.specs.declared.aims.Act.{Act}
use Rattle.sight.specs.declared.Sight.{Sight}
use Rattle.sight.specs.Aim.{at_free_slot, with_room, aim_of}
use Rattle.turn.specs.Way.{take}
use Rattle.turn.proofs.Ways.{way_roomed}
use Rattle.card.specs.Whole.{ask_over, delivering, top_in, load_with, load_over, remove_over}
use Rattle.card.specs.Ways.{ours, aim, theirs, sought, blind, sighted, seen, place, turn_in, top_or_zero, top_of, name_with}
use Rattle.image.proofs.Claims as stored
use Rattle.card.proofs.Keys.{top_fits}
use Rattle.card.proofs.Claims.{written_read}
use Rattle.card.proofs.Tables.{lawful_table}
use Rattle.card.proofs.Calling.{table_read, blind_is}
use Rattle.card.proofs.Delivering.{ask_none, remove_none, load_none, ask_table, remove_table, load_table, too_short}
use Rattle.card.proofs.Delivering.{long_enough, load_with_is}
use Rattle.card.proofs.Whole.{Judged, refused_alike, judged_as, ask_judged, asked_held, remove_judged, remove_written, load_judged, load_written}

-- ---- the room that is asked for

module _ (q : Act) (image who text : Text) (asks room : ℕ) where
  abbrev a : Aim
  a = aim q image who text

  abbrev u : Turn
  u = turn_in (with_room a asks) image q text room

  -- what is seen does not depend on it
  same_seen : seen (with_room a asks) image ≡ seen a image
  unfolding seen sought theirs
  same_seen = refl

  roomed : (s : Sight) → seen a image ≡ s
      → u ≡ cond (not s.legal) (refused s.entry 13)
      (cond (ltb room asks) (refused s.entry 6) (take (ours image) (with_room a 0) s q text room))
  roomed s e =
      ap (λ (x : Sight). take (ours image) (with_room a asks) x q text room) (same_seen ∙ e)
      ∙ way_roomed (ours image) a s q text asks room

  no_image : found (decode image) ≡ false → u.outcome ≡ refusal 13
  no_image h = ap (λ (r : Turn). r.outcome) (roomed _ (blind_is q image who text room h))

  module _ (there : found (decode image) ≡ true) where
    lawful_sight : (seen a image).legal ≡ true
    unfolding seen
    lawful_sight = ap (λ (b : Bool). (cond (not b) blind (sighted a image)).legal) there

    no_room : room < asks → u.outcome ≡ refusal 6
    no_room h =
        ap (λ (r : Turn). r.outcome) (roomed (seen a image) refl)
        ∙ ap (λ (b : Bool). (cond (not b) (refused (seen a image).entry 13)
        (cond (ltb room asks) (refused (seen a image).entry 6) (take (ours image) (with_room a 0) (seen a image) q text room))).outcome)
        lawful_sight
        ∙ ap (λ (b : Bool). (cond b (refused (seen a image).entry 6) (take (ours image) (with_room a 0) (seen a image) q text room)).outcome)
        (lt-ltb room asks h)

    with_enough : asks ≤ room → with_room a 0 ≡ a → u ≡ turn_in a image q text room
    with_enough h z =
        roomed (seen a image) refl
        ∙ ap (λ (b : Bool). cond (not b) (refused (seen a image).entry 13)
        (cond (ltb room asks) (refused (seen a image).entry 6) (take (ours image) (with_room a 0) (seen a image) q text room)))
        lawful_sight
        ∙ ap (λ (b : Bool). cond b (refused (seen a image).entry 6) (take (ours image) (with_room a 0) (seen a image) q text room))
        (le-ltb room asks h)
        ∙ ap (λ (x : Aim). take (ours image) x (seen a image) q text room) z

-- ---- all together: 13, 6, then the table's

module _ (q : Act) (image who text : Text) (asks room : ℕ) where
  abbrev pub in_room : Turn
  in_room = turn_in (with_room (aim q image who text) asks) image q text room

  -- with 0 there is a table, and room
  pub was_roomy : in_room.outcome.answer ≡ 0 → (found (decode image) ≡ true) × (asks ≤ room)
  was_roomy h = go (found (decode image)) refl (ltb room asks) refl
    where
      go : (b : Bool) → found (decode image) ≡ b → (l : Bool) → ltb room asks ≡ l
          → (found (decode image) ≡ true) × (asks ≤ room)
      go false p l r =
          absurd (eqb-false 13 0 refl (sym (ap (λ (x : Outcome). x.answer) (no_image q image who text asks room p)) ∙ h))
      go true p true r =
          absurd (eqb-false 6 0 refl
          (sym (ap (λ (x : Outcome). x.answer) (no_room q image who text asks room p (ltb-true room asks r))) ∙ h))
      go true p false r = (p, ltb-false room asks r)

  -- the outcome of a call with these three
  pub in_three : (o : Outcome) (s : Turn → Text) → with_room (aim q image who text) 0 ≡ aim q image who text
      → (found (decode image) ≡ false → o ≡ refusal 13)
      → (found (decode image) ≡ true → room < asks → o ≡ refusal 6)
      → (found (decode image) ≡ true → asks ≤ room
      → Judged o (turn_in (aim q image who text) image q text room) (s (turn_in (aim q image who text) image q text room)))
      → Judged o in_room (s in_room)
  in_three o s z a b c = go (found (decode image)) refl (ltb room asks) refl
    where
      go : (f : Bool) → found (decode image) ≡ f → (l : Bool) → ltb room asks ≡ l → Judged o in_room (s in_room)
      go false p l r = refused_alike o in_room _ 13 refl (a p) (no_image q image who text asks room p)
      go true p true r =
          let h = ltb-true room asks r in
          refused_alike o in_room _ 6 refl (b p h) (no_room q image who text asks room p h)
      go true p false r =
          let h = ltb-false room asks r in
          subst (λ (u : Turn). Judged o u (s u)) (sym (with_enough q image who text asks room p h z)) (c p h)

-- ---- ask for an entry

module _ (image id : Text) (room : ℕ) where
  pub ask_all : Judged (ask_over image room id) (in_room Ask image id [] 256 room)
      (entry_bytes (in_room Ask image id [] 256 room).entry)
  unfolding aim_of
  ask_all =
      in_three Ask image id [] 256 room (ask_over image room id) (λ u. entry_bytes u.entry) refl
      (λ h. ask_none image (table_missing image h) room id)
      (λ p h. ask_table image (table_in image) (table_read image p) room id ∙ too_short room 256 _ h)
      (λ p h.
      let d = table_read image p in
      judged_as (ask_table image (table_in image) d room id ∙ long_enough room 256 _ h) (ask_judged image d id room))

  pub ask_long : (in_room Ask image id [] 256 room).outcome.answer ≡ 0 → all_octets image ≡ true
      → length (entry_bytes (in_room Ask image id [] 256 room).entry) ≡ entry_size
  unfolding aim_of
  ask_long h o =
      let r = was_roomy Ask image id [] 256 room h in
      let d = table_read image r.0 in
      let e = with_enough Ask image id [] 256 room r.0 r.1 refl in
      ap (λ (u : Turn). length (entry_bytes u.entry)) e
      ∙ (entries.claims).record_has_156_bytes _
      (asked_held image d id room (sym (ap (λ (u : Turn). u.outcome.answer) e) ∙ h) o)

-- ---- remove

module _ (image id : Text) (room : ℕ) where
  abbrev removed_image : Text
  removed_image = encode (run (table_in image) (about id remove)).table

  pub remove_all : Judged (remove_over image room id) (in_room Remove image id [] largest room) removed_image
  unfolding aim_of
  remove_all =
      in_three Remove image id [] largest room (remove_over image room id) (λ u. removed_image) refl
      (λ h. remove_none image (table_missing image h) room id)
      (λ p h. remove_table image (table_in image) (table_read image p) room id ∙ too_short room largest _ h)
      (λ p h.
      let d = table_read image p in
      judged_as (remove_table image (table_in image) d room id ∙ long_enough room largest _ h) (remove_judged image d id room))

  pub remove_so : (in_room Remove image id [] largest room).outcome.answer ≡ 0 → all_octets image ≡ true
      → (removed_slot (place (seen (with_room (aim Remove image id []) largest) image)) image ≡ Some removed_image)
      × (length removed_image ≤ room)
  unfolding aim_of seen sought theirs
  remove_so h o =
      let r = was_roomy Remove image id [] largest room h in
      let d = table_read image r.0 in
      let e = with_enough Remove image id [] largest room r.0 r.1 refl in
      let s = ((stored.claims).image_sizes removed_image _ (written_read image (table_in image) (about id remove) o tt d)).1 in
      let m = r.1 in
      (remove_written image d id room (sym (ap (λ (u : Turn). u.outcome.answer) e) ∙ h), omega arith)

-- ---- load

module _ (image id name key : Text) (room : ℕ) where
  abbrev loaded_image : Text
  loaded_image = encode (run (table_in image) (load id (name_with name key) (top_of key))).table

  abbrev pub load_asked : Act
  load_asked = Load (top_of key)

  load_is : (t : Table) → legal t ≡ true
      → load_with t id name (top_in key) ≡ delivering (run t (load id (name_with name key) (top_of key)))
  unfolding name_with top_of
  load_is t l = load_with_is t l id name (top_in key)

  pub load_all : Judged (load_over image room id name key)
      (in_room load_asked image id (name_with name key) largest room) loaded_image
  unfolding aim_of
  load_all =
      in_three load_asked image id (name_with name key) largest room (load_over image room id name key) (λ u. loaded_image) refl
      (λ h. load_none image (table_missing image h) room id name key)
      (λ p h. load_table image (table_in image) (table_read image p) room id name key ∙ too_short room largest _ h)
      (λ p h.
      let d = table_read image p in
      judged_as (load_table image (table_in image) d room id name key ∙ long_enough room largest _ h
      ∙ load_is (table_in image) (lawful_table image (table_in image) d))
      (load_judged image d id (name_with name key) (top_of key) room))

  pub load_so : (in_room load_asked image id (name_with name key) largest room).outcome.answer ≡ 0
      → all_octets image ≡ true → all_octets key ≡ true
      → (added_slot (place (seen (with_room (aim load_asked image id (name_with name key)) largest) image))
      (in_room load_asked image id (name_with name key) largest room).entry image ≡ Some loaded_image)
      × (length loaded_image ≤ room)
  unfolding aim_of seen sought theirs top_of
  load_so h o k =
      let r = was_roomy load_asked image id (name_with name key) largest room h in
      let d = table_read image r.0 in
      let e = with_enough load_asked image id (name_with name key) largest room r.0 r.1 refl in
      let s = ((stored.claims).image_sizes loaded_image _
      (written_read image (table_in image) (load id (name_with name key) (top_of key)) o (key_fits (top_in key) refl) d)).1 in
      let m = r.1 in (
        ap (λ (u : Turn). added_slot (place (seen (at_free_slot (ours image) id) image)) u.entry image) e
            ∙ load_written image d id (name_with name key) (top_of key) room (sym (ap (λ (u : Turn). u.outcome.answer) e) ∙ h),
        omega arith,
      )
    where
      key_fits : (x : Option Top) → top_in key ≡ x
          → (left_of (top_or_zero x) < 2 ^ 64) × (right_of (top_or_zero x) < 2 ^ 64)
      key_fits None q = (omega arith, omega arith)
      key_fits (Some top) q = top_fits key top k q
