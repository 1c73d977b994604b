-- The way of a call over an image is the call on the image's table.
use Rattle.std.specs.Prelude.{Option, None, Some}
use mathlib.Core.Path.{◌≡◌, refl, sym, ap, ◌∙◌}
use mathlib.Core.Bool.{Bool, true, false, cond, not, ◌&&◌, true≢false}
use mathlib.Core.List.{List, ◌∷◌}
use mathlib.Core.Logic.{⊎_elim}
use Prim.Native.Nat.{ℕ}
use native.Mathlib.Omega.{arith}
use lib.Dec.{eqb, ltb}
use lib.ListN.{length, get_or, set}
use lib.Seq.{set_out}
use borrow.Author.Tests.{ltb-true, ltb-false}
use Rattle.octets.specs.Text.{Text, same}
use Rattle.octets.specs.Part.{bare, found}
use Rattle.octets.proofs.Firsts.{holds_first}
use Rattle.csm.specs.Message.{Reading, read}
use Rattle.partner.specs.declared.Entry.{Entry}
use Rattle.partner.specs.Entry.{empty}
use Rattle.partner.specs.Legal as partner
use Rattle.partner.specs.Table.{Table, legal, is_empty, holding}
use Rattle.image.specs.Image.{decode, encode, table_in}
use Rattle.image.specs.Places.{slot_place}
use Rattle.image.specs.Results.{put_back, put_slot}
use Rattle.image.proofs.Entries.{legal_full, empty_is}
use Rattle.image.proofs.Images.{rules, decoded, table_missing}
use Rattle.image.proofs.Edits.{stored_at}
use Rattle.image.proofs.Numbered.{put_slot_is}
use Rattle.calls.specs.Outcome.{Outcome, Turn, refused}
use Rattle.calls.specs.Calls.{Call, After, run}
use Rattle.calls.proofs.Claims as call
use Rattle.calls.proofs.Tables.{own_name}
use Rattle.outcome.specs.declared.Report.{Report}
use Rattle.outcome.specs.Report.{report, replied}
use Rattle.sight.specs.declared.aims.Act.{Act}
use Rattle.sight.specs.declared.aims.Act.TheVariants.{Receive, BuildKsm, BuildRsi, GiveUp, Remove, Ask, Load}
use Rattle.sight.specs.declared.aims.Aim.{Aim}
use Rattle.sight.specs.declared.Sight.{Sight}
use Rattle.sight.specs.Aim.{at_partner, of_reading, aim_of}
use Rattle.sight.specs.Aim as aims
use Rattle.sight.specs.Asked.{call_of}
use Rattle.turn.specs.Way as way
use Rattle.turn.specs.Way.{refusal as refusal_of, turn, take}
use Rattle.turn.proofs.Ways.{way_ends}
use Rattle.card.specs.Over.{outcome_over, image_over, Called}
use Rattle.card.specs.Claims.{InPlace}
use Rattle.card.specs.Ways.{ours, aim, sought, blind, seen, sighted, place, is_refusal, turn_in, put_in, Changed}
use Rattle.card.proofs.Tables.{lawful_table, encode_is, agrees}
use Rattle.card.proofs.Lasting.{take_lawful}
use Rattle.card.proofs.Seeing.{aim_named, sees, seen_entry, place_is, put_at, slot_full}

-- a legal image is that of the table that its bytes hold
pub table_read : (image : Text) → found (decode image) ≡ true → decode image ≡ Some (table_in image)
unfolding decode
table_read image = go (legal (table_in image) && same (encode (table_in image)) image)
  where
    go : (b : Bool) → found (cond b (Some (table_in image)) None) ≡ true
        → cond b (Some (table_in image)) None ≡ Some (table_in image)
    go true h = refl
    go false h = absurd (true≢false (sym h))

-- no free slot is sought in place
by_text : (own : Text) (o : Option Reading) → (of_reading own o).vacant ≡ false
unfolding of_reading
by_text own None = refl
by_text own (Some r) = go (not (same r.rcv own))
  where
    go : (b : Bool) → (cond b (aims.refused own 2) (at_partner own r.org)).vacant ≡ false
    go true = refl
    go false = refl

not_vacant : (a : Act) (own who text : Text) (room : ℕ) → InPlace (call_of a room who text)
    → (aim_of a own who text).vacant ≡ false
unfolding call_of aim_of
not_vacant Receive own who text room p = by_text own (read text)
not_vacant BuildKsm own who text room p = refl
not_vacant BuildRsi own who text room p = refl
not_vacant GiveUp own who text room p = refl
not_vacant Remove own who text room p = refl
not_vacant Ask own who text room p = refl
not_vacant (Load top) own who text room p = absurd p

module _ (q : Act) (image who text : Text) (room : ℕ) where
  abbrev a : Aim
  a = aim q image who text

  abbrev s : Sight
  s = seen a image

  abbrev u : Turn
  u = turn_in a image q text room

  abbrev c : Call
  c = call_of q room who text

  abbrev t : Table
  t = table_in image

  module _ (d : decode image ≡ Some (table_in image)) where
    -- what it gives, and the slots with the entry put back
    pub ends : (u.outcome ≡ (run t c).outcome) × (set t.slots (place s) u.entry ≡ (run t c).table.slots)
    unfolding table_in
    ends =
        let z = way_ends (bare t.own) t.slots q who text room s
        (sees image t d a (aim_named q (ours image) who text)) in
        let g = agrees t (lawful_table image t d) c in (
          z.0 ∙ ap (λ (x : After). x.outcome) g,
          sym (put_at image t d a (aim_named q (ours image) who text) u.entry) ∙ z.1 ∙ ap (λ (x : After). x.table.slots) g,
        )

    pub table_is : holding t (set t.slots (place s) u.entry) ≡ (run t c).table
    table_is = λ j. record { own = sym ((call.claims).own_stays t c) j; slots = ends.1 j }

    at_is : (place s) ≡ sought a image
    at_is = place_is image t d a (aim_named q (ours image) who text)

    -- in place: the entry that was found is a partner's, and a legal one is put back
    module _ (p : InPlace c) where
      vacant_no : a.vacant ≡ false
      vacant_no = not_vacant q (ours image) who text room p

      old_full : ltb (place s) 64 ≡ true → is_empty (get_or t.slots (place s) empty) ≡ false
      old_full h =
          ap (λ (k : ℕ). is_empty (get_or t.slots k empty)) at_is
          ∙ slot_full image t d a (aim_named q (ours image) who text) vacant_no (ap (λ (k : ℕ). ltb k 64) (sym at_is) ∙ h)

      old_lawful : ltb (place s) 64 ≡ true → partner.legal (get_or t.slots (place s) empty) ≡ true
      old_lawful h =
          ⊎_elim (λ e. absurd (true≢false (sym empty_is ∙ ap is_empty (sym e) ∙ old_full h))) (λ w. w.0)
          (stored_at t.slots (decoded image t d).stored (place s))

      entry_is : s.entry ≡ get_or t.slots (place s) empty
      unfolding table_in
      entry_is = seen_entry image t d a (aim_named q (ours image) who text)

      new_full : ltb (place s) 64 ≡ true → is_empty u.entry ≡ false
      unfolding table_in
      new_full h =
          legal_full u.entry
          (take_lawful (ours image) a s q text who room (own_name t (lawful_table image t d))
          (ap partner.legal entry_is ∙ old_lawful h) p)

      pub stored : put_slot (place s) u.entry image ≡ encode (run t c).table
      unfolding put_slot
      stored = go (ltb (place s) 64) refl
        where
          go : (b : Bool) → ltb (place s) 64 ≡ b → put_slot (place s) u.entry image ≡ encode (run t c).table
          go true h =
              put_slot_is image t d (place s) u.entry (ltb-true (place s) 64 h) (old_full h) (new_full h) ∙ ap encode table_is
          go false h =
              let n = (rules t (lawful_table image t d)).slots_64 in
              let k = ltb-false (place s) 64 h in
              ap (λ (b : Bool). cond b (put_back (slot_place (place s) image) u.entry image) image) h ∙ sym (encode_is image t d)
              ∙ ap (λ (l : List Entry). encode (holding t l)) (sym (set_out t.slots (place s) u.entry (omega arith)))
              ∙ ap encode table_is

  -- what is no image: 13, and nothing is put anywhere
  pub blind_is : found (decode image) ≡ false → s ≡ blind
  unfolding seen
  blind_is h = ap (λ (b : Bool). cond (not b) blind (sighted a image)) h

  is_13 : refusal_of a blind q text room ≡ 13
  unfolding refusal_of
  is_13 = holds_first 13 ((ltb room a.room, 6) ∷ way.by_act q a (way.glance blind) text) (λ z. absurd (omega arith))

  refused_13 : found (decode image) ≡ false → u ≡ refused empty 13
  unfolding take
  refused_13 h =
      ap (λ (x : Sight). take (ours image) a x q text room) (blind_is h)
      ∙ ap (λ (n : ℕ). cond (eqb n 0) (turn (ours image) a.partner empty q text room) (refused empty n)) is_13

  -- the outcome is that of the call over the image
  pub outcome_is : u.outcome ≡ outcome_over image c
  unfolding outcome_over
  outcome_is = go (found (decode image)) refl
    where
      go : (b : Bool) → found (decode image) ≡ b → u.outcome ≡ outcome_over image c
      go true h = let d = table_read image h in (ends d).0 ∙ rw (outcome_over, d)
      go false h = ap (λ (r : Turn). r.outcome) (refused_13 h) ∙ rw (outcome_over, table_missing image h)

  -- and so is the image, in place: the turned entry put back
  put_is : InPlace c → put_slot (place s) u.entry image ≡ image_over image c
  unfolding image_over put_slot
  put_is p = go (found (decode image)) refl
    where
      go : (b : Bool) → found (decode image) ≡ b → put_slot (place s) u.entry image ≡ image_over image c
      go true h = let d = table_read image h in stored d p ∙ rw (image_over, d)
      go false h =
          ap (λ (x : Sight). put_slot (place x) u.entry image) (blind_is h) ∙ rw (image_over, table_missing image h)

  -- or, with a refusal, as it was
  kept_is : (u.outcome.answer ≡ 0 → ⊥) → image ≡ image_over image c
  unfolding image_over
  kept_is n = go (found (decode image)) refl
    where
      go : (b : Bool) → found (decode image) ≡ b → image ≡ image_over image c
      go true h =
          let d = table_read image h in
          let o : (run t c).outcome.answer ≡ u.outcome.answer = sym (ap (λ (x : Outcome). x.answer) (ends d).0) in
          sym (encode_is image t d) ∙ ap encode (sym ((call.claims).unless_done_nothing_changes t c (λ z. n (sym o ∙ z))))
          ∙ rw (image_over, d)
      go false h = rw (image_over, table_missing image h)

  image_is : InPlace c → put_in a image q text room ≡ image_over image c
  image_is p = go (is_refusal u.outcome.answer) refl
    where
      go : (b : Bool) → is_refusal u.outcome.answer ≡ b → put_in a image q text room ≡ image_over image c
      go true h =
          ap (λ (b : Bool). cond b image (put_slot (place s) u.entry image)) h
          ∙ kept_is (λ z. true≢false (sym h ∙ ap is_refusal z))
      go false h = ap (λ (b : Bool). cond b image (put_slot (place s) u.entry image)) h ∙ put_is p

-- a call that changes the image in place
pub called : (q : Act) (image who text buffer : Text) (r r' : Report) → r' ≡ r → (image' buffer' : Text)
    → InPlace (call_of q (length buffer) who text) → Changed q image who text buffer r image' buffer'
    → Called image (call_of q (length buffer) who text) buffer r' image' buffer'
called q image who text buffer r r' e image' buffer' p k =
    let o = outcome_is q image who text (length buffer) in
    record {
      told = e ∙ k.turns.told ∙ ap report o;
      stored = k.stored ∙ image_is q image who text (length buffer) p;
      reply = k.turns.reply ∙ ap (λ (x : Outcome). replied x buffer) o;
    }
