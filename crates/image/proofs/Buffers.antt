-- What the writers leave in a lent buffer, and what is delivered there.
use Rattle.std.specs.Prelude.{Option, None, Some}
use mathlib.Core.Path.{◌≡◌, refl, sym, ap, ◌∙◌}
use mathlib.Core.Bool.{Bool, true, false}
use mathlib.Core.List.{[], ◌∷◌, ◌++◌, append_assoc, append-nil}
use Prim.Native.Nat.{ℕ, zero, suc, ◌+◌, ◌-◌, ◌≤◌, ◌<◌}
use native.Mathlib.Omega.{arith}
use lib.Dec.{ltb, leb}
use lib.ListN.{length, take, drop, length-append, length-drop, take-append-drop, drop_of_length-le}
use lib.Seq.{drop-drop}
use borrow.Author.Tests.{lt-ltb, le-ltb, le-leb, lt-leb, leb-true, leb-false}
use Rattle.octets.specs.Text.{Text}
use Rattle.octets.specs.Number.{copies}
use Rattle.octets.specs.Wrote.{Wrote}
use Rattle.octets.proofs.Writing.{wrote_fits, rest_is}
use Rattle.partner.specs.declared.Name.{Name}
use Rattle.partner.specs.declared.Entry.{Entry}
use Rattle.partner.specs.Record.{entry_bytes, put_entry, entry_size}
use Rattle.partner.specs.Table.{started, empties}
use Rattle.image.specs.Image.{slots_bytes, encode, partner_size, smallest}
use Rattle.image.specs.Places.{slot_place, splice, with_entry, with_partner, without_partner}
use Rattle.image.specs.Results.{put_back, added, removed, put_slot, added_slot, removed_slot}
use Rattle.image.specs.Results.{delivered, length_delivered}
use Rattle.image.proofs.Slots.{vacant_bytes}
use Rattle.image.proofs.Updates.{splice_size}

-- ---- delivered or not

-- a buffer and a length are what is delivered
pub record Given (image : Option Text) (out out' : Text) (n : Option ℕ) : Type 0 where
  pub out_after : out' ≡ delivered image out
  pub value : n ≡ length_delivered image out

pub given_none : (out : Text) → Given None out out None
unfolding delivered length_delivered
given_none out = record { out_after = refl; value = refl }

pub given_no_room : (t out : Text) → length out < length t → Given (Some t) out out None
unfolding delivered length_delivered
given_no_room t out h =
    let e : leb (length t) (length out) ≡ false = lt-leb (length t) (length out) h in
    record { out_after = rw e; value = rw e }

pub given_wrote : {t out out' : Text} {n : ℕ} → length t ≤ length out → Wrote t out out' n → Given (Some t) out out' (Some n)
unfolding delivered length_delivered
given_wrote {t} {out} {out'} {n} h w =
    let e : leb (length t) (length out) ≡ true = le-leb (length t) (length out) h in
    let f = wrote_fits w h in
    record { out_after = rw e f.0; value = rw e (ap Some f.1) }

-- where there is room
pub delivered_room : (t out : Text) → length t ≤ length out
    → (delivered (Some t) out ≡ t ++ drop (length t) out) × (length_delivered (Some t) out ≡ Some (length t))
unfolding delivered length_delivered
delivered_room t out h =
    let e : leb (length t) (length out) ≡ true = le-leb (length t) (length out) h in
    (rw e, rw e)

-- within the image
pub put_back_within : (at : ℕ) (e : Entry) (image : Text) → at + partner_size ≤ length image
    → put_back at e image ≡ with_entry at e image
unfolding put_back
put_back_within at e image h = rw (le-leb (at + partner_size) (length image) h)

pub added_within : (at : ℕ) (e : Entry) (image : Text) → at < length image
    → added at e image ≡ Some (with_partner at e image)
unfolding added
added_within at e image h = rw (lt-ltb at (length image) h)

pub removed_within : (at : ℕ) (image : Text) → at + partner_size ≤ length image
    → removed at image ≡ Some (without_partner at image)
unfolding removed
removed_within at image h = rw (le-leb (at + partner_size) (length image) h)

-- of one of the 64 slots
module _ (k : ℕ) (image : Text) (h : k < 64) where
  pub put_slot_within : (e : Entry) → put_slot k e image ≡ put_back (slot_place k image) e image
  unfolding put_slot
  put_slot_within e = rw (lt-ltb k 64 h)

  pub added_slot_within : (e : Entry) → added_slot k e image ≡ added (slot_place k image) e image
  unfolding added_slot
  added_slot_within e = rw (lt-ltb k 64 h)

  pub removed_slot_within : removed_slot k image ≡ removed (slot_place k image) image
  unfolding removed_slot
  removed_slot_within = rw (lt-ltb k 64 h)

-- ---- a partner added, a partner taken out

module _ (at : ℕ) (image out : Text) where
  pub added_outside : (e : Entry) → length image ≤ at → Given (added at e image) out out None
  unfolding added
  added_outside e h = rw (le-ltb at (length image) h) (given_none out)

  module _ (e : Entry) (size : length (entry_bytes e) ≡ entry_size) (h : at < length image) where
    added_size : length (with_partner at e image) ≡ length image + entry_size
    unfolding with_partner
    added_size = omega (arith, splice_size at 1 (2 ∷ entry_bytes e) image (omega arith))

    pub added_no_room : length out < length image + entry_size → Given (added at e image) out out None
    unfolding added
    added_no_room k =
        rw (lt-ltb at (length image) h) (given_no_room (with_partner at e image) out (omega (arith, added_size)))

    pub added_wrote : {out' : Text} {n : ℕ} → length image + entry_size ≤ length out
        → Wrote (with_partner at e image) out out' n → Given (added at e image) out out' (Some n)
    unfolding added
    added_wrote k w = rw (lt-ltb at (length image) h) (given_wrote (omega (arith, added_size)) w)

  pub removed_outside : length image < at + partner_size → Given (removed at image) out out None
  unfolding removed
  removed_outside h = rw (lt-leb (at + partner_size) (length image) h) (given_none out)

  module _ (h : at + partner_size ≤ length image) where
    removed_size : length (without_partner at image) + entry_size ≡ length image
    unfolding without_partner
    removed_size = omega (arith, splice_size at partner_size (0 ∷ []) image h)

    pub removed_no_room : length out + entry_size < length image → Given (removed at image) out out None
    unfolding removed
    removed_no_room k =
        rw (le-leb (at + partner_size) (length image) h)
        (given_no_room (without_partner at image) out (omega (arith, removed_size)))

    pub removed_wrote : {out' : Text} {n : ℕ} → length image ≤ length out + entry_size
        → Wrote (without_partner at image) out out' n → Given (removed at image) out out' (Some n)
    unfolding removed
    removed_wrote k w = rw (le-leb (at + partner_size) (length image) h) (given_wrote (omega (arith, removed_size)) w)

-- ---- writers

module _ (e : Entry) (l : Text) where
  pub put_long : entry_size ≤ length l → ((put_entry e l).0 ≡ entry_bytes e ++ drop entry_size l) × ((put_entry e l).1 ≡ entry_size)
  unfolding put_entry
  put_long h = let f : ltb (length l) entry_size ≡ false = le-ltb (length l) entry_size h in (rw f, rw f)

  pub put_short : length l < entry_size → (put_entry e l).0 ≡ l
  unfolding put_entry
  put_short h = rw (lt-ltb (length l) entry_size h)

-- the front, a text, and what is behind k bytes there
pub splice_as : (at k : ℕ) (t image : Text)
    → (take at image ++ t) ++ take (length image - (at + k)) (drop (at + k) image) ≡ splice at k t image
unfolding splice
splice_as at k t image =
    append_assoc (take at image) t (take (length image - (at + k)) (drop (at + k) image))
    ∙ ap (λ (r : Text). take at image ++ (t ++ r)) (rest_is (at + k) image)

put_there : (at : ℕ) (e : Entry) (image : Text) (b : Bool) → leb (at + partner_size) (length image) ≡ b
    → take (at + 1) image ++ (put_entry e (drop (at + 1) image)).0 ≡ put_back at e image
unfolding put_back with_entry splice
put_there at e image true h =
    let k = leb-true (at + partner_size) (length image) h in
    let l = length-drop (at + 1) image in
    let w : (put_entry e (drop (at + 1) image)).0 ≡ entry_bytes e ++ drop entry_size (drop (at + 1) image) =
    (put_long e (drop (at + 1) image) (omega arith)).0 in
    let v = w ∙ ap (λ (r : Text). entry_bytes e ++ r) (drop-drop entry_size (at + 1) image) in
    rw h (ap (λ (r : Text). take (at + 1) image ++ r) v)
put_there at e image false h =
    let k = leb-false (at + partner_size) (length image) h in
    let l = length-drop (at + 1) image in
    let w : (put_entry e (drop (at + 1) image)).0 ≡ drop (at + 1) image =
    put_short e (drop (at + 1) image) (omega arith) in
    rw h (ap (λ (r : Text). take (at + 1) image ++ r) w ∙ take-append-drop (at + 1) image)

-- an entry put through `&mut image[at + 1..]`
pub put_back_so : (at : ℕ) (e : Entry) (image last : Text) → at < length image
    → last ≡ (put_entry e (take (length image - (at + 1)) (drop (at + 1) image))).0
    → take (at + 1) image ++ (last ++ drop (length image - (at + 1)) (drop (at + 1) image)) ≡ put_back at e image
put_back_so at e image last h p =
    let n = length image - (at + 1) in
    let l = drop (at + 1) image in
    let m : length l ≤ n = omega (arith, length-drop (at + 1) image) in
    let q : last ≡ (put_entry e l).0 = p ∙ ap (λ (r : Text). (put_entry e r).0) (rest_is (at + 1) image) in
    let r : last ++ drop n l ≡ (put_entry e l).0 =
    ap (λ (x : Text). last ++ x) (drop_of_length-le l m) ∙ append-nil last ∙ q in
    ap (λ (x : Text). take (at + 1) image ++ x) r ∙ put_there at e image (leb (at + partner_size) (length image)) refl

pub put_back_not : (at : ℕ) (e : Entry) (image : Text) → length image ≤ at → image ≡ put_back at e image
unfolding put_back
put_back_not at e image h = rw (lt-leb (at + partner_size) (length image) (omega arith))

-- the image of 64 empty slots
empties_bytes : (n : ℕ) → slots_bytes (empties n) ≡ copies n 0
unfolding empties
empties_bytes zero = refl
empties_bytes (suc n) = vacant_bytes (slots_bytes (empties n)) ∙ ap (λ (s : Text). 0 ∷ s) (empties_bytes n)

pub started_as : (own : Name) → (copies 1 1 ++ own.bytes) ++ copies 64 0 ≡ encode (started own)
unfolding encode
started_as own = ap (λ (s : Text). 1 ∷ (own.bytes ++ s)) (sym (empties_bytes 64))

pub started_size : (own : Name) → length own.bytes ≡ 16 → length (encode (started own)) ≡ smallest
started_size own h =
    ap length (sym (started_as own)) ∙ length-append (copies 1 1 ++ own.bytes) (copies 64 0) ∙ omega arith
