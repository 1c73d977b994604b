-- The claims hold.
use Rattle.std.specs.Prelude.{Some}
use mathlib.Core.Path.{◌≡◌, refl, sym, ap, ◌∙◌, subst}
use mathlib.Core.Bool.{true, false, not, true≢false}
use mathlib.Core.List.{[], ◌∷◌}
use Prim.Native.Nat.{ℕ, zero, suc, ◌+◌, ◌≤◌, ◌<◌}
use native.Mathlib.Omega.{arith}
use lib.ListN.{length}
use borrow.Author.Tests.{not-true}
use Rattle.octets.specs.Text.{Text, same}
use Rattle.octets.proofs.Comparing.{both}
use Rattle.partner.specs.declared.Name.{Name}
use Rattle.partner.specs.declared.Entry.{Entry}
use Rattle.partner.specs.Entry.{empty}
use Rattle.partner.specs.Held.{Held}
use Rattle.partner.specs.Legal as rule
use Rattle.partner.specs.Table.{Table, is_empty, identities, differs, started, empties}
use Rattle.partner.specs.Record.{entry_size}
use Rattle.image.specs.Image.{slot_bytes, encode, decode, smallest, largest}
use Rattle.image.specs.Results.{put_slot, added_slot, removed_slot}
use Rattle.image.specs.Claims.{Claims, in_slot, with_slot}
use Rattle.image.proofs.Entries.{held_kept, empty_is, legal_full}
use Rattle.image.proofs.Slots.{Stored, end, vacant, used, vacant_size, used_size, identities_vacant}
use Rattle.image.proofs.Slots.{stored_legal, slots_legal_stored}
use Rattle.image.proofs.Images.{Rules, rules, rules_legal, Decoded, decoded}
use Rattle.image.proofs.Images.{decode_encode, image_size, held_slots}
use Rattle.image.proofs.Edits.{stored_set, same_sym}
use Rattle.image.proofs.Updates.{changed_size, kept_again, new_again}
use Rattle.image.proofs.Numbered.{empty_there, full_size, slot_found, slot_missed, free_found, free_missed}
use Rattle.image.proofs.Numbered.{put_slot_is, load_slot_is, remove_slot_is}
use Rattle.image.proofs.Full.{full, full_read, full_length, bare_read, bare_length}

sizes : (s : Text) (t : Table) → Decoded s t → (smallest ≤ length s) × (length s ≤ largest)
sizes s t d =
    subst (λ (u : Text). (smallest ≤ length u) × (length u ≤ largest)) (sym d.text)
    (image_size t (rules t d.is_legal) d.stored)

-- ---- the first table

stored_empties : (n : ℕ) → Stored (empties n)
unfolding empties
stored_empties zero = end
stored_empties (suc n) = vacant (stored_empties n)

length_empties : (n : ℕ) → length (empties n) ≡ n
unfolding empties
length_empties zero = refl
length_empties (suc n) = ap suc (length_empties n)

identities_empties : (n : ℕ) → identities (empties n) ≡ []
unfolding empties
identities_empties zero = refl
identities_empties (suc n) = identities_vacant (empties n) ∙ identities_empties n

start_legal : (own : Name) → rule.is_filled own.bytes ≡ true → decode (encode (started own)) ≡ Some (started own)
start_legal own h =
    let t = started own in
    let r : Rules t = record {
      slots_64 = length_empties 64;
      own_filled = h;
      each_legal = slots_legal_stored (empties 64) (stored_empties 64);
      all_apart = rw (identities_empties 64);
    } in
    decode_encode t (rules_legal t r) (stored_empties 64)

-- ---- a slot changed

module _ (s : Text) (t : Table) (k : ℕ) (h : decode s ≡ Some t) (w : k < 64) where
  abbrev d : Decoded s t
  d = decoded s t h

  put_back : (e : Entry) → is_empty (in_slot k t) ≡ false → rule.legal e ≡ true → Held e
      → e.identity.bytes ≡ (in_slot k t).identity.bytes
      → (decode (put_slot k e s) ≡ Some (with_slot k e t)) × (length (put_slot k e s) ≡ length s)
  put_back e f l q i =
      let kept = held_kept e q in
      let g = legal_full e l in
      let st = stored_set e (λ m. used l kept) t.slots d.stored k in
      let p = put_slot_is s t h k e w f g in
      let n = full_size t.slots d.stored k f in
      let m = used_size e l kept in
      (ap decode p ∙ kept_again s t d k e st f g i, ap length p ∙ omega (arith, changed_size s t d k w e))

  added : (e : Entry) → is_empty (in_slot k t) ≡ true → rule.legal e ≡ true → Held e
      → differs e.identity.bytes (t.own ∷ identities t.slots) ≡ true
      → (u : Text) × ((added_slot k e s ≡ Some u) × ((decode u ≡ Some (with_slot k e t)) × (length u ≡ length s + entry_size)))
  added e f l q a =
      let kept = held_kept e q in
      let st = stored_set e (λ m. used l kept) t.slots d.stored k in
      let b = both (not (same t.own e.identity.bytes)) (differs e.identity.bytes (identities t.slots)) a in
      let i : same e.identity.bytes t.own ≡ false =
      same_sym t.own e.identity.bytes (not-true (same t.own e.identity.bytes) b.0) in
      let n : length (slot_bytes (in_slot k t)) ≡ 1 =
      ap (λ (x : Entry). length (slot_bytes x)) (empty_there t.slots d.stored k f) ∙ vacant_size in
      let m = used_size e l kept in (
        encode (with_slot k e t),
        (
          load_slot_is s t h k e w f (legal_full e l),
          (new_again s t d k e st (λ z. b.1) (λ z. i), omega (arith, changed_size s t d k w e)),
        ),
      )

  removed : is_empty (in_slot k t) ≡ false
      → (u : Text) × ((removed_slot k s ≡ Some u)
      × ((decode u ≡ Some (with_slot k empty t)) × (length u + entry_size ≡ length s)))
  removed f =
      let st = stored_set empty (λ m. vacant) t.slots d.stored k in
      let n = full_size t.slots d.stored k f in
      let m = vacant_size in (
        encode (with_slot k empty t),
        (
          remove_slot_is s t h k w f,
          (
            new_again s t d k empty st (λ z. absurd (true≢false (sym empty_is ∙ z))) (λ z. absurd (true≢false (sym empty_is ∙ z))),
            omega (arith, changed_size s t d k w empty),
          ),
        ),
      )

pub claims : Claims
claims = record {
  write_then_read = λ t h k. decode_encode t h (stored_legal t.slots k (rules t h).each_legal);
  read_then_write = λ s t h. ((decoded s t h).is_legal, sym (decoded s t h).text);
  read_is_held = held_slots;
  image_sizes = λ s t h. sizes s t (decoded s t h);
  largest_image = (encode (full 64), (full 64, (full_read, full_length)));
  smallest_image = (encode (full 0), (full 0, (bare_read, bare_length)));
  start_is_legal = start_legal;
  slot_found = λ s t id e h f p. let r = slot_found s t h id e f p in (r.0, r.1);
  slot_missed = λ s t id h f p. slot_missed s t h id f p;
  entry_put_back = λ s t k e h w. put_back s t k h w e;
  empty_slot_found = λ s t e slots h p. free_found s t h e slots p;
  empty_slot_missed = λ s t e h p. free_missed s t h e p;
  partner_added = λ s t k e h w. added s t k h w e;
  partner_removed = λ s t k h w. removed s t k h w;
}
