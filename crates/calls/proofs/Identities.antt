-- The identities of a row of slots differ, also when a slot is turned, emptied or filled.
use Rattle.std.specs.Prelude.{None, Some}
use mathlib.Core.Path.{◌≡◌, refl, sym, ap, ◌∙◌, subst}
use mathlib.Core.Bool.{true, false, not, ◌&&◌}
use mathlib.Core.List.{List, [], ◌∷◌}
use borrow.Author.Tests.{not-true}
use Rattle.octets.specs.Text.{Text, same}
use Rattle.octets.proofs.Comparing.{both as and_true, same_equal as same_true, same_differs, differs_same}
use Rattle.csm.proofs.TextLaws.{none_some, some_inj}
use Rattle.partner.specs.declared.Entry.{Entry}
use Rattle.partner.specs.Entry.{empty}
use Rattle.partner.specs.Legal as partner
use Rattle.partner.specs.Table.{is_empty, slots_legal, identities, differs, apart, find, put, into_free_slot}
use Rattle.calls.specs.Claims.{kept, placed, Slotwise, next}
use Rattle.calls.proofs.Tests.{by_test, by_part}
use Rattle.calls.proofs.Slots.{empty_is, empty_nobody, full, legal_slot, slot_of, slots_of, row_same}

abbrev Slots : Type 0
Slots = List Entry

-- ---- one slot more

-- what differs from all differs from the others
differs_tail : (n : Text) (e : Entry) (l : Slots) → differs n (identities (e ∷ l)) ≡ true
    → differs n (identities l) ≡ true
differs_tail n e l h =
    by_test (is_empty e) (λ q. rw q at h) (λ q. (and_true (not (same e.identity.bytes n)) _ (rw q at h)).1)

-- the same slot before others
differs_before : (n : Text) (e : Entry) (l m : Slots) → differs n (identities (e ∷ l)) ≡ true
    → differs n (identities m) ≡ true → differs n (identities (e ∷ m)) ≡ true
differs_before n e l m h k =
    by_test (is_empty e) (λ q. rw q k)
    (λ q. rw (q, (and_true (not (same e.identity.bytes n)) _ (rw q at h)).0) k)

apart_tail : (e : Entry) (l : Slots) → apart (identities (e ∷ l)) ≡ true → apart (identities l) ≡ true
apart_tail e l h =
    by_test (is_empty e) (λ q. rw q at h) (λ q. (and_true (differs e.identity.bytes (identities l)) _ (rw q at h)).1)

apart_before : (e : Entry) (l m : Slots) → apart (identities (e ∷ l)) ≡ true
    → (differs e.identity.bytes (identities l) ≡ true → is_empty e ≡ false
    → differs e.identity.bytes (identities m) ≡ true)
    → apart (identities m) ≡ true → apart (identities (e ∷ m)) ≡ true
apart_before e l m h f k =
    by_test (is_empty e) (λ q. rw q k)
    (λ q. rw (q, f (and_true (differs e.identity.bytes (identities l)) _ (rw q at h)).0 q) k)

-- ---- a slot turned

module _ (id : Text) (named : partner.is_filled id ≡ true) where
  -- an entry of the same identity put back
  pub identities_put : (l : Slots) (x : Entry) → is_empty x ≡ false → x.identity.bytes ≡ id
      → identities (put id x l) ≡ identities l
  identities_put [] x h i = refl
  identities_put (e ∷ l) x h i =
      by_test (same e.identity.bytes id)
      (λ q. rw (q, h, full id e named q)
      (ap (λ (n : Text). n ∷ identities l) (i ∙ sym (same_true e.identity.bytes id q))))
      (λ q. rw (q, identities_put l x h i))

  -- ---- a slot emptied

  pub differs_emptied : (n : Text) (l : Slots) → differs n (identities l) ≡ true
      → differs n (identities (put id empty l)) ≡ true
  differs_emptied n [] h = h
  differs_emptied n (e ∷ l) h =
      let d = differs_tail n e l h in
      by_test (same e.identity.bytes id) (λ q. rw (q, empty_is) d)
      (λ q. rw q (differs_before n e l (put id empty l) h (differs_emptied n l d)))

  pub apart_emptied : (l : Slots) → apart (identities l) ≡ true → apart (identities (put id empty l)) ≡ true
  apart_emptied [] h = h
  apart_emptied (e ∷ l) h =
      let a = apart_tail e l h in
      by_test (same e.identity.bytes id) (λ q. rw (q, empty_is) a)
      (λ q. rw q (apart_before e l (put id empty l) h (λ d _. differs_emptied e.identity.bytes l d)
      (apart_emptied l a)))

  -- an identity that none of them has is not found
  pub find_none : (l : Slots) → differs id (identities l) ≡ true → find id l ≡ None
  find_none [] h = refl
  find_none (e ∷ l) h =
      by_test (is_empty e) (λ q. rw (empty_nobody e id q named) (find_none l (rw q at h)))
      (λ q. let k = and_true (not (same e.identity.bytes id)) _ (rw q at h) in
      rw (not-true (same e.identity.bytes id) k.0) (find_none l k.1))

  -- where identities differ, a removed partner is gone
  pub find_emptied : (l : Slots) → apart (identities l) ≡ true → find id (put id empty l) ≡ None
  find_emptied [] h = refl
  find_emptied (e ∷ l) h =
      by_test (same e.identity.bytes id)
      (λ q. let d = (and_true (differs e.identity.bytes (identities l)) _ (rw (full id e named q) at h)).0 in
      rw (q, empty_nobody empty id empty_is named)
      (find_none l (subst (λ (n : Text). differs n (identities l) ≡ true) (same_true e.identity.bytes id q) d)))
      (λ q. rw (q, q) (find_emptied l (apart_tail e l h)))

-- ---- a free slot filled

pub data Places (x : Entry) : Slots → Slots → Type 0 where
  here : (e : Entry) (l : Slots) → is_empty e ≡ true → Places x (e ∷ l) (x ∷ l)
  later : (e : Entry) {l m : Slots} → Places x l m → Places x (e ∷ l) (e ∷ m)

pub place_places : (x : Entry) (l m : Slots) → into_free_slot x l ≡ Some m → Places x l m
place_places x [] m h = absurd (none_some m h)
place_places x (e ∷ l) m h =
    by_test (is_empty e)
    (λ q. let p : Some (x ∷ l) ≡ Some m = rw q at h in subst (Places x (e ∷ l)) (some_inj p) (here e l q))
    (λ q. by_part (into_free_slot x l) (λ r. absurd (none_some m (rw (q, r) at h)))
    (λ k r. let p : Some (e ∷ k) ≡ Some m = rw (q, r) at h in
    subst (Places x (e ∷ l)) (some_inj p) (later e (place_places x l k r))))

pub row_place : (x : Entry) {l m : Slots} → Places x l m → Slotwise x.identity.bytes l m
row_place x (here e l q) = next (placed e x q refl) (row_same x.identity.bytes l)
row_place x (later e p) = next (kept e) (row_place x p)

pub legal_place : (x : Entry) {l m : Slots} → Places x l m → partner.legal x ≡ true → slots_legal l ≡ true
    → slots_legal m ≡ true
legal_place x (here e l q) g h = slots_of x l (legal_slot x g) (slot_of e l h).1
legal_place x (later e {l = l} {m = m} p) g h =
    let s = slot_of e l h in
    slots_of e m s.0 (legal_place x p g s.1)

-- the other way round
pub flip : (k l : Text) → same k l ≡ false → same l k ≡ false
flip k l h = differs_same l k (λ q. same_differs k l h (sym q))

module _ (x : Entry) (filled : is_empty x ≡ false) where
  pub differs_place : (n : Text) {l m : Slots} → Places x l m → differs n (identities l) ≡ true
      → same x.identity.bytes n ≡ false → differs n (identities m) ≡ true
  differs_place n (here e l q) h g = rw (filled, g) (differs_tail n e l h)
  differs_place n (later e {l = l} {m = m} p) h g =
      differs_before n e l m h (differs_place n p (differs_tail n e l h) g)

  pub apart_place : {l m : Slots} → Places x l m → apart (identities l) ≡ true
      → differs x.identity.bytes (identities l) ≡ true → apart (identities m) ≡ true
  apart_place (here e l q) h g =
      rw (filled, differs_tail x.identity.bytes e l g) (apart_tail e l h)
  apart_place (later e {l = l} {m = m} p) h g =
      apart_before e l m h
      (λ d f. differs_place e.identity.bytes p d
      (flip e.identity.bytes x.identity.bytes (first f g)))
      (apart_place p (apart_tail e l h) (differs_tail x.identity.bytes e l g))
    where
      first : is_empty e ≡ false → differs x.identity.bytes (identities (e ∷ l)) ≡ true
          → same e.identity.bytes x.identity.bytes ≡ false
      first f g =
          let s = same e.identity.bytes x.identity.bytes in
          let k : not s && differs x.identity.bytes (identities l) ≡ true = rw f at g in
          not-true s (and_true _ _ k).0
