-- The row of slots: finding, putting back, placing.
use Rattle.std.specs.Prelude.{Some}
use mathlib.Core.Path.{◌≡◌, refl, sym, ap, ◌∙◌, subst}
use mathlib.Core.Bool.{true, false, ◌||◌, true≢false}
use mathlib.Core.List.{List, [], ◌∷◌, ◌++◌}
use Prim.Native.Nat.{ℕ, zero, suc}
use native.Mathlib.Omega.{arith}
use lib.Dec.{eqb, eqb-zero-suc}
use lib.ListN.{length}
use borrow.Author.Tests.{eqb-true}
use Rattle.octets.specs.Text.{Text, same}
use Rattle.octets.specs.Number.{copies}
use Rattle.octets.proofs.Comparing.{both as and_true, same_equal as same_true, same_differs, same_self as same_refl}
use Rattle.csm.proofs.TextLaws.{none_some, some_inj}
use Rattle.partner.specs.declared.Entry.{Entry}
use Rattle.partner.specs.Entry.{empty}
use Rattle.partner.specs.Legal as partner
use Rattle.partner.specs.Record.{entry_size, entry_bytes}
use Rattle.partner.proofs.Keeping.{rules}
use Rattle.partner.specs.Table.{is_empty, slots_legal, find, put}
use Rattle.calls.specs.Claims.{Slot, kept, turned, emptied, Slotwise, end, next}
use Rattle.calls.proofs.Tests.{never, or_right, and_join, by_test, not_holding}

abbrev Slots : Type 0
Slots = List Entry

-- ---- empty slots and partners' identities

pub empty_is : is_empty empty ≡ true
unfolding is_empty entry_bytes empty
empty_is = refl

-- a text that begins with a zero byte, or is empty, is no filled name
zero_front : (s z : Text) (k : ℕ) (n : Text) → same (s ++ z) (copies k 0) ≡ true → partner.is_filled n ≡ true
    → same s n ≡ false
unfolding partner.is_filled
zero_front s z k [] h f = absurd (true≢false (sym f))
zero_front s z k (zero ∷ n) h f = absurd (true≢false (sym f))
zero_front [] z k (suc c ∷ n) h f = refl
zero_front (b ∷ s) z zero (suc c ∷ n) h f = absurd (true≢false (sym h))
zero_front (b ∷ s) z (suc k) (suc c ∷ n) h f =
    let i = eqb-true b 0 (and_true (eqb b 0) (same (s ++ z) (copies k 0)) h).0 in
    rw (i, eqb-zero-suc c)

-- an empty slot is nobody's
pub empty_nobody : (e : Entry) (id : Text) → is_empty e ≡ true → partner.is_filled id ≡ true
    → same e.identity.bytes id ≡ false
unfolding is_empty entry_bytes
empty_nobody e id h f = zero_front e.identity.bytes _ entry_size id h f

-- a legal entry is no empty slot
pub legal_full : (e : Entry) → partner.legal e ≡ true → is_empty e ≡ false
legal_full e h =
    not_holding (is_empty e) (λ q. same_differs e.identity.bytes e.identity.bytes
    (empty_nobody e e.identity.bytes q (rules e h).identity_filled) refl)

-- a partner's slot is not empty
pub full : (id : Text) (e : Entry) → partner.is_filled id ≡ true → same e.identity.bytes id ≡ true
    → is_empty e ≡ false
full id e named s =
    not_holding (is_empty e) (λ q. never (same e.identity.bytes id) s (empty_nobody e id q named))

-- ---- one partner's entry

module _ (id : Text) where
  pub find_identity : (l : Slots) (e : Entry) → find id l ≡ Some e → e.identity.bytes ≡ id
  find_identity [] e h = absurd (none_some e h)
  find_identity (f ∷ l) e h =
      by_test (same f.identity.bytes id)
      (λ q. let p : Some f ≡ Some e = rw q at h in
      ap (λ (x : Entry). x.identity.bytes) (sym (some_inj p)) ∙ same_true f.identity.bytes id q)
      (λ q. find_identity l e (rw q at h))

  -- an entry put back as it was
  pub put_found : (l : Slots) (e : Entry) → find id l ≡ Some e → put id e l ≡ l
  put_found [] e h = refl
  put_found (f ∷ l) e h =
      by_test (same f.identity.bytes id) (λ q. let p : Some f ≡ Some e = rw q at h in rw q (cc))
      (λ q. rw (q, put_found l e (rw q at h)))

  -- what was put is found
  pub find_put : (l : Slots) (e f : Entry) → find id l ≡ Some e → f.identity.bytes ≡ id
      → find id (put id f l) ≡ Some f
  find_put [] e f h g = absurd (none_some e h)
  find_put (x ∷ l) e f h g =
      by_test (same x.identity.bytes id) (λ q. rw (q, g, same_refl id))
      (λ q. rw (q, q) (find_put l e f (rw q at h) g))

  -- ---- every other slot

  pub row_same : (l : Slots) → Slotwise id l l
  row_same [] = end
  row_same (e ∷ l) = next (kept e) (row_same l)

  row_at : (f : Entry) → ((e : Entry) → e.identity.bytes ≡ id → Slot id e f) → (l : Slots)
      → Slotwise id l (put id f l)
  row_at f h [] = end
  row_at f h (e ∷ l) =
      by_test (same e.identity.bytes id)
      (λ q. rw q (next (h e (same_true e.identity.bytes id q)) (row_same l)))
      (λ q. rw q (next (kept e) (row_at f h l)))

  pub row_put : (l : Slots) (f : Entry) → f.identity.bytes ≡ id → Slotwise id l (put id f l)
  row_put l f g = row_at f (λ e p. turned e f p g) l

  pub row_empty : (l : Slots) → Slotwise id l (put id empty l)
  row_empty l = row_at empty emptied l

  pub row_length : (l m : Slots) → Slotwise id l m → length m ≡ length l
  row_length l m end = refl
  row_length l m (next {l = k} {m = n} s r) = let i = row_length k n r in omega arith

-- ---- legal slots

pub slot_of : (e : Entry) (l : Slots) → slots_legal (e ∷ l) ≡ true
    → (is_empty e || partner.legal e ≡ true) × (slots_legal l ≡ true)
unfolding slots_legal
slot_of e l h = and_true (is_empty e || partner.legal e) (slots_legal l) h

pub slots_of : (e : Entry) (l : Slots) → is_empty e || partner.legal e ≡ true → slots_legal l ≡ true
    → slots_legal (e ∷ l) ≡ true
unfolding slots_legal
slots_of e l a b = and_join (is_empty e || partner.legal e) (slots_legal l) a b

pub legal_slot : (e : Entry) → partner.legal e ≡ true → is_empty e || partner.legal e ≡ true
legal_slot e h = rw (legal_full e h) h

pub empty_slot : is_empty empty || partner.legal empty ≡ true
empty_slot = rw empty_is

module _ (id : Text) (named : partner.is_filled id ≡ true) where
  -- the entry that is found is legal
  pub legal_find : (l : Slots) (e : Entry) → slots_legal l ≡ true → find id l ≡ Some e → partner.legal e ≡ true
  legal_find [] e h k = absurd (none_some e k)
  legal_find (f ∷ l) e h k =
      by_test (same f.identity.bytes id)
      (λ q. let p : Some f ≡ Some e = rw q at k in
      subst (λ (x : Entry). partner.legal x ≡ true) (some_inj p)
      (or_right (is_empty f) (partner.legal f) (full id f named q) (slot_of f l h).0))
      (λ q. legal_find l e (slot_of f l h).1 (rw q at k))

pub legal_put : (id : Text) (l : Slots) (x : Entry) → slots_legal l ≡ true → is_empty x || partner.legal x ≡ true
    → slots_legal (put id x l) ≡ true
legal_put id [] x h k = h
legal_put id (e ∷ l) x h k =
    let s = slot_of e l h in
    by_test (same e.identity.bytes id) (λ q. rw q (slots_of x l k s.1))
    (λ q. rw q (slots_of e (put id x l) s.0 (legal_put id l x s.1 k)))
