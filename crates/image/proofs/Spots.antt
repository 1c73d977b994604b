-- Where the slots of a row stand: the number of a partner's slot, of the lowest empty one, and the places of the records
-- in the row's bytes.
use Rattle.std.specs.Prelude.{Option, None, Some}
use mathlib.Core.Path.{◌≡◌, refl, sym, ap, ◌∙◌}
use mathlib.Core.Bool.{Bool, true, false, cond, not, ◌&&◌}
use mathlib.Core.List.{List, [], ◌∷◌, ◌++◌}
use Prim.Native.Nat.{ℕ, zero, suc, ◌+◌, ◌≤◌, ◌<◌}
use native.Mathlib.Nat.{add-zero}
use native.Mathlib.Omega.{arith}
use lib.Dec.{eqb, eqb-zero-suc, eqb-suc-suc}
use lib.ListN.{length, take, get_or, set, length-append}
use Rattle.octets.specs.Text.{Text, same}
use Rattle.octets.specs.Number.{copies}
use Rattle.partner.specs.declared.Entry.{Entry}
use Rattle.partner.specs.Entry.{empty}
use Rattle.partner.specs.Record.{entry_bytes, entry_size}
use Rattle.partner.specs.Table.{is_empty, identities, differs, find, put, behind, into_free_slot}
use Rattle.image.specs.Image.{record_length, slot_bytes, slots_bytes, partner_size}
use Rattle.image.specs.Places.{seek_slot, seek_free, past}
use Rattle.image.specs.Pass.{apart_from}
use Rattle.image.proofs.Entries.{empty_is, legal_full, identity_front}
use Rattle.image.proofs.Slots.{Stored, end, vacant, used, vacant_bytes, partner_bytes, vacant_size, used_size}
use Rattle.image.proofs.Slots.{identities_vacant, identities_full}
use Rattle.image.proofs.Shifts.{seek_shift, free_shift, past_shift}

-- ---- numbers in a row

-- the number of a partner's slot, and of the lowest empty one; the row's length where there is none
abbrev pub number_of : Text → List Entry → ℕ
number_of id [] = 0
number_of id (e ∷ slots) = cond (same e.identity.bytes id) 0 (suc (number_of id slots))

abbrev pub vacancy : List Entry → ℕ
vacancy [] = 0
vacancy (e ∷ slots) = cond (is_empty e) 0 (suc (vacancy slots))

-- a slot, by its number, holds e, and given other contents makes a row new
pub record Numbered (slots : List Entry) (k : ℕ) (e : Entry) (new : Entry → List Entry) : Type 0 where
  pub within : k < length slots
  pub holds : get_or slots k empty ≡ e
  pub changed : (x : Entry) → set slots k x ≡ new x

pub number_found : (id : Text) (e : Entry) (slots : List Entry) → find id slots ≡ Some e
    → Numbered slots (number_of id slots) e (λ x. put id x slots)
number_found id e [] h = absurd (let z : ◌≡◌ {A = ℕ} 0 1 = cc in omega arith)
number_found id e (y ∷ slots) h = go (same y.identity.bytes id) h (number_found id e slots)
  where
    n : ℕ
    n = number_of id slots

    go : (b : Bool) → cond b (Some y) (find id slots) ≡ Some e
        → (find id slots ≡ Some e → Numbered slots n e (λ x. put id x slots))
        → Numbered (y ∷ slots) (cond b 0 (suc n)) e (λ x. cond b (x ∷ slots) (y ∷ put id x slots))
    go true h f = record { within = omega arith; holds = cc; changed = λ x. refl }
    go false h f =
        let r = f h in
        let w = r.within in
        record {
          within = omega arith;
          holds = r.holds;
          changed = λ x. ap (λ (l : List Entry). y ∷ l) (r.changed x);
        }

pub number_missed : (id : Text) (slots : List Entry) → find id slots ≡ None → number_of id slots ≡ length slots
number_missed id [] h = refl
number_missed id (y ∷ slots) h = go (same y.identity.bytes id) h (number_missed id slots)
  where
    n : ℕ
    n = number_of id slots

    go : (b : Bool) → cond b (Some y) (find id slots) ≡ None → (find id slots ≡ None → n ≡ length slots)
        → cond b 0 (suc n) ≡ suc (length slots)
    go true h f = absurd (let z : ◌≡◌ {A = ℕ} 0 1 = cc in omega arith)
    go false h f = ap suc (f h)

-- the identity of what is found
pub found_same : (id : Text) (e : Entry) (slots : List Entry) → find id slots ≡ Some e
    → same e.identity.bytes id ≡ true
found_same id e [] h = absurd (let z : ◌≡◌ {A = ℕ} 0 1 = cc in omega arith)
found_same id e (y ∷ slots) h = go (same y.identity.bytes id) refl h (found_same id e slots)
  where
    go : (b : Bool) → same y.identity.bytes id ≡ b → cond b (Some y) (find id slots) ≡ Some e
        → (find id slots ≡ Some e → same e.identity.bytes id ≡ true) → same e.identity.bytes id ≡ true
    go true q h f =
        let i : y ≡ e = cc in
        ap (λ (x : Entry). same x.identity.bytes id) (sym i) ∙ q
    go false q h f = f h

-- where an entry is placed
pub record Free (x : Entry) (slots m : List Entry) (k : ℕ) : Type 0 where
  pub within : k < length slots
  pub holds : is_empty (get_or slots k empty) ≡ true
  pub changed : set slots k x ≡ m

pub vacancy_found : (x : Entry) (slots m : List Entry) → into_free_slot x slots ≡ Some m → Free x slots m (vacancy slots)
vacancy_found x [] m h = absurd (let z : ◌≡◌ {A = ℕ} 0 1 = cc in omega arith)
vacancy_found x (y ∷ slots) m h = go (is_empty y) refl (into_free_slot x slots) h (vacancy_found x slots)
  where
    n : ℕ
    n = vacancy slots

    go : (b : Bool) → is_empty y ≡ b → (o : Option (List Entry)) → cond b (Some (x ∷ slots)) (behind y o) ≡ Some m
        → ((l : List Entry) → o ≡ Some l → Free x slots l n) → Free x (y ∷ slots) m (cond b 0 (suc n))
    go true z o h f = record { within = omega arith; holds = z; changed = cc }
    go false z None h f = absurd (let z : ◌≡◌ {A = ℕ} 0 1 = cc in omega arith)
    go false z (Some l) h f =
        let r = f l refl in
        let w = r.within in
        let i : y ∷ l ≡ m = cc in
        record {
          within = omega arith;
          holds = r.holds;
          changed = ap (λ (l : List Entry). y ∷ l) r.changed ∙ i;
        }

pub vacancy_missed : (x : Entry) (slots : List Entry) → into_free_slot x slots ≡ None → vacancy slots ≡ length slots
vacancy_missed x [] h = refl
vacancy_missed x (y ∷ slots) h = go (is_empty y) (into_free_slot x slots) h (vacancy_missed x slots)
  where
    n : ℕ
    n = vacancy slots

    go : (b : Bool) (o : Option (List Entry)) → cond b (Some (x ∷ slots)) (behind y o) ≡ None
        → (o ≡ None → n ≡ length slots) → cond b 0 (suc n) ≡ suc (length slots)
    go true o h f = absurd (let z : ◌≡◌ {A = ℕ} 0 1 = cc in omega arith)
    go false None h f = ap suc (f refl)
    go false (Some l) h f = absurd (let z : ◌≡◌ {A = ℕ} 0 1 = cc in omega arith)

-- ---- the searches over the bytes of a row

seek_vacant : (n k : ℕ) (id s : Text) → seek_slot (suc n) k 0 id (0 ∷ s) ≡ seek_slot n (k + 1) 0 id s
unfolding seek_slot record_length
seek_vacant n k id s = seek_shift (0 ∷ []) s 1 refl n (k + 1) 0 id

seek_used : (n k : ℕ) (id b s : Text) → length b ≡ entry_size
    → seek_slot (suc n) k 0 id (2 ∷ (b ++ s)) ≡ cond (same (take 16 (b ++ s)) id) k (seek_slot n (k + 1) 0 id s)
unfolding seek_slot record_length
seek_used n k id b s h =
    let i : seek_slot n (k + 1) partner_size id (2 ∷ (b ++ s)) ≡ seek_slot n (k + 1) 0 id s =
    seek_shift (2 ∷ b) s partner_size (ap suc h) n (k + 1) 0 id in
    rw i

seek_nothing : (k : ℕ) (id s : Text) → seek_slot 0 k 0 id s ≡ k + 0
unfolding seek_slot
seek_nothing k id s = sym (add-zero k)

on : (b : Bool) (k n m : ℕ) → m ≡ k + 1 + n → cond b k m ≡ k + cond b 0 (suc n)
on true k n m h = sym (add-zero k)
on false k n m h = omega arith

module _ (id : Text) (real : same (copies 16 0) id ≡ false) where
  number_vacant : (slots : List Entry) → number_of id (empty ∷ slots) ≡ suc (number_of id slots)
  unfolding empty
  number_vacant slots = rw real

  pub row_seek : (slots : List Entry) → Stored slots → (k : ℕ)
      → seek_slot (length slots) k 0 id (slots_bytes slots) ≡ k + number_of id slots
  row_seek [] end k = seek_nothing k id []
  row_seek (e ∷ slots) (vacant st) k =
      let s = slots_bytes slots in
      let n = number_of id slots in
      let i : k + 1 + n ≡ k + suc n = omega arith in
      ap (seek_slot (suc (length slots)) k 0 id) (vacant_bytes s) ∙ seek_vacant (length slots) k id s
      ∙ row_seek slots st (k + 1) ∙ i ∙ ap (λ (j : ℕ). k + j) (sym (number_vacant slots))
  row_seek (e ∷ slots) (used h w st) k =
      let s = slots_bytes slots in
      let m = seek_slot (length slots) (k + 1) 0 id s in
      ap (seek_slot (suc (length slots)) k 0 id) (partner_bytes e s (legal_full e h))
      ∙ seek_used (length slots) k id (entry_bytes e) s w.size
      ∙ ap (λ (t : Text). cond (same t id) k m) (identity_front e s h)
      ∙ on (same e.identity.bytes id) k (number_of id slots) m (row_seek slots st (k + 1))

  -- none is found exactly where the identity is none of the others'
  differs_or : (b d : Bool) (n l : ℕ) → eqb n l ≡ d → eqb (cond b 0 (suc n)) (suc l) ≡ not b && d
  differs_or true d n l e = eqb-zero-suc l
  differs_or false d n l e = eqb-suc-suc n l ∙ e

  number_differs : (slots : List Entry) → Stored slots
      → eqb (number_of id slots) (length slots) ≡ differs id (identities slots)
  number_differs [] end = refl
  number_differs (e ∷ slots) (vacant st) =
      ap (λ (n : ℕ). eqb n (suc (length slots))) (number_vacant slots)
      ∙ eqb-suc-suc (number_of id slots) (length slots) ∙ number_differs slots st
      ∙ ap (differs id) (sym (identities_vacant slots))
  number_differs (e ∷ slots) (used h w st) =
      differs_or (same e.identity.bytes id) (differs id (identities slots)) (number_of id slots) (length slots)
      (number_differs slots st)
      ∙ ap (differs id) (sym (identities_full e slots (legal_full e h)))

  pub row_apart : (slots : List Entry) → Stored slots
      → apart_from (length slots) 0 id (slots_bytes slots) ≡ differs id (identities slots)
  row_apart slots st =
      let i : seek_slot (length slots) 0 0 id (slots_bytes slots) ≡ number_of id slots =
      omega (arith, row_seek slots st 0) in
      ap (λ (n : ℕ). eqb n (length slots)) i ∙ number_differs slots st

free_vacant : (n k : ℕ) (s : Text) → seek_free (suc n) k 0 (0 ∷ s) ≡ k
unfolding seek_free
free_vacant n k s = refl

free_used : (n k : ℕ) (b s : Text) → length b ≡ entry_size
    → seek_free (suc n) k 0 (2 ∷ (b ++ s)) ≡ seek_free n (k + 1) 0 s
unfolding seek_free record_length
free_used n k b s h = free_shift (2 ∷ b) s partner_size (ap suc h) n (k + 1) 0

free_nothing : (k : ℕ) (s : Text) → seek_free 0 k 0 s ≡ k + 0
unfolding seek_free
free_nothing k s = sym (add-zero k)

pub row_free : (slots : List Entry) → Stored slots → (k : ℕ)
    → seek_free (length slots) k 0 (slots_bytes slots) ≡ k + vacancy slots
row_free [] end k = free_nothing k []
row_free (e ∷ slots) (vacant st) k =
    let s = slots_bytes slots in
    ap (seek_free (suc (length slots)) k 0) (vacant_bytes s) ∙ free_vacant (length slots) k s
    ∙ rw empty_is (sym (add-zero k))
row_free (e ∷ slots) (used h w st) k =
    let s = slots_bytes slots in
    let i : k + 1 + vacancy slots ≡ k + suc (vacancy slots) = omega arith in
    ap (seek_free (suc (length slots)) k 0) (partner_bytes e s (legal_full e h))
    ∙ free_used (length slots) k (entry_bytes e) s w.size ∙ row_free slots st (k + 1) ∙ i ∙ rw (legal_full e h)

-- ---- the place of a slot's record: behind the records of the slots before it

past_first : (n : ℕ) (s : Text) → past (suc n) 0 (0 ∷ s) ≡ 1 + past n 0 s
unfolding past record_length
past_first n s = past_shift (0 ∷ []) s 1 refl n 0

past_used : (n : ℕ) (b s : Text) → length b ≡ entry_size → past (suc n) 0 (2 ∷ (b ++ s)) ≡ partner_size + past n 0 s
unfolding past record_length
past_used n b s h = past_shift (2 ∷ b) s partner_size (ap suc h) n 0

past_nothing : (s : Text) → past 0 0 s ≡ 0
unfolding past
past_nothing s = refl

pub row_past : (slots : List Entry) → Stored slots → (k : ℕ) → k ≤ length slots
    → past k 0 (slots_bytes slots) ≡ length (slots_bytes (take k slots))
row_past slots st zero h = past_nothing (slots_bytes slots)
row_past [] end (suc k) h = absurd (omega arith)
row_past (e ∷ slots) (vacant st) (suc k) h =
    let s = slots_bytes slots in
    ap (past (suc k) 0) (vacant_bytes s) ∙ past_first k s
    ∙ omega
    (arith, row_past slots st k (omega arith), vacant_size, length-append (slot_bytes empty) (slots_bytes (take k slots)))
row_past (e ∷ slots) (used l w st) (suc k) h =
    let s = slots_bytes slots in
    ap (past (suc k) 0) (partner_bytes e s (legal_full e l)) ∙ past_used k (entry_bytes e) s w.size
    ∙ omega
    (arith, row_past slots st k (omega arith), used_size e l w, length-append (slot_bytes e) (slots_bytes (take k slots)))
