-- A row with one slot changed: its bytes, that it is stored, and the identities in it.
use mathlib.Core.Path.{◌≡◌, refl, sym, ap, ◌∙◌}
use mathlib.Core.Bool.{Bool, true, false, cond, not, ◌&&◌, ◌||◌}
use mathlib.Core.List.{List, [], ◌∷◌, ◌++◌, append_assoc}
use mathlib.Core.Logic.{◌⊎◌, inl, inr}
use Prim.Native.Nat.{ℕ, zero, suc, ◌+◌, ◌<◌}
use native.Mathlib.Omega.{arith}
use lib.ListN.{length, take, drop, get_or, set}
use lib.Seq.{take_at, drop_at, drop-append-add, set-get_or}
use borrow.Author.Tests.{not-true}
use Rattle.octets.specs.Text.{Text, same}
use Rattle.octets.proofs.Comparing.{both, same_differs, differs_same}
use Rattle.partner.specs.declared.Entry.{Entry}
use Rattle.partner.specs.Entry.{empty}
use Rattle.partner.specs.Legal as rule
use Rattle.partner.specs.Table.{is_empty, identities, differs, apart}
use Rattle.image.specs.Image.{slot_bytes, slots_bytes}
use Rattle.image.specs.Places.{splice}
use Rattle.image.proofs.Entries.{Kept}
use Rattle.image.proofs.Slots.{Stored, end, vacant, used, legal_or, identities_full}

-- ---- bytes

-- the middle of a text replaced
pub splice_middle : (p b r t : Text) (at k : ℕ) → length p ≡ at → length b ≡ k
    → splice at k t (p ++ (b ++ r)) ≡ p ++ (t ++ r)
unfolding splice
splice_middle p b r t at k h l =
    let d : drop (at + k) (p ++ (b ++ r)) ≡ r =
    ap (λ (i : ℕ). drop (i + k) (p ++ (b ++ r))) (sym h) ∙ drop-append-add p (b ++ r) k ∙ drop_at b r k l in
    rw (take_at p (b ++ r) at h, d)

-- the records before a slot, the slot's, and those behind it
pub row_set : (slots : List Entry) (k : ℕ) (x : Entry) → k < length slots
    → slots_bytes (set slots k x) ≡ slots_bytes (take k slots) ++ (slot_bytes x ++ slots_bytes (drop (suc k) slots))
row_set [] k x h = absurd (omega arith)
row_set (e ∷ slots) zero x h = refl
row_set (e ∷ slots) (suc k) x h =
    ap (λ (s : Text). slot_bytes e ++ s) (row_set slots k x (omega arith))
    ∙ sym (append_assoc (slot_bytes e) (slots_bytes (take k slots)) (slot_bytes x ++ slots_bytes (drop (suc k) slots)))

pub row_cut : (slots : List Entry) (k : ℕ) → k < length slots → slots_bytes slots
    ≡ slots_bytes (take k slots) ++ (slot_bytes (get_or slots k empty) ++ slots_bytes (drop (suc k) slots))
row_cut slots k h = ap slots_bytes (sym (set-get_or slots k empty)) ∙ row_set slots k (get_or slots k empty) h

-- ---- what a row holds

pub stored_at : (slots : List Entry) → Stored slots → (k : ℕ)
    → (get_or slots k empty ≡ empty) ⊎ ((rule.legal (get_or slots k empty) ≡ true) × Kept (get_or slots k empty))
stored_at [] end k = inl refl
stored_at (e ∷ slots) (vacant st) zero = inl refl
stored_at (e ∷ slots) (vacant st) (suc k) = stored_at slots st k
stored_at (e ∷ slots) (used h w st) zero = inr (h, w)
stored_at (e ∷ slots) (used h w st) (suc k) = stored_at slots st k

pub stored_set : (x : Entry) → ((l : List Entry) → Stored l → Stored (x ∷ l)) → (slots : List Entry) → Stored slots
    → (k : ℕ) → Stored (set slots k x)
stored_set x f [] end k = end
stored_set x f (e ∷ slots) (vacant st) zero = f slots st
stored_set x f (e ∷ slots) (vacant st) (suc k) = vacant (stored_set x f slots st k)
stored_set x f (e ∷ slots) (used h w st) zero = f slots st
stored_set x f (e ∷ slots) (used h w st) (suc k) = used h w (stored_set x f slots st k)

-- ---- the identities

-- where the entry keeps that of its slot
pub identities_kept : (x : Entry) (slots : List Entry) (k : ℕ) → is_empty (get_or slots k empty) ≡ false
    → is_empty x ≡ false → x.identity.bytes ≡ (get_or slots k empty).identity.bytes
    → identities (set slots k x) ≡ identities slots
identities_kept x [] k e f i = refl
identities_kept x (y ∷ slots) zero e f i =
    identities_full x slots f ∙ ap (λ (n : Text). n ∷ identities slots) i ∙ sym (identities_full y slots e)
identities_kept x (y ∷ slots) (suc k) e f i =
    ap (λ (l : List Text). cond (is_empty y) l (y.identity.bytes ∷ l)) (identities_kept x slots k e f i)

pub same_sym : (v w : Text) → same v w ≡ false → same w v ≡ false
same_sym v w h = differs_same w v (λ e. same_differs v w h (sym e))

or_so : (a b : Bool) → (a ≡ false → b ≡ true) → a || b ≡ true
or_so true b f = refl
or_so false b f = f refl

differs_cons : (n : Text) (e : Entry) (slots : List Entry) → differs n (identities (e ∷ slots))
    ≡ (is_empty e || not (same e.identity.bytes n)) && differs n (identities slots)
differs_cons n e slots = go (is_empty e)
  where
    l : List Text
    l = identities slots

    go : (b : Bool) → differs n (cond b l (e.identity.bytes ∷ l))
        ≡ (b || not (same e.identity.bytes n)) && differs n l
    go true = refl
    go false = refl

apart_cons : (e : Entry) (slots : List Entry) → apart (identities (e ∷ slots))
    ≡ (is_empty e || differs e.identity.bytes (identities slots)) && apart (identities slots)
apart_cons e slots = go (is_empty e)
  where
    l : List Text
    l = identities slots

    go : (b : Bool) → apart (cond b l (e.identity.bytes ∷ l)) ≡ (b || differs e.identity.bytes l) && apart l
    go true = refl
    go false = refl

module _ (n : Text) (e : Entry) (slots : List Entry) (h : differs n (identities (e ∷ slots)) ≡ true) where
  differs_both : ((is_empty e || not (same e.identity.bytes n)) ≡ true) × (differs n (identities slots) ≡ true)
  differs_both =
      both (is_empty e || not (same e.identity.bytes n)) (differs n (identities slots))
      (sym (differs_cons n e slots) ∙ h)

module _ (x : Entry) where
  pub differs_set : (n : Text) (slots : List Entry) (k : ℕ) → differs n (identities slots) ≡ true
      → (is_empty x ≡ false → same x.identity.bytes n ≡ false) → differs n (identities (set slots k x)) ≡ true
  differs_set n [] k d f = refl
  differs_set n (e ∷ slots) zero d f =
      let o : (is_empty x || not (same x.identity.bytes n)) ≡ true =
      or_so (is_empty x) (not (same x.identity.bytes n)) (λ z. ap not (f z)) in
      differs_cons n x slots ∙ rw o (differs_both n e slots d).1
  differs_set n (e ∷ slots) (suc k) d f =
      let b = differs_both n e slots d in
      differs_cons n e (set slots k x) ∙ rw b.0 (differs_set n slots k b.1 f)

  pub apart_set : (slots : List Entry) (k : ℕ) → apart (identities slots) ≡ true
      → (is_empty x ≡ false → differs x.identity.bytes (identities slots) ≡ true)
      → apart (identities (set slots k x)) ≡ true
  apart_set [] k d f = refl
  apart_set (e ∷ slots) zero d f =
      let b = both (is_empty e || differs e.identity.bytes (identities slots)) (apart (identities slots))
      (sym (apart_cons e slots) ∙ d) in
      let o : (is_empty x || differs x.identity.bytes (identities slots)) ≡ true =
      or_so (is_empty x) (differs x.identity.bytes (identities slots))
      (λ z. (differs_both x.identity.bytes e slots (f z)).1) in
      apart_cons x slots ∙ rw o b.1
  apart_set (e ∷ slots) (suc k) d f =
      let i = e.identity.bytes in
      let j = x.identity.bytes in
      let b = both (is_empty e || differs i (identities slots)) (apart (identities slots)) (sym (apart_cons e slots) ∙ d) in
      let o : (is_empty e || differs i (identities (set slots k x))) ≡ true =
      or_so (is_empty e) (differs i (identities (set slots k x)))
      (λ z. differs_set i slots k (legal_or (is_empty e) (differs i (identities slots)) z b.0)
      (λ y. same_sym i j (not-true (same i j) (legal_or (is_empty e) (not (same i j)) z (differs_both j e slots (f y)).0)))) in
      apart_cons e (set slots k x) ∙ rw o (apart_set slots k b.1 (λ y. (differs_both j e slots (f y)).1))
