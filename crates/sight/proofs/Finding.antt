-- The first slot that is sought is the one that the table has: the partner's, or the lowest that is free.
use Rattle.std.proofs.Common.{◌≡◌, refl, ap, ◌∙◌, Bool, true, false, cond, List, [], ◌∷◌}
use Rattle.std.specs.Prelude.{None, Some}
use Rattle.std.specs.List.{find as first}
use Rattle.octets.specs.Text.{Text, same, is_name}
use Rattle.partner.specs.declared.Entry.{Entry}
use Rattle.partner.specs.Entry.{filled}
use Rattle.partner.specs.Table.{is_empty, find, put, into_free_slot, behind}
use Rattle.sight.specs.declared.aims.Aim.{Aim}
use Rattle.sight.specs.Aim.{identity}
use Rattle.sight.specs.Sight.{is_of, is_theirs, is_sought}
use Rattle.sight.proofs.Rows.{putting, index}

-- ---- by a test that says the same

pub first_same : (f g : Entry → Bool) (l : List Entry) → ((e : Entry) → f e ≡ g e) → first f l ≡ first g l
first_same f g [] h = refl
first_same f g (e ∷ l) h = rw (h e, first_same f g l h)

pub putting_same : (f g : Entry → Bool) (x : Entry) (l : List Entry) → ((e : Entry) → f e ≡ g e) → putting f x l ≡ putting g x l
putting_same f g x [] h = refl
putting_same f g x (e ∷ l) h = rw (h e, putting_same f g x l h)

index_same : (f g : Entry → Bool) (l : List Entry) → ((e : Entry) → f e ≡ g e) → index f l ≡ index g l
index_same f g [] h = refl
index_same f g (e ∷ l) h = rw (h e, index_same f g l h)

-- ---- the partner's slot

pub first_none : (l : List Entry) → first (λ (e : Entry). false) l ≡ None
first_none [] = refl
first_none (e ∷ l) = first_none l

pub first_find : (id : Text) (l : List Entry) → first (λ (e : Entry). same e.identity.bytes id) l ≡ find id l
first_find id [] = refl
first_find id (e ∷ l) = ap (cond (same e.identity.bytes id) (Some e)) (first_find id l)

pub putting_put : (id : Text) (x : Entry) (l : List Entry) → putting (λ (e : Entry). same e.identity.bytes id) x l ≡ put id x l
putting_put id x [] = refl
putting_put id x (e ∷ l) = ap (λ (m : List Entry). cond (same e.identity.bytes id) (x ∷ l) (e ∷ m)) (putting_put id x l)

-- a slot is of an identity, and none is where that is no name
pub is_of_name : (id : Text) (e : Entry) → is_name id ≡ true → is_of (identity id) e ≡ same e.identity.bytes (filled id)
is_of_name id e h = rw h

pub is_of_none : (id : Text) (e : Entry) → is_name id ≡ false → is_of (identity id) e ≡ false
is_of_none id e h = rw h

module _ (a : Aim) (id : Text) (v : a.vacant ≡ false) (p : a.partner ≡ identity id) where
  sought_by : (e : Entry) → is_sought a e ≡ is_of (identity id) e
  unfolding is_sought is_theirs
  sought_by e = rw (v, p)

  module _ (slots : List Entry) where
    pub first_named : is_name id ≡ true → first (is_sought a) slots ≡ find (filled id) slots
    first_named h = first_same _ _ slots (λ e. sought_by e ∙ is_of_name id e h) ∙ first_find (filled id) slots

    pub first_unnamed : is_name id ≡ false → first (is_sought a) slots ≡ None
    first_unnamed h = first_same _ _ slots (λ e. sought_by e ∙ is_of_none id e h) ∙ first_none slots

    pub index_named : is_name id ≡ true → index (is_sought a) slots ≡ index (λ (e : Entry). same e.identity.bytes (filled id)) slots
    index_named h = index_same _ _ slots (λ e. sought_by e ∙ is_of_name id e h)

    pub putting_named : is_name id ≡ true → (x : Entry) → putting (is_sought a) x slots ≡ put (filled id) x slots
    putting_named h x = putting_same _ _ x slots (λ e. sought_by e ∙ is_of_name id e h) ∙ putting_put (filled id) x slots

-- ---- the lowest free slot

pub none_free : (x : Entry) (l : List Entry) → first is_empty l ≡ None → into_free_slot x l ≡ None
none_free x [] h = refl
none_free x (e ∷ l) h = go (is_empty e) h (none_free x l)
  where
    go : (b : Bool) → cond b (Some e) (first is_empty l) ≡ None → (first is_empty l ≡ None → into_free_slot x l ≡ None)
        → cond b (Some (x ∷ l)) (behind e (into_free_slot x l)) ≡ None
    go true h ih = cc
    go false h ih = ap (behind e) (ih h)

pub one_free : (x : Entry) (l : List Entry) (f : Entry) → first is_empty l ≡ Some f → into_free_slot x l ≡ Some (putting is_empty x l)
one_free x [] f h = cc
one_free x (e ∷ l) f h = go (is_empty e) h (one_free x l f)
  where
    go : (b : Bool) → cond b (Some e) (first is_empty l) ≡ Some f → (first is_empty l ≡ Some f → into_free_slot x l ≡ Some (putting is_empty x l))
        → cond b (Some (x ∷ l)) (behind e (into_free_slot x l)) ≡ Some (cond b (x ∷ l) (e ∷ putting is_empty x l))
    go true h ih = refl
    go false h ih = ap (behind e) (ih h)
