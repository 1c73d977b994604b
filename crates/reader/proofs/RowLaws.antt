-- A row from a place: what the whole of it reads, field by field.
use Rattle.std.specs.Prelude.{Option, None, Some, option_map}
use mathlib.Core.Path.{◌≡◌, refl, sym, ap, ◌∙◌}
use mathlib.Core.Bool.{Bool, true, false, cond, ◌&&◌}
use mathlib.Core.List.{[], ◌∷◌, ◌++◌, append_assoc}
use Prim.Native.Nat.{ℕ}
use lib.Dec.{eqb}
use lib.ListN.{drop}
use Rattle.octets.specs.Text.{Text, ascii, blank, same}
use Rattle.csm.specs.Format.{Format, bind, just, as_form, such_that, at_end, whole}
use Rattle.csm.specs.Fields.{Field, Contents, contents, tag, field}
use Rattle.csm.specs.Fields.{MCL, RCV, ORG, SVR, NOS, KD, IV, EDK, CTP, CTR, ERF, MAC, EDC}
use Rattle.csm.specs.Message.{Row, one, opt, Values, closed}
use Rattle.csm.proofs.FieldLaws.{field_lawful}
use Rattle.fields.specs.Seen.{taken, inner}
use Rattle.fields.proofs.PieceLaws.{Stands, stands}
use Rattle.reader.specs.Seen.{next_at, shown_at, ShownRow, shown_row}
use Rattle.reader.specs.Stages.{taken_at, seen_at}

-- ---- the whole of a text, of formats put together

-- at the end of what is read
pub ends : {B X : Type 0} (f : B → X) (o : Option (B × Text))
    → bind (bind o (λ q. Some (f q.0, q.1))) at_end ≡ option_map f (bind o at_end)
ends f None = refl
ends f (Some (b, [])) = refl
ends f (Some (b, x ∷ t)) = refl

module _ {A B : Type 0} where
  pub form_whole : (f : A → B) (g : B → A) (c : Format A) (s : Text)
      → whole (as_form f g c) s ≡ option_map f (whole c s)
  form_whole f g c s = ends f (c.read s)

-- a test on what is read
abbrev pub passing : {A : Type 0} → (A → Bool) → Option A → Option A
passing p o = bind o (λ a. cond (p a) (Some a) None)

pub such_whole : {A : Type 0} (p : A → Bool) (c : Format A) (s : Text)
    → whole (such_that p c) s ≡ passing p (whole c s)
such_whole {A} p c s = go (c.read s)
  where
    test : (a : A) (t : Text) (b : Bool)
        → bind (cond b (Some (a, t)) None) at_end ≡ bind (at_end (a, t)) (λ a. cond b (Some a) None)
    test a [] true = refl
    test a [] false = refl
    test a (x ∷ t) true = refl
    test a (x ∷ t) false = refl

    last : (a : A) (t : Text) → bind (at_end (a, t)) (λ z. cond (p a) (Some z) None) ≡ passing p (at_end (a, t))
    last a [] = refl
    last a (x ∷ t) = refl

    go : (o : Option (A × Text))
        → bind (bind o (λ q. cond (p q.0) (Some q) None)) at_end ≡ passing p (bind o at_end)
    go None = refl
    go (Some (a, t)) = test a t (p a) ∙ last a t

-- ---- the end

abbrev pub done : Bool → Option (Unit {0})
done b = cond b (Some tt) None

abbrev pub shut : Option Text → Option (Unit {0})
shut o = bind (bind o (λ t. Some (tt, t))) at_end

pub end_step : (u : Text) (b : Bool) → same u (ascii ")") ≡ b → whole (just (ascii ")")) u ≡ done b
end_step [] b e = ap done e
end_step (x ∷ []) b e = first (eqb x 41) ∙ ap done e
  where
    first : (b : Bool) → shut (cond (b && true) (Some []) None) ≡ done (b && true)
    first true = refl
    first false = refl
end_step (x ∷ y ∷ t) b e = more (eqb x 41) ∙ ap done e
  where
    more : (b : Bool) → shut (cond (b && true) (Some (y ∷ t)) None) ≡ done (b && false)
    more true = refl
    more false = refl

-- ---- a row, of which the code asks field by field

-- contents and the blank after them
pub contents_inner : (f : Field) (a : Contents f) → (contents f).print a ≡ inner f a ++ blank ∷ []
contents_inner MCL a = refl
contents_inner RCV a = refl
contents_inner ORG a = refl
contents_inner SVR a = refl
contents_inner NOS a = refl
contents_inner KD a = refl
contents_inner IV a = refl
contents_inner EDK a = refl
contents_inner CTP a = refl
contents_inner CTR a = refl
contents_inner ERF a = refl
contents_inner MAC a = refl
contents_inner EDC a = refl

-- a field at the front of what stands at a place: its contents, and what follows it
pub field_stands : (f : Field) (s : Text) (at : ℕ) (a : Contents f) (t : Text) → drop at s ≡ (field f).print a ++ t
    → Stands (tag f) s at (inner f a) t
field_stands f s at a t e =
    stands (tag f) s at (inner f a) t
    (e ∙ ap (λ (c : Text). (tag f ++ c) ++ t) (contents_inner f a) ∙ grouped (tag f) (inner f a) t)
  where
    grouped : (g w t : Text) → (g ++ (w ++ blank ∷ [])) ++ t ≡ g ++ (w ++ blank ∷ t)
    grouped g w t = simp append_assoc

-- a value that has to be there, before others
abbrev pub need : {A B : Type 0} → Option A → Option B → Option (A × B)
need None o = None
need (Some a) o = option_map (λ b. (a, b)) o

-- what is read of a row at a place, each field where the one before it ends
abbrev pub gather : (rs : Row) → Text → ℕ → Option (Values rs)
gather [] s at = done (same (drop at s) (ascii ")"))
gather (one f ∷ rs) s at = need (taken_at f s at) (gather rs s (next_at f at (taken_at f s at)))
gather (opt f ∷ rs) s at = option_map (λ b. (taken_at f s at, b)) (gather rs s (next_at f at (taken_at f s at)))

-- a field that was read, and what follows it by its place
pub next_read : (f : Field) (s : Text) (at : ℕ) (a : Contents f) (t : Text) → (field f).read (drop at s) ≡ Some (a, t)
    → (field f).read (drop at s) ≡ Some (a, drop (next_at f at (Some a)) s)
next_read f s at a t e =
    e ∙ ap (λ (u : Text). Some (a, u)) (sym (field_stands f s at a t ((field_lawful f).back (drop at s) a t e).1).rest)

pub row_walk : (rs : Row) (s : Text) (at : ℕ) → whole (closed rs) (drop at s) ≡ gather rs s at
row_walk [] s at = end_step (drop at s) (same (drop at s) (ascii ")")) refl
row_walk (one f ∷ rs) s at = go (row_walk rs s) ((field f).read (drop at s)) refl
  where
    go : ((n : ℕ) → whole (closed rs) (drop n s) ≡ gather rs s n) → (o : Option (Contents f × Text))
        → (field f).read (drop at s) ≡ o
        → whole (closed (one f ∷ rs)) (drop at s) ≡ need (taken o) (gather rs s (next_at f at (taken o)))
    go on None e = rw e
    go on (Some (a, t)) e =
        let n = next_at f at (Some a) in
        rw (next_read f s at a t e)
        (ends (λ (b : Values rs). (a, b)) ((closed rs).read (drop n s)) ∙ ap (option_map (λ b. (a, b))) (on n))
row_walk (opt f ∷ rs) s at = go (row_walk rs s) ((field f).read (drop at s)) refl
  where
    go : ((n : ℕ) → whole (closed rs) (drop n s) ≡ gather rs s n) → (o : Option (Contents f × Text))
        → (field f).read (drop at s) ≡ o
        → whole (closed (opt f ∷ rs)) (drop at s)
        ≡ option_map (λ b. (taken o, b)) (gather rs s (next_at f at (taken o)))
    go on None e =
        rw e (ends (λ (b : Values rs). (None, b)) ((closed rs).read (drop at s)) ∙ ap (option_map (λ b. (None, b))) (on at))
    go on (Some (a, t)) e =
        let n = next_at f at (Some a) in
        rw (next_read f s at a t e)
        (ends (λ (b : Values rs). (Some a, b)) ((closed rs).read (drop n s)) ∙ ap (option_map (λ b. (Some a, b))) (on n))

-- ---- the same row as it is shown

abbrev pub shown_gather : (rs : Row) → Text → ℕ → Option (ShownRow rs)
shown_gather [] s at = done (same (drop at s) (ascii ")"))
shown_gather (one f ∷ rs) s at = need (seen_at f s at).contents (shown_gather rs s (seen_at f s at).next)
shown_gather (opt f ∷ rs) s at = option_map (λ b. ((seen_at f s at).contents, b)) (shown_gather rs s (seen_at f s at).next)

map_map : {A B C : Type 0} (f : A → B) (g : B → C) (o : Option A) → option_map g (option_map f o) ≡ option_map (λ a. g (f a)) o
map_map f g None = refl
map_map f g (Some a) = refl

row_shown : (rs : Row) (s : Text) (at : ℕ) → option_map (shown_row rs at) (gather rs s at) ≡ shown_gather rs s at
row_shown [] s at = go (same (drop at s) (ascii ")"))
  where
    go : (b : Bool) → option_map (shown_row [] at) (done b) ≡ done b
    go true = refl
    go false = refl
row_shown (one f ∷ rs) s at = go (taken_at f s at) (row_shown rs s)
  where
    go : (o : Option (Contents f)) → ((n : ℕ) → option_map (shown_row rs n) (gather rs s n) ≡ shown_gather rs s n)
        → option_map (shown_row (one f ∷ rs) at) (need o (gather rs s (next_at f at o)))
        ≡ need (option_map (shown_at f at) o) (shown_gather rs s (next_at f at o))
    go None on = refl
    go (Some a) on =
        let n = next_at f at (Some a) in
        map_map (λ (b : Values rs). (a, b)) (shown_row (one f ∷ rs) at) (gather rs s n)
        ∙ sym (map_map (shown_row rs n) (λ (b : ShownRow rs). (shown_at f at a, b)) (gather rs s n))
        ∙ ap (option_map (λ (b : ShownRow rs). (shown_at f at a, b))) (on n)
row_shown (opt f ∷ rs) s at =
    let o = taken_at f s at in
    let n = next_at f at o in
    let p = option_map (shown_at f at) o in
    map_map (λ (b : Values rs). (o, b)) (shown_row (opt f ∷ rs) at) (gather rs s n)
    ∙ sym (map_map (shown_row rs n) (λ (b : ShownRow rs). (p, b)) (gather rs s n))
    ∙ ap (option_map (λ (b : ShownRow rs). (p, b))) (row_shown rs s n)

-- what the whole of a row is shown as, in a class's own record
pub row_seen : {M : Type 0} (rs : Row) (s : Text) (at : ℕ) (f : ShownRow rs → M)
    → option_map (λ v. f (shown_row rs at v)) (whole (closed rs) (drop at s)) ≡ option_map f (shown_gather rs s at)
row_seen rs s at f =
    ap (option_map (λ v. f (shown_row rs at v))) (row_walk rs s at) ∙ sym (map_map (shown_row rs at) f (gather rs s at))
    ∙ ap (option_map f) (row_shown rs s at)

pub form_seen : {A B M : Type 0} (f : A → B) (g : B → A) (c : Format A) (s : Text) (m : B → M)
    → option_map m (whole (as_form f g c) s) ≡ option_map (λ a. m (f a)) (whole c s)
form_seen f g c s m = ap (option_map m) (form_whole f g c s) ∙ map_map f m (whole c s)
