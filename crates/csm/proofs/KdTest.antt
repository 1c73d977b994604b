-- For programs: KD's contents are read by a test of the pieces between its dots.
use Rattle.std.specs.Prelude.{Option, None, Some}
use mathlib.Core.Path.{◌≡◌, refl, sym, ap, ◌∙◌}
use mathlib.Core.Bool.{Bool, true, false, cond, ◌&&◌, ◌||◌, true≢false}
use mathlib.Core.List.{List, [], ◌∷◌, ◌++◌, append-nil}
use Prim.Native.Nat.{ℕ}
use lib.Dec.{eqb}
use borrow.Author.Tests.{eqb-true}
use Rattle.octets.specs.Text.{Text, ascii, dot, same, is_run, is_name}
use Rattle.octets.proofs.Comparing.{both as and_true, same_equal as same_true}
use Rattle.csm.specs.Format.{value}
use Rattle.csm.specs.Fields.{numeral, hex_text, hex, Kd, mark, named, legal_name, onto}
use Rattle.csm.specs.Fields.{split, nonempty, kd_guess, kd}
use Rattle.csm.proofs.FieldLaws.{behind, split_kd, hex_dotless}
use Rattle.csm.proofs.WordTests.{value_test, hex_forth, hex_passes}

abbrev pub is_mark : Text → Bool
is_mark m = same m [] || same m (ascii "P")

abbrev pub is_maybe_name : Text → Bool
is_maybe_name w = same w [] || is_name w

abbrev pub is_subs : List Text → Bool
is_subs [] = true
is_subs (m ∷ []) = same m (ascii "P")
is_subs (m ∷ v ∷ []) = is_mark m && is_name v
is_subs (m ∷ v ∷ w ∷ []) = is_mark m && (is_maybe_name v && is_name w)
is_subs (m ∷ v ∷ w ∷ x ∷ l) = false

abbrev pub is_kd : List Text → Bool
is_kd [] = false
is_kd (k ∷ l) = is_run 70 16 16 k && is_subs l

-- ---- a text is its pieces, joined by dots

abbrev pub join : List Text → Text
join [] = []
join (p ∷ []) = p
join (p ∷ q ∷ ps) = p ++ (dot ∷ join (q ∷ ps))

join_onto : (x : ℕ) (l : List Text) → join (onto x l) ≡ x ∷ join l
join_onto x [] = refl
join_onto x (p ∷ []) = refl
join_onto x (p ∷ q ∷ ps) = refl

abbrev pub Pieced : List Text → Type 0
Pieced l = (p : Text) × (ps : List Text) × (l ≡ p ∷ ps)

onto_pieced : (x : ℕ) (l : List Text) → Pieced (onto x l)
onto_pieced x [] = (x ∷ [], [], refl)
onto_pieced x (p ∷ ps) = (x ∷ p, ps, refl)

pub split_pieced : (w : Text) → Pieced (split w)
split_pieced [] = ([], [], refl)
split_pieced (x ∷ w) = go (eqb x dot)
  where
    go : (b : Bool) → Pieced (cond b ([] ∷ split w) (onto x (split w)))
    go true = ([], split w, refl)
    go false = onto_pieced x (split w)

join_dot : (l : List Text) → Pieced l → join ([] ∷ l) ≡ dot ∷ join l
join_dot [] h = let e = h.2 in cc
join_dot (p ∷ ps) h = refl

pub join_split : (w : Text) → join (split w) ≡ w
join_split [] = refl
join_split (x ∷ w) = go (eqb x dot) refl (join_split w)
  where
    go : (b : Bool) → eqb x dot ≡ b → join (split w) ≡ w
        → join (cond b ([] ∷ split w) (onto x (split w))) ≡ x ∷ w
    go true q r =
        join_dot (split w) (split_pieced w) ∙ ap (λ (l : Text). dot ∷ l) r
        ∙ ap (λ (y : ℕ). y ∷ w) (sym (eqb-true x dot q))
    go false q r = join_onto x (split w) ∙ ap (λ (l : Text). x ∷ l) r

-- ---- what passes the test is the text of what is guessed

mark_back : (m : Text) → is_mark m ≡ true → mark (same m (ascii "P")) ≡ m
mark_back m k = go (same m []) refl (same m (ascii "P")) refl k
  where
    go : (a : Bool) → same m [] ≡ a → (b : Bool) → same m (ascii "P") ≡ b → a || b ≡ true → mark b ≡ m
    go a q true r k = sym (same_true m (ascii "P") r)
    go true q false r k = sym (same_true m [] q)
    go false q false r k = cc

name_back : (w : Text) → is_maybe_name w ≡ true → (legal_name (nonempty w) ≡ true) × (named (nonempty w) ≡ w)
name_back [] k = (refl, refl)
name_back (x ∷ w) k = (k, refl)

whole_name : (w : Text) → is_name w ≡ true → (legal_name (nonempty w) ≡ true) × (nonempty w ≡ Some w)
whole_name [] k = (cc, cc)
whole_name (x ∷ w) k = (k, refl)

abbrev pub Legal : Kd → Type 0
Legal r = kd.legal r ≡ true

pub kd_forth : (l : List Text) → is_kd l ≡ true → Legal (kd_guess l) × (kd.text (kd_guess l) ≡ join l)
kd_forth [] e = absurd (true≢false (sym e))
kd_forth (k ∷ []) e =
    let h = hex_forth 16 k (and_true (is_run 70 16 16 k) true e).0 in
    (rw h.0, append-nil (hex_text 16 (numeral 16 0 k)) ∙ h.1)
kd_forth (k ∷ m ∷ []) e =
    let a = and_true (is_run 70 16 16 k) (same m (ascii "P")) e in
    let h = hex_forth 16 k a.0 in
    let i : m ≡ ascii "P" = same_true m (ascii "P") a.1 in
    (rw h.0, rw a.1 (λ j. h.1 j ++ (dot ∷ sym i j)))
kd_forth (k ∷ m ∷ v ∷ []) e =
    let a = and_true (is_run 70 16 16 k) (is_mark m && is_name v) e in
    let b = and_true (is_mark m) (is_name v) a.1 in
    let h = hex_forth 16 k a.0 in
    let i = mark_back m b.0 in
    let j = whole_name v b.1 in
    (rw (h.0, j.0), rw j.1 (λ x. h.1 x ++ ((dot ∷ i x) ++ (dot ∷ v))))
kd_forth (k ∷ m ∷ v ∷ w ∷ []) e =
    let a = and_true (is_run 70 16 16 k) (is_mark m && (is_maybe_name v && is_name w)) e in
    let b = and_true (is_mark m) (is_maybe_name v && is_name w) a.1 in
    let c = and_true (is_maybe_name v) (is_name w) b.1 in
    let h = hex_forth 16 k a.0 in
    let i = mark_back m b.0 in
    let j = name_back v c.0 in
    let n = whole_name w c.1 in
    (rw (h.0, j.0, n.0), rw n.1 (λ x. h.1 x ++ ((dot ∷ i x) ++ ((dot ∷ j.1 x) ++ (dot ∷ w)))))
kd_forth (k ∷ m ∷ v ∷ w ∷ x ∷ l) e = absurd (true≢false (sym (and_true (is_run 70 16 16 k) false e).1))

-- ---- what a legal value prints passes the test

mark_passes : (p : Bool) → is_mark (mark p) ≡ true
mark_passes true = refl
mark_passes false = refl

name_passes : (o : Option Text) → legal_name o ≡ true → is_maybe_name (named o) ≡ true
name_passes None k = refl
name_passes (Some []) k = refl
name_passes (Some (x ∷ w)) k = k

subs_pass : (p : Bool) (i j : Option Text) → legal_name i ≡ true → legal_name j ≡ true
    → is_subs (behind p i j) ≡ true
subs_pass p i (Some w) a b = rw (mark_passes p, name_passes i a) b
subs_pass p (Some v) None a b = rw (mark_passes p) a
subs_pass true None None a b = refl
subs_pass false None None a b = refl

pub kd_passes : (r : Kd) → Legal r → is_kd (split (kd.text r)) ≡ true
kd_passes r e =
    let h = and_true ((hex 16).legal r.key) (legal_name r.idk1 && legal_name r.idk2) e in
    let i = and_true (legal_name r.idk1) (legal_name r.idk2) h.1 in
    let s = subs_pass r.p r.idk1 r.idk2 i.0 i.1 in
    ap is_kd (split_kd (hex_text 16 r.key) (hex_dotless 16 r.key) r.p r.idk1 r.idk2 i.0 i.1)
    ∙ (λ x. hex_passes 16 r.key x && s x)

pub kd_value : (w : Text) → value kd w ≡ cond (is_kd (split w)) (Some (kd_guess (split w))) None
kd_value = value_test kd (λ w. is_kd (split w))
    (λ w e. let h = kd_forth (split w) e in (h.0, h.1 ∙ join_split w)) kd_passes
