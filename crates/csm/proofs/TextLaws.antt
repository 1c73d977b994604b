-- Laws of texts: tests on every byte, fronts of texts, and answers that may be none.
use Rattle.std.specs.Prelude.{Option, None, Some}
use mathlib.Core.Path.{◌≡◌, refl, sym, ap, ◌∙◌, subst}
use mathlib.Core.Bool.{Bool, true, false, cond, not, ◌&&◌, ◌||◌}
use mathlib.Core.Logic.{⊎_elim}
use mathlib.Core.List.{[], ◌∷◌, ◌++◌}
use Prim.Native.Nat.{ℕ, zero, suc, ◌≤◌, ◌<◌}
use native.Mathlib.Nat.{eq-or-lt_of_le, le_of_suc-le-suc, not-suc-le-zero}
use native.Mathlib.Omega.{arith}
use lib.Dec.{eqb, leb}
use lib.ListN.{length, get_or, take, drop}
use lib.Seq.{split_at, drop_at}
use borrow.Author.Tests.{eq-eqb, eqb-true, leb-true, le-leb, not-true}
use Rattle.octets.specs.Text.{Text, all, free, starts, within, run_char}
use Rattle.octets.proofs.Comparing.{both as and_true, starts_append as starts_there, starts_split as starts_back}
use Rattle.octets.proofs.Comparing.{all_append as all_of_both}
use Rattle.csm.specs.Format.{bind, after, until}

-- ---- an answer or none

module _ {A : Type 0} where
  pub some_inj : {a b : A} → Some a ≡ Some b → a ≡ b
  some_inj e = cc

  pub none_some : (a : A) → None ≡ Some a → ⊥
  none_some a e = let z : ◌≡◌ {A = ℕ} 0 1 = cc in omega arith

  pub cond_some : (b : Bool) (o : Option A) (a : A) → cond b o None ≡ Some a → (b ≡ true) × (o ≡ Some a)
  cond_some true o a e = (refl, e)
  cond_some false o a e = (cc, cc)

module _ {A B : Type 0} where
  pub bind_some : (o : Option A) (f : A → Option B) (b : B) → bind o f ≡ Some b
      → (a : A) × (o ≡ Some a) × (f a ≡ Some b)
  bind_some None f b e = absurd (none_some _ e)
  bind_some (Some a) f b e = (a, refl, e)

-- ---- tests

pub or_right : (a b : Bool) → b ≡ true → a || b ≡ true
or_right true b e = refl
or_right false b e = e

-- a number between two others
pub within_true : (low high x : ℕ) → within low high x ≡ true → (low ≤ x) × (x ≤ high)
within_true low high x e =
    let h = and_true (leb low x) (leb x high) e in
    (leb-true low x h.0, leb-true x high h.1)

pub true_within : (low high x : ℕ) → low ≤ x → x ≤ high → within low high x ≡ true
true_within low high x a b = rw (le-leb low x a, le-leb x high b)

-- a byte of a run, which another run may have too
pub run_wider : (top more : ℕ) → top ≤ more → (x : ℕ) → run_char top x ≡ true → run_char more x ≡ true
run_wider top more l x k = go (within 48 57 x) refl k
  where
    go : (b : Bool) → within 48 57 x ≡ b → b || within 65 top x ≡ true → run_char more x ≡ true
    go true q k = rw q
    go false q k =
        let h = within_true 65 top x k in
        or_right (within 48 57 x) (within 65 more x) (true_within 65 more x (omega arith) (omega arith))

-- ---- a test on each number below n, computed once

abbrev pub below : ℕ → (ℕ → Bool) → Bool
below zero f = true
below (suc n) f = f n && below n f

pub below_at : (n : ℕ) (f : ℕ → Bool) → below n f ≡ true → (i : ℕ) → i < n → f i ≡ true
below_at zero f e i h = absurd (not-suc-le-zero h)
below_at (suc n) f e i h =
    let k = and_true (f n) (below n f) e in
    ⊎_elim (λ q. subst (λ (j : ℕ). f j ≡ true) (sym q) k.0) (λ l. below_at n f k.1 i l)
    (eq-or-lt_of_le (le_of_suc-le-suc h))

-- ---- a test that every byte passes

pub all_append : (p : ℕ → Bool) (u v : Text) → all p u ≡ true → all p v ≡ true → all p (u ++ v) ≡ true
all_append p u v a b = rw (all_of_both p u v, a) b

pub all_both : (p : ℕ → Bool) (u v : Text) → all p (u ++ v) ≡ true → (all p u ≡ true) × (all p v ≡ true)
all_both p u v k = and_true (all p u) (all p v) (sym (all_of_both p u v) ∙ k)

-- a weaker test
pub all_weaker : (p q : ℕ → Bool) → ((x : ℕ) → p x ≡ true → q x ≡ true)
    → (w : Text) → all p w ≡ true → all q w ≡ true
all_weaker p q f [] k = refl
all_weaker p q f (x ∷ w) k =
    let h = and_true (p x) (all p w) k in
    rw (f x h.0) (all_weaker p q f w h.1)

-- a byte that fails the test does not stand there
pub all_free : (p : ℕ → Bool) (x : ℕ) → p x ≡ false → (w : Text) → all p w ≡ true → free x w ≡ true
all_free p x z = all_weaker p (λ y. not (eqb y x)) (λ y k. ap not (go y (eqb y x) refl k))
  where
    go : (y : ℕ) (b : Bool) → eqb y x ≡ b → p y ≡ true → b ≡ false
    go y true q e = let i : p y ≡ p x = ap p (eqb-true y x q) in cc
    go y false q e = refl

-- ---- the front of a text

pub after_there : (w t : Text) → after w (w ++ t) ≡ Some t
after_there w t = rw (starts_there w t, drop_at w t (length w) refl)

pub after_back : (w s t : Text) → after w s ≡ Some t → s ≡ w ++ t
after_back w s t e =
    let h = cond_some (starts w s) (Some (drop (length w) s)) t e in
    starts_back w s h.0 ∙ ap (λ (u : Text). w ++ u) (some_inj h.1)

-- ---- a text up to the first x

pub until_there : (x : ℕ) (w t : Text) → free x w ≡ true → until x (w ++ x ∷ t) ≡ Some (w, t)
until_there x [] t k = rw (eq-eqb x x refl)
until_there x (y ∷ w) t k =
    let h = and_true (not (eqb y x)) (free x w) k in
    rw (not-true (eqb y x) h.0, until_there x w t h.1)

abbrev pub UntilBack : ℕ → Text → Text × Text → Type 0
UntilBack x s o = s ≡ o.0 ++ x ∷ o.1

pub until_back : (x : ℕ) (s : Text) (o : Text × Text) → until x s ≡ Some o → UntilBack x s o
until_back x [] o e = absurd (none_some _ e)
until_back x (y ∷ s) o e = go (eqb y x) refl e (until_back x s)
  where
    go : (b : Bool) → eqb y x ≡ b
        → cond b (Some ([], s)) (bind (until x s) (λ p. Some (y ∷ p.0, p.1))) ≡ Some o
        → ((o : Text × Text) → until x s ≡ Some o → UntilBack x s o) → UntilBack x (y ∷ s) o
    go true q e r = subst (UntilBack x (y ∷ s)) (some_inj e) (ap (λ (z : ℕ). z ∷ s) (eqb-true y x q))
    go false q e r =
        let h = bind_some (until x s) (λ p. Some (y ∷ p.0, p.1)) o e in
        subst (UntilBack x (y ∷ s)) (some_inj h.2) (ap (λ (l : Text). y ∷ l) (r h.0 h.1))

-- for programs, that count: the first x stands at place n; or there is none
pub until_at : (x : ℕ) (s : Text) (n : ℕ) → n < length s → free x (take n s) ≡ true → get_or s n 0 ≡ x
    → until x s ≡ Some (take n s, drop (suc n) s)
until_at x s n h k e =
    let cut : s ≡ take n s ++ x ∷ drop (suc n) s =
    split_at s n 0 h ∙ ap (λ (y : ℕ). take n s ++ y ∷ drop (suc n) s) e in
    ap (until x) cut ∙ until_there x (take n s) (drop (suc n) s) k

pub until_none : (x : ℕ) (s : Text) → free x s ≡ true → until x s ≡ None
until_none x [] k = refl
until_none x (y ∷ s) k =
    let h = and_true (not (eqb y x)) (free x s) k in
    rw (not-true (eqb y x) h.0, until_none x s h.1)

-- ---- two texts that differ where both have a byte

abbrev pub clash : Text → Text → Bool
clash [] s = false
clash (c ∷ w) [] = false
clash (c ∷ w) (x ∷ s) = cond (eqb x c) (clash w s) true

pub clash_starts : (w v t : Text) → clash w v ≡ true → starts w (v ++ t) ≡ false
clash_starts [] v t k = cc
clash_starts (c ∷ w) [] t k = cc
clash_starts (c ∷ w) (x ∷ v) t k = go (eqb x c) k (clash_starts w v t)
  where
    go : (b : Bool) → cond b (clash w v) true ≡ true → (clash w v ≡ true → starts w (v ++ t) ≡ false)
        → b && starts w (v ++ t) ≡ false
    go true k r = r k
    go false k r = refl

pub clash_none : (w v t : Text) → clash w v ≡ true → after w (v ++ t) ≡ None
clash_none w v t k = rw (clash_starts w v t k)
