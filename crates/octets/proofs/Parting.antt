-- Laws of parting a text at the first of a byte.
use mathlib.Core.Path.{◌≡◌, refl, ap}
use mathlib.Core.Bool.{Bool, true, false, not, cond}
use mathlib.Core.List.{[], ◌∷◌, ◌++◌}
use Prim.Native.Nat.{ℕ, zero, suc, ◌+◌, ◌≤◌, ◌<◌}
use native.Mathlib.Nat.{le_of_suc-le-suc, not-suc-le-zero}
use native.Mathlib.Omega.{arith}
use lib.Dec.{eqb}
use lib.ListN.{length, take, drop, get_or}
use lib.Seq.{take_all}
use borrow.Author.Tests.{eq-eqb, ne_eqb, eqb-true, not-true}
use Rattle.octets.specs.Text.{Text, blank, free}
use Rattle.octets.specs.Part.{before, bare}
use Rattle.octets.proofs.Comparing.{drop_step, both}

pub before_fits : (x : ℕ) (s : Text) → before x s ≤ length s
before_fits x [] = omega arith
before_fits x (y ∷ s) = go (eqb y x) (before_fits x s)
  where
    go : (b : Bool) → before x s ≤ length s → cond b zero (suc (before x s)) ≤ suc (length s)
    go true h = omega arith
    go false h = omega arith

-- where x does not stand, nothing is behind it
pub before_free : (x : ℕ) (s : Text) → free x s ≡ true → before x s ≡ length s
before_free x [] e = refl
before_free x (y ∷ s) e =
    let h = both (not (eqb y x)) (free x s) e in
    let n : eqb y x ≡ false = not-true (eqb y x) h.0 in
    rw n (ap suc (before_free x s h.1))

-- the first x, behind what has none
pub before_first : (x : ℕ) (s t : Text) → free x s ≡ true → before x (s ++ x ∷ t) ≡ length s
before_first x [] t e = let h : eqb x x ≡ true = eq-eqb x x refl in rw h
before_first x (y ∷ s) t e =
    let h = both (not (eqb y x)) (free x s) e in
    let n : eqb y x ≡ false = not-true (eqb y x) h.0 in
    rw n (ap suc (before_first x s t h.1))

-- before it stands no x
pub free_before : (x : ℕ) (s : Text) → free x (take (before x s) s) ≡ true
free_before x [] = refl
free_before x (y ∷ s) = go (eqb y x) refl (free_before x s)
  where
    go : (b : Bool) → eqb y x ≡ b → free x (take (before x s) s) ≡ true
        → free x (take (cond b zero (suc (before x s))) (y ∷ s)) ≡ true
    go true e h = refl
    go false e h = rw e h

-- and there it stands
pub before_at : (x : ℕ) (s : Text) → before x s < length s → get_or s (before x s) 0 ≡ x
before_at x [] h = absurd (not-suc-le-zero h)
before_at x (y ∷ s) h = go (eqb y x) refl h (before_at x s)
  where
    go : (b : Bool) → eqb y x ≡ b → cond b zero (suc (before x s)) < suc (length s)
        → (before x s < length s → get_or s (before x s) 0 ≡ x) → get_or (y ∷ s) (cond b zero (suc (before x s))) 0 ≡ x
    go true e k r = eqb-true y x e
    go false e k r = r (le_of_suc-le-suc k)

-- a search from place to place
pub before_step : (x : ℕ) (s : Text) (i : ℕ) → i < length s → (get_or s i 0 ≡ x → ⊥)
    → i + before x (drop i s) ≡ i + 1 + before x (drop (i + 1) s)
before_step x s i h n = rw (drop_step s i h, ne_eqb (get_or s i 0) x n) (omega arith)

-- a text with no blank is its own bare part
pub bare_free : (s : Text) → free blank s ≡ true → bare s ≡ s
bare_free s e = take_all (before blank s) s (omega (arith, before_free blank s e))
