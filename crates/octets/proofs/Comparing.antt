-- Laws of comparing: a test of every byte, two texts that are one, a text at the front of another.
use mathlib.Core.Path.{◌≡◌, refl, sym, ap, ◌∙◌}
use mathlib.Core.Bool.{Bool, true, false, ◌&&◌, true≢false}
use mathlib.Core.List.{[], ◌∷◌, ◌++◌}
use Prim.Native.Nat.{ℕ, zero, suc, ◌+◌, ◌≤◌, ◌<◌}
use native.Mathlib.Nat.{le_of_suc-le-suc, not-suc-le-zero}
use native.Mathlib.Numerals.{add-one}
use native.Mathlib.Omega.{arith}
use lib.Dec.{eqb, ltb}
use lib.ListN.{length, take, drop, get_or, drop_of_length-le}
use lib.Seq.{drop-cons}
use mir.Syntax.{w8}
use mir.Val.{Fits}
use borrow.Author.Tests.{eq-eqb, eqb-true, lt-ltb}
use Rattle.octets.specs.Text.{Text, all, same, starts}
use Rattle.octets.specs.Part.{all_octets}

-- what is left of a text from a place within it, as its first byte and the rest
pub drop_step : (s : Text) (i : ℕ) → i < length s → drop i s ≡ get_or s i 0 ∷ drop (i + 1) s
drop_step s i h = rw (add-one i) (drop-cons s i 0 h)

pub drop_end : (s : Text) (i : ℕ) → length s ≤ i → drop i s ≡ []
drop_end s i h = drop_of_length-le s h

pub both : (a b : Bool) → a && b ≡ true → (a ≡ true) × (b ≡ true)
both true true e = (refl, refl)
both true false e = absurd (true≢false (sym e))
both false b e = absurd (true≢false (sym e))

-- true joined with true
pub join : {a b : Bool} → a ≡ true → b ≡ true → a && b ≡ true
join {a} {b} h k = ap (λ (x : Bool). x && b) h ∙ k

-- what two tests give where the first holds, and where it does not
pub and_then : (a b : Bool) {r : Bool} → a ≡ true → r ≡ b → r ≡ (a && b)
and_then a b t e = rw t e

pub and_else : (a b : Bool) {r : Bool} → a ≡ false → r ≡ false → r ≡ (a && b)
and_else a b t e = rw t e

-- two truths that follow from each other are one
pub iff : (a b : Bool) → (a ≡ true → b ≡ true) → (b ≡ true → a ≡ true) → a ≡ b
iff true b f g = sym (f refl)
iff false true f g = g refl
iff false false f g = refl

-- ---- every byte

pub all_append : (p : ℕ → Bool) (s t : Text) → all p (s ++ t) ≡ all p s && all p t
all_append p [] t = refl
all_append p (x ∷ s) t = go (p x) (all_append p s t)
  where
    go : (b : Bool) → all p (s ++ t) ≡ all p s && all p t → b && all p (s ++ t) ≡ b && all p s && all p t
    go true e = e
    go false e = refl

pub all_at : (p : ℕ → Bool) (s : Text) (i : ℕ) → all p s ≡ true → i < length s → p (get_or s i 0) ≡ true
all_at p [] i e h = absurd (not-suc-le-zero h)
all_at p (x ∷ s) zero e h = (both (p x) (all p s) e).0
all_at p (x ∷ s) (suc i) e h = all_at p s i (both (p x) (all p s) e).1 (le_of_suc-le-suc h)

pub all_of : (p : ℕ → Bool) (s : Text) → ((i : ℕ) → i < length s → p (get_or s i 0) ≡ true) → all p s ≡ true
all_of p [] f = refl
all_of p (x ∷ s) f = let h : p x ≡ true = f zero (omega arith) in rw h (all_of p s (λ i k. f (suc i) (omega arith)))

pub all_take : (p : ℕ → Bool) (n : ℕ) (s : Text) → all p s ≡ true → all p (take n s) ≡ true
all_take p zero s e = refl
all_take p (suc n) [] e = refl
all_take p (suc n) (x ∷ s) e = let h = both (p x) (all p s) e in rw h.0 (all_take p n s h.1)

pub all_drop : (p : ℕ → Bool) (n : ℕ) (s : Text) → all p s ≡ true → all p (drop n s) ≡ true
all_drop p zero s e = e
all_drop p (suc n) [] e = refl
all_drop p (suc n) (x ∷ s) e = all_drop p n s (both (p x) (all p s) e).1

pub octets_of : (s : Text) → ((i : ℕ) → get_or s i 0 < 256) → all_octets s ≡ true
octets_of s f = all_of (λ b. ltb b 256) s (λ i h. lt-ltb (get_or s i 0) 256 (f i))

-- the bytes of a lent slice, as its rule has them (`c.shared-slice-known.given`)
pub octets_lent : (s : Text) → ((i : ℕ) → Fits w8 (get_or s i 0)) → all_octets s ≡ true
octets_lent s f = octets_of s (λ i. (f i).fits)

pub octets_part : (s : Text) (from many : ℕ) → all_octets s ≡ true → all_octets (take many (drop from s)) ≡ true
octets_part s from many e = all_take (λ b. ltb b 256) many (drop from s) (all_drop (λ b. ltb b 256) from s e)

-- a loop that tests each byte by p
module _ (p : ℕ → Bool) (s : Text) (i : ℕ) (rest : all p s ≡ all p (drop i s)) where
  pub all_on : i < length s → p (get_or s i 0) ≡ true → all p s ≡ all p (drop (i + 1) s)
  all_on h e = rest ∙ ap (all p) (drop_step s i h) ∙ ap (λ (b : Bool). b && all p (drop (i + 1) s)) e

  pub all_fails : i < length s → p (get_or s i 0) ≡ false → all p s ≡ false
  all_fails h e = rest ∙ ap (all p) (drop_step s i h) ∙ ap (λ (b : Bool). b && all p (drop (i + 1) s)) e

  pub all_done : length s ≤ i → all p s ≡ true
  all_done h = rest ∙ ap (all p) (drop_end s i h)

-- ---- two texts that are one

pub same_equal : (v w : Text) → same v w ≡ true → v ≡ w
same_equal [] [] e = refl
same_equal [] (y ∷ w) e = absurd (true≢false (sym e))
same_equal (x ∷ v) [] e = absurd (true≢false (sym e))
same_equal (x ∷ v) (y ∷ w) e =
    let h = both (eqb x y) (same v w) e in
    let p : x ≡ y = eqb-true x y h.0 in
    let q : v ≡ w = same_equal v w h.1 in
    cc

pub same_self : (w : Text) → same w w ≡ true
same_self [] = refl
same_self (x ∷ w) = let h : eqb x x ≡ true = eq-eqb x x refl in rw h (same_self w)

pub equal_same : (v w : Text) → v ≡ w → same v w ≡ true
equal_same v w e = rw e (same_self w)

pub same_differs : (v w : Text) → same v w ≡ false → v ≡ w → ⊥
same_differs v w e p = true≢false (sym (equal_same v w p) ∙ e)

pub differs_same : (v w : Text) → (v ≡ w → ⊥) → same v w ≡ false
differs_same v w n = go (same v w) refl
  where
    go : (b : Bool) → same v w ≡ b → same v w ≡ false
    go true e = absurd (n (same_equal v w e))
    go false e = e

pub same_length : (v w : Text) → (length v ≡ length w → ⊥) → same v w ≡ false
same_length v w n = differs_same v w (λ e. n (ap length e))

-- ---- a text at the front of another

pub starts_split : (w s : Text) → starts w s ≡ true → s ≡ w ++ drop (length w) s
starts_split [] s e = refl
starts_split (c ∷ w) [] e = absurd (true≢false (sym e))
starts_split (c ∷ w) (x ∷ s) e =
    let h = both (eqb x c) (starts w s) e in
    let p : x ≡ c = eqb-true x c h.0 in
    let q : s ≡ w ++ drop (length w) s = starts_split w s h.1 in
    ap (λ (y : ℕ). y ∷ s) p ∙ ap (λ (t : Text). c ∷ t) q

pub starts_append : (w t : Text) → starts w (w ++ t) ≡ true
starts_append [] t = refl
starts_append (c ∷ w) t = let h : eqb c c ≡ true = eq-eqb c c refl in rw h (starts_append w t)

pub starts_fits : (w s : Text) → starts w s ≡ true → length w ≤ length s
starts_fits [] s e = omega arith
starts_fits (c ∷ w) [] e = absurd (true≢false (sym e))
starts_fits (c ∷ w) (x ∷ s) e = let h = starts_fits w s (both (eqb x c) (starts w s) e).1 in omega arith
