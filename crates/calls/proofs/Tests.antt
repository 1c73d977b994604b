-- Laws of the control words and of tests.
use Rattle.std.specs.Prelude.{Option, None, Some}
use mathlib.Core.Path.{◌≡◌, refl, sym}
use mathlib.Core.Bool.{Bool, true, false, ◌&&◌, ◌||◌, true≢false}
use Rattle.calls.specs.Words.{in_case◌then◌else◌}

-- no test both holds and fails
pub never : {A : Type 0} (b : Bool) → b ≡ true → b ≡ false → A
never true p q = absurd (true≢false q)
never false p q = absurd (true≢false (sym p))

pub or_split : (a b : Bool) → a || b ≡ false → (a ≡ false) × (b ≡ false)
or_split true b e = absurd (true≢false e)
or_split false b e = (refl, e)

pub or_right : (a b : Bool) → a ≡ false → a || b ≡ true → b ≡ true
or_right true b p e = absurd (true≢false p)
or_right false b p e = e

pub and_join : (a b : Bool) → a ≡ true → b ≡ true → a && b ≡ true
and_join a b p q = rw (p, q)

-- two cases of a step
pub by_case : {A : Type 0} (P : A → Type 0) (b : Bool) (x y : A) → (b ≡ true → P x) → (b ≡ false → P y)
    → P (in_case b then x else y)
unfolding in_case◌then◌else◌
by_case P true x y f g = f refl
by_case P false x y f g = g refl

pub if_false : {A : Type 0} (b : Bool) (x y : A) → b ≡ false → (in_case b then x else y) ≡ y
unfolding in_case◌then◌else◌
if_false true x y e = absurd (true≢false e)
if_false false x y e = refl

pub if_true : {A : Type 0} (b : Bool) (x y : A) → b ≡ true → (in_case b then x else y) ≡ x
unfolding in_case◌then◌else◌
if_true true x y e = refl
if_true false x y e = absurd (true≢false (sym e))

-- a test holds or fails
pub by_test : {A : Type 0} (b : Bool) → (b ≡ true → A) → (b ≡ false → A) → A
by_test true f g = f refl
by_test false f g = g refl

-- what cannot fail holds, and what cannot hold fails
pub not_failing : (b : Bool) → (b ≡ false → ⊥) → b ≡ true
not_failing true h = refl
not_failing false h = absurd (h refl)

pub not_holding : (b : Bool) → (b ≡ true → ⊥) → b ≡ false
not_holding true h = absurd (h refl)
not_holding false h = refl

-- something is there or not
pub by_part : {A B : Type 0} (o : Option B) → (o ≡ None → A) → ((b : B) → o ≡ Some b → A) → A
by_part None f g = f refl
by_part (Some b) f g = g b refl
