-- The control words of the steps.
use Rattle.std.specs.Prelude.{Bool, true, false, ◌||◌, List, [], ◌∷◌, Option, None, Some}

infix 5 in_case◌then◌else◌
unfoldable pub in_case◌then◌else◌ : {A : Type 0} → Bool → A → A → A
in_case true then a else b = a
in_case false then a else b = b

-- what is there, and of that a test holds
unfoldable pub some_has : {A : Type 0} → (A → Bool) → Option A → Bool
some_has f None = false
some_has f (Some a) = f a

-- of one of these a test holds
unfoldable pub any : {A : Type 0} → (A → Bool) → List A → Bool
any f [] = false
any f (a ∷ l) = f a || any f l
