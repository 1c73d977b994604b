-- How two outcomes are shown to be equal.
use mathlib.Core.Path.{◌≡◌, sym, ◌∙◌}

infixr 20 ◌also◌
-- two that equal a third are equal
pub alike : {A : Type 0} {a b c : A} → a ≡ c → b ≡ c → a ≡ b
alike p q = p ∙ sym q

-- two pairs are equal where their parts are
pub ◌also◌ : {A B : Type 0} {v w : A × B} → v.0 ≡ w.0 → v.1 ≡ w.1 → v ≡ w
(p also q) j = (p j, q j)
