-- What a writer that was lent the unwritten rest of a buffer leaves there, also where the room is short.
use Rattle.std.specs.Prelude.{◌≡◌, [], ◌∷◌, ℕ, min, length}
use Rattle.octets.specs.Text.{Text}

-- as much of t as there is room for, over the front of l
abbrev pub over : Text → Text → Text
over [] l = l
over (x ∷ t) [] = []
over (x ∷ t) (y ∷ l) = x ∷ over t l

-- as much of the text t as there is room for lies over the front of what was l, of which the rest is as it was;
-- n counts it
pub record Wrote (t l l' : Text) (n : ℕ) : Type 0 where
  pub text : l' ≡ over t l
  pub count : n ≡ min (length t) (length l)
