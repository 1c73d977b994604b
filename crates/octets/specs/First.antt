-- An order of answers as data: tests, each with its number; the answer is the number of the first that holds, or 0.
use Rattle.std.specs.Prelude.{◌≡◌, Bool, true, false, cond, List, [], ◌∷◌, ◌++◌, ◌↔◌, ℕ, eqb}

abbrev pub Order : Type 0
Order = List (Bool × ℕ)

-- the number so far; where there is none yet and the test holds, n
abbrev pub then : ℕ → Bool → ℕ → ℕ
then a holds n = cond (eqb a 0) (cond holds n 0) a

-- the tests one after the other
abbrev pub go : ℕ → Order → ℕ
go a [] = a
go a (t ∷ ts) = go (then a t.0 t.1) ts

-- the number of the first that holds
abbrev pub first : Order → ℕ
first ts = go 0 ts

-- no number of an order is 0
pub data Numbered : Order → Type 0 where
  end : Numbered []
  more : (holds : Bool) (n : ℕ) (ts : Order) → (n ≡ 0 → ⊥) → Numbered ts → Numbered ((holds, n) ∷ ts)

-- none of these tests holds
pub data Passed : Order → Type 0 where
  end : Passed []
  more : (n : ℕ) (ts : Order) → Passed ts → Passed ((false, n) ∷ ts)

-- a number's condition holds and none earlier in the order does
pub record Given (ts : Order) (n : ℕ) : Type 0 where
  pub earlier : Order
  pub later : Order
  pub whole : ts ≡ earlier ++ ((true, n) ∷ later)
  pub passed : Passed earlier

-- proved as `claims` in proofs/Firsts.antt
pub record Claims : Type 0 where
  -- a number is given exactly when its condition holds and none earlier does
  pub exactly : (ts : Order) (n : ℕ) → Numbered ts → (n ≡ 0 → ⊥) → (first ts ≡ n) ↔ Given ts n
  -- 0 exactly when none holds
  pub else_0 : (ts : Order) → Numbered ts → (first ts ≡ 0) ↔ Passed ts
