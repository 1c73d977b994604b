-- Each call's own answers, from the orders of crate `calls`.
use mathlib.Core.Path.{◌≡◌, refl, sym}
use mathlib.Core.Bool.{Bool, true, false, not, ◌&&◌, ◌||◌, true≢false}
use mathlib.Core.List.Memᴰ
use mathlib.Core.List.{List, [], ◌∷◌}
use mathlib.Core.Logic.{◌⊎◌, inl, inr}
use Prim.Native.Nat.{ℕ}
use lib.Dec.{eqb}
use borrow.Author.Tests.{eqb-true, eqb-false}
use Rattle.octets.specs.Text.{free, stands}
use Rattle.partner.specs.Table.{Table}
use Rattle.calls.specs.Calls.{Call, run}
use Rattle.calls.specs.Orders.{answers}
use Rattle.calls.proofs.Orders.{orders}
use Rattle.line.specs.Line.{◌∈◌}

abbrev among : ℕ → List ℕ → Bool
among n [] = false
among n (m ∷ l) = eqb n m || among n l

pub is_in : (n : ℕ) (l : List ℕ) → among n l ≡ true → n ∈ l
is_in n [] h = absurd (true≢false (sym h))
is_in n (m ∷ l) h = go (eqb n m) refl h (is_in n l)
  where
    go : (b : Bool) → eqb n m ≡ b → b || among n l ≡ true → (among n l ≡ true → n ∈ l) → n ∈ (m ∷ l)
    go true e h r = Memᴰ.head (eqb-true n m e)
    go false e h r = Memᴰ.tail (r h)

pub not_in : (n : ℕ) (l : List ℕ) → among n l ≡ false → n ∈ l → ⊥
not_in n [] h k = Memᴰ.not-nil k
not_in n (m ∷ l) h k = go (eqb n m) refl h (not_in n l) (Memᴰ.cases_cons k)
  where
    go : (b : Bool) → eqb n m ≡ b → b || among n l ≡ false → (among n l ≡ false → n ∈ l → ⊥) → (n ≡ m) ⊎ (n ∈ l) → ⊥
    go true e h r k = true≢false h
    go false e h r (inl p) = eqb-false n m e p
    go false e h r (inr p) = r h p

-- all of these are among those
abbrev pub all_among : List ℕ → List ℕ → Bool
all_among [] m = true
all_among (n ∷ l) m = among n m && all_among l m

-- what stands in a list whose numbers are among others is one of those
pub stands_in : (n : ℕ) (l m : List ℕ) → stands n l ≡ true → all_among l m ≡ true → n ∈ m
stands_in n [] m h a = absurd (true≢false (sym h))
stands_in n (k ∷ l) m h a = go (eqb k n) refl (among k m) refl h a (stands_in n l m)
  where
    go : (b : Bool) → eqb k n ≡ b → (c : Bool) → among k m ≡ c → not (not b && free n l) ≡ true
        → c && all_among l m ≡ true → (stands n l ≡ true → all_among l m ≡ true → n ∈ m) → n ∈ m
    go true e true d h a r = rw (sym (eqb-true k n e)) (is_in k m d)
    go false e true d h a r = r h a
    go b e false d h a r = absurd (true≢false (sym a))

pub run_gives : (t : Table) (c : Call) (l : List ℕ) → all_among (answers c) l ≡ true → (run t c).outcome.answer ∈ l
run_gives t c l h = stands_in (run t c).outcome.answer (answers c) l (orders.answers_are_the_papers t c) h
