-- A refusal is known by its number, and none is 0 or 4.
use Rattle.std.proofs.Common.{◌≡◌, refl, sym, ap, ◌∙◌, Bool, true, false, cond, List, [], ◌∷◌, ℕ, arith}
use Rattle.std.specs.Prelude.{⊤, Result, Some, eqb}
use Rattle.std.specs.List.{find}
use borrow.Author.Tests.{eqb-true}
use Rattle.calls.specs.declared.Refusal.{Refusal}
use Rattle.calls.specs.declared.Refusal.TheVariants.{NoMessage, ForAnother, NoPartner, NothingWaiting, NoRoom, AlreadyWaiting}
use Rattle.calls.specs.declared.Refusal.TheVariants.{CountUsedUp, TableFull, BadIdentity, EvenKey, Malformed, Illegal}
use Rattle.calls.specs.Refusal.{number, answer_of, every, numbered}

pub one_number : (r s : Refusal) → number r ≡ number s → r ≡ s
one_number r s p = grind arith

pub number_not_0 : (r : Refusal) → number r ≡ 0 → ⊥
number_not_0 r p = grind arith

pub number_not_4 : (r : Refusal) → number r ≡ 4 → ⊥
number_not_4 r p = grind arith

-- of a call that tests and does no more, the answer says all
pub one_answer : (x y : Result ⊤ Refusal) → answer_of x ≡ answer_of y → x ≡ y
one_answer x y p = grind (arith, number_not_0, one_number)

-- a refusal that is found is one of which the test holds
found_holds : (f : Refusal → Bool) (l : List Refusal) (r : Refusal) → find f l ≡ Some r → f r ≡ true
found_holds f [] r h = cc
found_holds f (x ∷ l) r h = go (f x) refl h (found_holds f l r)
  where
    go : (b : Bool) → f x ≡ b → cond b (Some x) (find f l) ≡ Some r → (find f l ≡ Some r → f r ≡ true) → f r ≡ true
    go true q k ih = let p : x ≡ r = cc in ap f (sym p) ∙ q
    go false q k ih = ih k

-- the refusal of a number has that number
pub numbered_back : (n : ℕ) (r : Refusal) → numbered n ≡ Some r → number r ≡ n
numbered_back n r p = eqb-true (number r) n (found_holds (λ (s : Refusal). eqb (number s) n) every r p)

-- and every refusal is that of its number
pub numbered_of : (r : Refusal) → numbered (number r) ≡ Some r
numbered_of NoMessage = refl
numbered_of ForAnother = refl
numbered_of NoPartner = refl
numbered_of NothingWaiting = refl
numbered_of NoRoom = refl
numbered_of AlreadyWaiting = refl
numbered_of CountUsedUp = refl
numbered_of TableFull = refl
numbered_of BadIdentity = refl
numbered_of EvenKey = refl
numbered_of Malformed = refl
numbered_of Illegal = refl
