-- The refusals of the code by the paper's numbers (document 01, "Answers").
use Rattle.std.specs.Prelude.{List, [], ◌∷◌, ℕ, eqb, Option, Result, Ok, Err}
use Rattle.std.specs.List.{find}
use Rattle.calls.specs.declared.Refusal.{Refusal}
use Rattle.calls.specs.declared.Refusal.TheVariants.{NoMessage, ForAnother, NoPartner, NothingWaiting, NoRoom, AlreadyWaiting}
use Rattle.calls.specs.declared.Refusal.TheVariants.{CountUsedUp, TableFull, BadIdentity, EvenKey, Malformed, Illegal}

abbrev pub number : Refusal → ℕ
number NoMessage = 1
number ForAnother = 2
number NoPartner = 3
number NothingWaiting = 5
number NoRoom = 6
number AlreadyWaiting = 7
number CountUsedUp = 8
number TableFull = 9
number BadIdentity = 10
number EvenKey = 11
number Malformed = 12
number Illegal = 13

-- the answer of a call that tests and does no more: 0, or its refusal's number
abbrev pub answer_of : {A : Type 0} → Result A Refusal → ℕ
answer_of (Ok a) = 0
answer_of (Err r) = number r

-- all of them, by their numbers
abbrev pub every : List Refusal
every =
    NoMessage ∷ ForAnother ∷ NoPartner ∷ NothingWaiting ∷ NoRoom ∷ AlreadyWaiting ∷ CountUsedUp ∷ TableFull ∷ BadIdentity ∷ EvenKey
    ∷ Malformed ∷ Illegal ∷ []

-- the refusal of a number; 0, 4 and what is past 13 are the number of none
abbrev pub numbered : ℕ → Option Refusal
numbered n = find (λ r. eqb (number r) n) every
