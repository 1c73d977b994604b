-- What it means that a contract allows one outcome. A function's outcome is its result, and the later contents of all that
-- it was lent to change.
use Rattle.std.specs.Prelude.{◌≡◌}
use seplogic.Ra.Ura.{Ura}
use base.Logic.{SProp, ent}
use prog.Memory.{Memory}
use prog.Routine.{Routine}
use types.Logic.{Logic}
use contract.Monad.{Fun, conj, fact}
use contract.Lifetimes.{Lfts}
use denote.Triple.Entry.{Args, Res}
use denote.Triple.Clauses.{Ended, Clauses, AtExit, Lasts, at_exit}

-- T is a function's signature, and says which lent contents its contract speaks of: all but those of a `&mut` that it hands
-- on in its result
module _ (T : Ended) where
  -- what a contract claims, as the prover reads it: of lifetimes, arguments, a result and the parameters at exit
  abbrev pub Claim : Type 1
  Claim =
      (κs : Lfts T.signature.lifetimes) → Args T.signature κs → Res T.signature κs → AtExit T κs → Type 0

  -- any two results that P allows are equal as `of` sees them, and so are the contents v and w left behind
  abbrev pub OneSeen : {B : Lfts T.signature.lifetimes → Type 0}
      → ((κs : Lfts T.signature.lifetimes) → Res T.signature κs → B κs) → Claim → Type 0
  OneSeen of P =
      (κs : Lfts T.signature.lifetimes) (a : Args T.signature κs) (x y : Res T.signature κs)
      (v w : Lasts T κs a) → P κs a x (at_exit T κs a v) → P κs a y (at_exit T κs a w) → (of κs x ≡ of κs y) × (v ≡ w)

  -- any two outcomes that P allows are equal
  abbrev pub OneOutcome : Claim → Type 0
  OneOutcome = OneSeen (λ κs x. x)

  -- the same in the prover's logic, of the clauses c as they are written: for a function that is walked by hand, whose
  -- contract the prover reads nowhere
  abbrev pub OneWritten : ((M : Type 1) (𝓤 : Ura M) → (𝓛 : Logic 𝓤) → (Memory → SProp 𝓤) → (Routine → Fun 𝓤)
      → Clauses 𝓤 T) → Type 2
  OneWritten c =
      (M : Type 1) (𝓤 : Ura M) (𝓛 : Logic 𝓤) (mem : Memory → SProp 𝓤) (run : Routine → Fun 𝓤)
      (κs : Lfts T.signature.lifetimes) (a : Args T.signature κs) (g : (c M 𝓤 𝓛 mem run κs a).ghost)
      (x y : Res T.signature κs) (v w : Lasts T κs a)
      → ent 𝓤
      (conj 𝓤 ((c M 𝓤 𝓛 mem run κs a).ensures g x (at_exit T κs a v))
      ((c M 𝓤 𝓛 mem run κs a).ensures g y (at_exit T κs a w)))
      (fact 𝓤 ((x ≡ y) × (v ≡ w)))
