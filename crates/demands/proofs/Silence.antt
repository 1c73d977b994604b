-- Give up, load, remove and ask write no message.
use mathlib.Core.Path.{◌≡◌, refl, ap, subst}
use mathlib.Core.Bool.{Bool, true, false}
use mathlib.Core.List.{List, []}
use Prim.Native.Nat.{ℕ}
use lib.Dec.{eqb}
use borrow.Author.Tests.{eqb-true, eqb-false}
use Rattle.octets.specs.Text.{Text}
use Rattle.keying.specs.declared.Top.{Top}
use Rattle.partner.specs.Table.{Table}
use Rattle.calls.specs.Outcome.{Outcome}
use Rattle.calls.specs.Calls.{Call, about, give_up, load, remove, ask, run}
use Rattle.calls.specs.Orders.{answers}
use Rattle.calls.proofs.Claims.{claims}
use Rattle.line.specs.Line.{◌∈◌}
use Rattle.demands.proofs.Answers.{not_in, run_gives}

silent : (t : Table) (c : Call) (l : List ℕ) → (run t c).outcome.answer ∈ l → (4 ∈ l → ⊥)
    → ((run t c).outcome.answer ≡ 0 → (run t c).outcome.reply ≡ []) → (run t c).outcome.reply ≡ []
silent t c l m no-error done = go (eqb (run t c).outcome.answer 0) refl
  where
    go : (b : Bool) → eqb (run t c).outcome.answer 0 ≡ b → (run t c).outcome.reply ≡ []
    go true p = done (eqb-true (run t c).outcome.answer 0 p)
    go false p =
        ap (λ (o : Outcome). o.reply)
        (claims.refusals_are_bare t c (eqb-false (run t c).outcome.answer 0 p)
        (λ z. no-error (subst (λ (k : ℕ). k ∈ l) z m)))

pub give_up_silent : (t : Table) (id : Text) → (run t (about id give_up)).outcome.reply ≡ []
give_up_silent t id =
    silent t (about id give_up) (answers (about id give_up)) (run_gives t (about id give_up) _ refl) (not_in 4 _ refl) (claims.replies t (about id give_up))

pub load_silent : (t : Table) (id name : Text) (top : Top) → (run t (load id name top)).outcome.reply ≡ []
load_silent t id name top =
    silent t (load id name top) (answers (load id name top)) (run_gives t (load id name top) _ refl) (not_in 4 _ refl)
    (claims.replies t (load id name top))

pub remove_silent : (t : Table) (id : Text) → (run t (about id remove)).outcome.reply ≡ []
remove_silent t id =
    silent t (about id remove) (answers (about id remove)) (run_gives t (about id remove) _ refl) (not_in 4 _ refl) (claims.replies t (about id remove))

pub ask_silent : (t : Table) (id : Text) → (run t (about id ask)).outcome.reply ≡ []
ask_silent t id = silent t (about id ask) (answers (about id ask)) (run_gives t (about id ask) _ refl) (not_in 4 _ refl) (claims.replies t (about id ask))
