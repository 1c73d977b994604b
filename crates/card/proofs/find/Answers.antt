-- `card::find` meets its contract: nothing is seen of what is no legal image. Assumes nothing.
use Rattle.std.proofs.Common.{sym, ◌∙◌, subst, ℕ}
use Rattle.std.specs.Prelude.{Result}
use Rattle.calls.specs.declared.Refusal.{Refusal}
use Rattle.calls.proofs.Numbered.{numbered_back}
use Rattle.card.specs.Ways.{Listed, Finds}
use Rattle.card.proofs.Listed.{unnumbered, order_listed}
use Rattle.card.proofs.Lookups.{finds_nothing, finds_refusal, finds_slot}
use Rattle.card.proofs.find.Goals as goal

pub returns-then-not-legal : goal.returns-then-not-legal
returns-then-not-legal c =
    let a = c.args in
    finds_nothing a.aim.now a.image.now a.act a.text.now a.room (sym c.legal.ensures ∙ c.if-not-legal.true)

pub returns-in-Some : goal.returns-in-Some
returns-in-Some c =
    let a = c.args in
    finds_refusal a.aim.now a.image.now a.act a.text.now a.room (sym c.legal.ensures ∙ c.if-not-legal.false) _ _
    c.theirs-theirs.ensures c.sought-slot.ensures _ _ c.is_some.ensures c.is_some-2.ensures _
    (numbered_back _ _ (sym c.numbered.ensures ∙ c.in-Some.is) ∙ c.refusal.ensures)

pub returns-in-None : goal.returns-in-None
returns-in-None c =
    let a = c.args in
    let l = subst Listed (sym c.refusal.ensures) (order_listed a.aim.now c.requires _ a.text.now a.room a.act) in
    subst (λ (x : Result ℕ Refusal). Finds a.aim.now a.image.now a.act a.text.now a.room x) (sym c.ok_or.ensures.value)
    (finds_slot a.aim.now a.image.now a.act a.text.now a.room (sym c.legal.ensures ∙ c.if-not-legal.false) _ _
    c.theirs-theirs.ensures c.sought-slot.ensures _ _ c.is_some.ensures c.is_some-2.ensures
    (unnumbered _ l (sym c.numbered.ensures ∙ c.in-None.is) ∙ c.refusal.ensures))
