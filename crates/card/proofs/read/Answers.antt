-- `card::read` meets its contract: a refusal, or what the turn gives. Assumes nothing.
use Rattle.std.proofs.Common.{◌≡◌, refl, sym, ap, ◌∙◌, subst, arith, Ok, Err}
use Rattle.std.specs.Prelude.{Result}
use Rattle.std.proofs.lemmas.Grind.{common_steps}
use Rattle.octets.specs.Part.{bare}
use Rattle.calls.specs.declared.Refusal.{Refusal}
use Rattle.outcome.specs.declared.Given.{Given}
use Rattle.outcome.specs.declared.Turned.{Turned}
use Rattle.outcome.specs.Report.{report_of, turned_of}
use Rattle.card.specs.Ways.{Turns}
use Rattle.card.proofs.Ends.{turns_kept, turns_went}
use Rattle.card.proofs.Listed.{asks_listed}
use Rattle.card.proofs.read.Goals as goal

pub find-requires : goal.find-requires
find-requires c = asks_listed c.args.act c.args.image.now c.args.who.now c.args.text.now _ c.aim-aim.ensures

pub returns-in_err-slot : goal.returns-in_err-slot
returns-in_err-slot c =
    let a = c.args in
    let r : c.from_residual.result ≡ Err c.in_err-slot.field-0.0 = grind (arith, common_steps) in
    subst (λ (x : Result Given Refusal). Turns a.act a.image.now a.who.now a.text.now a.reply.now (report_of x) a.reply.now) (sym r)
    (turns_kept a.act a.image.now a.who.now a.text.now a.reply.now _ c.aim-aim.ensures _ c.find.ensures _ c.in_err-slot.was)

pub returns-in_err-turned : goal.returns-in_err-turned
returns-in_err-turned c =
    let a = c.args in
    let own = c.bare-own.ensures ∙ ap bare c.own_identity.ensures in
    let r : c.from_residual-in_err-turned.result ≡ Err c.in_err-turned.field-0.0 = grind (arith, common_steps) in
    subst (λ (x : Result Given Refusal). Turns a.act a.image.now a.who.now a.text.now a.reply.now (report_of x) c.turn.new.reply) (sym r)
    (turns_went a.act a.image.now a.who.now a.text.now a.reply.now _ c.aim-aim.ensures _ c.find.ensures
    _ c.in_ok-slot.was _ own _ refl _ c.slot-entry.ensures _ _ c.turn.ensures.value c.turn.ensures.reply_after
    (Err c.in_err-turned.field-0.0) (ap (λ (y : Result Turned Refusal). (turned_of c.slot-entry.result y).report) c.in_err-turned.was))

pub returns : goal.returns
returns c =
    let a = c.args in
    let own = c.bare-own.ensures ∙ ap bare c.own_identity.ensures in
    turns_went a.act a.image.now a.who.now a.text.now a.reply.now _ c.aim-aim.ensures _ c.find.ensures
    _ c.in_ok-slot.was _ own _ refl _ c.slot-entry.ensures _ _ c.turn.ensures.value c.turn.ensures.reply_after
    (Ok c.in_ok-turned.turned.given) (ap (λ (y : Result Turned Refusal). (turned_of c.slot-entry.result y).report) c.in_ok-turned.was)
