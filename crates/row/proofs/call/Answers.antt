-- `row::call` meets its contract: the turn of the entry that is seen, put back. Assumes nothing.
use Rattle.std.proofs.Common.{sym, ap, ◌∙◌, Option, ℕ}
use Rattle.sight.specs.Sight.{put_in}
use Rattle.row.proofs.Called.{call_ends}
use Rattle.row.proofs.call.Goals as goal

pub returns-in-Some : goal.returns-in-Some
returns-in-Some c =
    let a = c.args in
    let t = c.take.result.0 in
    call_ends a.own.now a.row.now a.act a.who.now a.text.now _ c.aim-aim.ensures _ c.survey-seen.ensures a.reply.now t
    c.take.ensures.entry _ c.take.ensures.value _ (c.replace.ensures ∙ ap (λ (o : Option ℕ). put_in o t a.row.now) (sym c.in-Some.is)) _
    c.take.ensures.reply_after

pub returns-in_default : goal.returns-in_default
returns-in_default c =
    let a = c.args in
    let t = c.take.result.0 in
    call_ends a.own.now a.row.now a.act a.who.now a.text.now _ c.aim-aim.ensures _ c.survey-seen.ensures a.reply.now t
    c.take.ensures.entry _ c.take.ensures.value _ (ap (λ (o : Option ℕ). put_in o t a.row.now) (sym c.in_default.is)) _
    c.take.ensures.reply_after
