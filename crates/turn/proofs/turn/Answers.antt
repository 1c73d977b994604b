-- `turn::turn` meets its contract: giving up writes no reply. Assumes nothing.
use Rattle.std.proofs.Common.{sym, ap, ◌∙◌, length}
use Rattle.outcome.specs.Report.{replied}
use Rattle.sight.specs.declared.aims.Act.{Act}
use Rattle.turn.specs.Way.{turn}
use Rattle.turn.proofs.Acting.{no_reply}
use Rattle.turn.proofs.turn.Goals as goal

pub returns-in-GiveUp-clause-reply_after : goal.returns-in-GiveUp-clause-reply_after
unfolding turn
returns-in-GiveUp-clause-reply_after c =
    let a = c.args in
    let l = a.reply.now in
    sym (no_reply a.e.now l)
    ∙ ap (λ (q : Act). replied (turn a.own.now a.partner a.e.now q a.text.now (length l)).outcome l) (sym c.in-GiveUp.is)
