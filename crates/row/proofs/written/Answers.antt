-- `row::written` meets its contract: a refusal, or the whole image. Assumes nothing.
use Rattle.std.proofs.Common.{sym, ◌∙◌, arith}
use Rattle.row.proofs.Writing.{illegal, no_room, whole}
use Rattle.row.proofs.written.Goals as goal

pub returns-then-not-legal : goal.returns-then-not-legal
returns-then-not-legal c =
    illegal c.args.own.now c.args.row.now c.args.out.now (sym c.legal.ensures ∙ c.if-not-legal.true)

pub returns-then-out-size : goal.returns-then-out-size
returns-then-out-size c =
    no_room c.args.own.now c.args.row.now c.args.out.now (sym c.legal.ensures ∙ c.if-not-legal.false)
    (omega (arith, c.if-out-size.true, c.size.ensures))

pub returns : goal.returns
returns c =
    whole c.args.own.now c.args.row.now c.args.out.now (sym c.legal.ensures ∙ c.if-not-legal.false)
    (omega (arith, c.if-out-size.false, c.size.ensures)) _ _ c.put_image-length.ensures
