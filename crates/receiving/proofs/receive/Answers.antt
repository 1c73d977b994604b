-- `receiving::receive` meets its contract: 13, 6, then what is made of the text. Assumes nothing.
use Rattle.std.specs.Prelude.{Err}
use mathlib.Core.Path.{◌≡◌, ap, ◌∙◌}
use native.Mathlib.Omega.{arith}
use Rattle.calls.specs.declared.Refusal.TheVariants.{Illegal}
use Rattle.receiving.proofs.Answering.{unsound, no_room, refused_so, taken_so, legal_so, told_so}
use Rattle.receiving.proofs.receive.Goals as goal

pub returns-in_err-us : goal.returns-in_err-us
returns-in_err-us c =
    let a = c.args in
    let h : c.from_residual.result ≡ Err Illegal = grind arith in
    let g = unsound a.own.now a.e.now a.text.now a.reply.now c.in_err-us.ensures.unsound.1 in
    record { value = rw h g.value; reply_after = g.reply_after }

pub returns-then-reply-lt-ROOM : goal.returns-then-reply-lt-ROOM
returns-then-reply-lt-ROOM c =
    let us = c.in_ok-us in
    let g = no_room us.us us.ensures.sound c.args.text.now c.args.reply.now c.if-reply-lt-ROOM.true in
    record { value = g.value; reply_after = g.reply_after }

pub returns-in-Ok : goal.returns-in-Ok
returns-in-Ok c =
    let us = c.in_ok-us in
    let g = taken_so us.us us.ensures.sound c.args.text.now c.args.reply.now c.if-reply-lt-ROOM.false c.take.ensures
    c.in-Ok.taken c.in-Ok.is c.confirm-length.ensures in
    record { value = g.value; reply_after = g.reply_after }

pub returns-in-Err-Refused : goal.returns-in-Err-Refused
returns-in-Err-Refused c =
    let us = c.in_ok-us in
    let found = c.in-Err-Refused in
    let g = refused_so us.us us.ensures.sound c.args.text.now c.args.reply.now c.if-reply-lt-ROOM.false c.take.ensures
    found.refusal (found.is ∙ ap Err found.field-0-is) in
    record { value = g.value; reply_after = g.reply_after }

pub complain-length-requires-clause-lawful : goal.complain-length-requires-clause-lawful
complain-length-requires-clause-lawful c =
    let us = c.in_ok-us in
    let found = c.in-Err-Error in
    legal_so us.us us.ensures.sound c.args.text.now c.args.reply.now c.if-reply-lt-ROOM.false c.take.ensures
    found.letters found.counts (found.is ∙ ap Err found.field-0-is)

pub returns-in-Err-Error : goal.returns-in-Err-Error
returns-in-Err-Error c =
    let us = c.in_ok-us in
    let found = c.in-Err-Error in
    let g = told_so us.us us.ensures.sound c.args.text.now c.args.reply.now c.if-reply-lt-ROOM.false c.take.ensures
    found.letters found.counts (found.is ∙ ap Err found.field-0-is) c.complain-length.ensures in
    record { value = g.value; reply_after = g.reply_after }
