-- The first bytes, the names, then the body of the class.
use Rattle.std.proofs.Common.{sym, ◌∙◌, arith}
use Rattle.reader.proofs.ReadLaws.{read_long, read_front, read_nameless, read_named}
use Rattle.reader.proofs.read.Goals as goal

pub returns-then-text-gt512 : goal.returns-then-text-gt512
returns-then-text-gt512 c = sym (read_long c.args.text.now (omega arith))

pub returns-then-not-starts : goal.returns-then-not-starts
returns-then-not-starts c = sym (read_front c.args.text.now (sym c.starts.ensures ∙ c.if-not-starts.true))

pub returns-in_err-head : goal.returns-in_err-head
returns-in_err-head c =
    rw (c.from_residual.ensures, read_nameless c.args.text.now (sym c.starts.ensures ∙ c.if-not-starts.false) (sym c.names_at.ensures ∙ c.in_err-head.was))

pub returns-in_err-class : goal.returns-in_err-class
returns-in_err-class c =
    let s = c.args.text.now in
    rw (
      c.from_residual-in_err-class.ensures,
      read_named s (sym c.starts.ensures ∙ c.if-not-starts.false) (omega arith) _
          (sym c.names_at.ensures ∙ c.in_ok-head.was),
      ← c.class_field.ensures,
      c.in_err-class.was,
    )

pub returns : goal.returns
returns c =
    let s = c.args.text.now in
    rw (
      read_named s (sym c.starts.ensures ∙ c.if-not-starts.false) (omega arith) _
          (sym c.names_at.ensures ∙ c.in_ok-head.was),
      ← c.class_field.ensures,
      c.in_ok-class.was,
    ) c.body_at.ensures
