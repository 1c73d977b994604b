-- A text of no bytes is nothing.
use Rattle.std.proofs.Common.{sym, ◌∙◌}
use Rattle.fields.proofs.KeyLaws.{empty_same}
use Rattle.fields.proofs.keys.is_mark.Goals as goal

pub returns-else-is_empty : goal.returns-else-is_empty
returns-else-is_empty c = rw (empty_same c.args.w.now, sym c.is_empty.ensures ∙ c.if-is_empty.false) c.same.ensures
