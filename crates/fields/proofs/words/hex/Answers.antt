-- So many hex digits are a number's text.
use Rattle.std.proofs.Common.{sym, ◌∙◌}
use Rattle.csm.proofs.WordTests.{hex_value}
use Rattle.fields.proofs.words.hex.Goals as goal

pub returns-then-not-is_run : goal.returns-then-not-is_run
returns-then-not-is_run c = rw (hex_value c.args.digits c.args.w.now, sym c.is_run.ensures ∙ c.if-not-is_run.true)

pub returns : goal.returns
returns c = rw (hex_value c.args.digits c.args.w.now, sym c.is_run.ensures ∙ c.if-not-is_run.false, c.numeral.ensures)
