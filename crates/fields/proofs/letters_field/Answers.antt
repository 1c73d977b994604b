-- Letters are read of the contents.
use Rattle.std.proofs.Common.{rules}
use Rattle.csm.specs.Fields.{erf, tag, ERF}
use Rattle.fields.specs.Seen.{as_number}
use Rattle.fields.proofs.PieceLaws.{read_as}
use Rattle.fields.proofs.letters_field.Goals as goal

pub returns : goal.returns
returns c = read_as erf (tag ERF) as_number _ _ c.args.text.now c.args.at _ c.read_field.ensures (λ p o g. search rules)
