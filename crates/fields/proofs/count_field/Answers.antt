-- A count is read of the contents.
use Rattle.std.proofs.Common.{rules}
use Rattle.csm.specs.Fields.{count}
use Rattle.fields.specs.Seen.{as_number}
use Rattle.fields.proofs.PieceLaws.{read_as}
use Rattle.fields.proofs.count_field.Goals as goal

pub returns : goal.returns
returns c = read_as count c.args.tag.now as_number _ _ c.args.text.now c.args.at _ c.read_field.ensures (λ p o g. search rules)
