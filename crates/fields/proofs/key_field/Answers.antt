-- A KD is read of the contents.
use Rattle.std.proofs.Common.{rules}
use Rattle.csm.specs.Fields.{kd, tag, KD}
use Rattle.fields.specs.Seen.{as_key}
use Rattle.fields.proofs.PieceLaws.{read_as}
use Rattle.fields.proofs.key_field.Goals as goal

pub returns : goal.returns
returns c = read_as kd (tag KD) as_key _ _ c.args.text.now c.args.at _ c.read_field.ensures (λ p o g. search rules)
