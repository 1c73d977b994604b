-- A service is read of the contents.
use Rattle.std.proofs.Common.{rules}
use Rattle.csm.specs.Fields.{svr, tag, SVR}
use Rattle.fields.specs.Seen.{as_number}
use Rattle.fields.proofs.PieceLaws.{read_as}
use Rattle.fields.proofs.service_field.Goals as goal

pub returns : goal.returns
returns c = read_as svr (tag SVR) as_number _ _ c.args.text.now c.args.at _ c.read_field.ensures (λ p o g. search rules)
