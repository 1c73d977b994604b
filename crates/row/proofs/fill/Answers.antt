-- `row::fill` meets its contract: slot by slot. Assumes nothing.
use Rattle.row.proofs.Filling.{all_filled}
use Rattle.std.proofs.Common.{◌∙◌, arith}
use Rattle.row.proofs.fill.Goals as goal

pub returns : goal.returns
returns c =
    let i = c.loop-at.invariant in
    all_filled c.args.image.now c.loop-at.row (i.same_length ∙ c.requires) (λ j h. i.so j (omega arith))
