-- `card::give_up` meets its contract: what waits is given up. Assumes nothing.
use mathlib.Core.List.{[]}
use Rattle.sight.specs.declared.aims.Act.TheVariants.{GiveUp}
use Rattle.sight.specs.Asked.{call_of}
use Rattle.card.proofs.Calling.{called}
use Rattle.card.proofs.give_up.Goals as goal

pub returns : goal.returns
unfolding call_of
returns c =
    let k = called GiveUp _ _ [] _ _ _ c.report_of.ensures _ _ tt c.change.ensures in
    record { told = k.told; stored = k.stored }
