-- `card::receive` meets its contract: a text is received. Assumes nothing.
use mathlib.Core.List.{[]}
use Rattle.sight.specs.declared.aims.Act.TheVariants.{Receive}
use Rattle.sight.specs.Asked.{call_of}
use Rattle.card.proofs.Calling.{called}
use Rattle.card.proofs.receive.Goals as goal

pub returns : goal.returns
unfolding call_of
returns c = called Receive _ [] _ _ _ _ c.report_of.ensures _ _ tt c.change.ensures
