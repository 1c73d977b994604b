-- `card::build_rsi` meets its contract: an RSI is built. Assumes nothing.
use Rattle.sight.specs.declared.aims.Act.TheVariants.{BuildRsi}
use Rattle.sight.specs.Asked.{call_of}
use Rattle.card.proofs.Ends.{written_by}
use Rattle.card.proofs.build_rsi.Goals as goal

pub returns : goal.returns
unfolding call_of
returns c = written_by BuildRsi _ c.args.partner.now _ _ _ _ c.report_of.ensures _ c.read.ensures
