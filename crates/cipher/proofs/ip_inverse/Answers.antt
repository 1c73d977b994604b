-- One exchange after the other.
use Rattle.std.proofs.Common.{rules, tests, ◌%◌, ◌∙◌}
use Rattle.std.proofs.lemmas.Iterator.Adapters.{YieldsList-from_rev_slice}
use Rattle.std.proofs.lemmas.Iterator.Consumers.{fold_from_yields_List}
use Rattle.cipher.specs.declared.tables.TheConstants.{EXCHANGES}
use Rattle.cipher.specs.Words.{exchange}
use Rattle.cipher.proofs.Exchanges.{inverse}
use Rattle.cipher.proofs.ip_inverse.Goals as goal

pub returns : goal.returns
returns c =
    fold_from_yields_List _ (λ y e. exchange (e.0 % 64) e.1 y) c.args.x c.fold.result c.fold.ensures.ran (YieldsList-from_rev_slice EXCHANGES cc) (λ a x b q k. search (rules, tests))
    ∙ inverse c.args.x c.ranges.x.fits
