-- `row::apart` meets its contract: slot by slot. Assumes nothing.
use Rattle.std.proofs.Common.{rules, tests, ◌∙◌}
use Rattle.std.proofs.lemmas.Iterator.{YieldsList-from_slice}
use Rattle.std.proofs.lemmas.Iterator.Search.{all_from_yields_List}
use Rattle.sight.specs.Sight.{differ}
use Rattle.row.proofs.Surveying.{all_apart}
use Rattle.row.proofs.apart.Goals as goal

pub returns : goal.returns
returns c =
    all_from_yields_List (differ c.args.e.now) _ _ _ c.all.ensures.ran (YieldsList-from_slice c.args.later.now cc)
    (λ x b q k. search (rules, tests))
    ∙ all_apart c.args.e.now c.args.later.now
