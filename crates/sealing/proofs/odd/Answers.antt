-- Byte by byte.
use Rattle.std.proofs.Common.{rules, tests, ap, ◌%◌, ◌==◌, ◌∙◌}
use Rattle.std.specs.Prelude.{count_ones}
use Rattle.std.specs.List.{list_all}
use Rattle.std.proofs.lemmas.Iterator.{YieldsList-from_slice}
use Rattle.std.proofs.lemmas.Iterator.Search.{all_from_yields_List}
use Rattle.sealing.proofs.Ones.{odd_bytes}
use Rattle.sealing.proofs.odd.Goals as goal

pub returns : goal.returns
returns c =
    all_from_yields_List (λ b. count_ones b % 2 == 1) _ _ _ c.all.ensures.ran (YieldsList-from_slice c.to_be_bytes.result cc)
    (λ x b q k. search (rules, tests))
    ∙ ap (list_all (λ b. count_ones b % 2 == 1)) c.to_be_bytes.ensures
    ∙ odd_bytes c.args.key
