-- Whether each is such a character, and then how many they are.
use Rattle.std.proofs.Common.{rules}
use mathlib.Core.Path.{sym, ◌∙◌}
use borrow.Author.Tests.{tests}
use Rattle.std.proofs.lemmas.Iterator.{YieldsList-from_slice}
use Rattle.std.proofs.lemmas.Iterator.Search.{all_from_yields_List}
use Rattle.octets.specs.Text.{run_char}
use Rattle.octets.proofs.Library.{all_is}
use Rattle.octets.proofs.is_run.Goals as goal

pub returns-then-all : goal.returns-then-all
returns-then-all c =
    let s = c.args.s.now in
    let p = run_char c.args.top in
    let each =
    all_from_yields_List p _ _ c.all.result c.all.ensures.ran (YieldsList-from_slice s cc) (λ y b q k. search (rules, tests)) in
    rw (sym (all_is p s) ∙ sym each ∙ c.if-all.true) (search (rules, tests))
