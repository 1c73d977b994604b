-- Every byte is asked.
use Rattle.std.proofs.Common.{rules, ◌∙◌}
use borrow.Author.Tests.{tests}
use Rattle.std.proofs.lemmas.Iterator.{YieldsList-from_slice}
use Rattle.std.proofs.lemmas.Iterator.Search.{all_from_yields_List}
use Rattle.csm.specs.Message.{text_char}
use Rattle.octets.proofs.Library.{all_is}
use Rattle.reader.proofs.options.is_text.Goals as goal

pub returns : goal.returns
returns c =
    let s = c.args.s.now in
    all_from_yields_List text_char _ _ c.all.result c.all.ensures.ran (YieldsList-from_slice s cc) (λ y b q k. search (rules, tests))
    ∙ all_is text_char s
