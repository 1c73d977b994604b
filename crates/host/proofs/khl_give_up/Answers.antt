-- `host::khl_give_up` meets its contract: the call's own, and its report. Assumes nothing.
use Rattle.host.proofs.Telling.{tells, changes}
use borrow.Author.Rules.{rules}
use Rattle.host.proofs.khl_give_up.Goals as goal

pub returns : goal.returns
returns c =
    let call = c.give_up.ensures in
    changes (tells _ call.told (c.told.ensures.value, c.told.ensures.report_after)) call.stored
