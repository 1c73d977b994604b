-- `host::khl_load` meets its contract: the call's own, and its report. Assumes nothing.
use Rattle.host.proofs.Telling.{tells, writes}
use borrow.Author.Rules.{rules}
use Rattle.host.proofs.khl_load.Goals as goal

pub returns : goal.returns
returns c =
    let call = c.load.ensures in
    writes (tells _ call.told (c.told.ensures.value, c.told.ensures.report_after)) call.written
