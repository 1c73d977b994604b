-- `host::khl_build_ksm` meets its contract: the call's own, and its report. Assumes nothing.
use Rattle.host.proofs.Telling.{tells, changes_and_writes}
use borrow.Author.Rules.{rules}
use Rattle.host.proofs.khl_build_ksm.Goals as goal

pub returns : goal.returns
returns c =
    let call = c.build_ksm.ensures in
    changes_and_writes (tells _ call.told (c.told.ensures.value, c.told.ensures.report_after)) call.stored call.reply
