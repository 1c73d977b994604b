-- `host::report::put_report` meets its contract: the report fills its 32 bytes. Assumes nothing.
use mathlib.Core.Path.{◌≡◌, ◌∙◌}
use lib.ListN.{length, length-append}
use Rattle.octets.proofs.Writing.{over_whole}
use Rattle.host.specs.Report.{report_bytes}
use borrow.Author.Rules.{rules}
use Rattle.host.proofs.report.put_report.Goals as goal

pub returns : goal.returns
unfolding report_bytes
returns c =
    let a = c.args in
    let d : length a.r.date.digits ≡ 12 = search rules in
    let h : length a.report.now ≡ 32 = search rules in
    c.put_whole.ensures.text ∙ over_whole (report_bytes a.r) a.report.now (simp (length-append, d, h))
