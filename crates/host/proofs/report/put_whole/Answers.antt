-- `host::report::put_whole` meets its contract: part after part. Assumes nothing.
use mathlib.Core.List.{append_assoc}
use Rattle.octets.specs.Codec.{written}
use Rattle.octets.proofs.Writing.{wrote_rest, wrote_as}
use Rattle.host.specs.Report.{front_layout, front_of, marks_layout, marks_of, values_layout, values_of, report_bytes}
use borrow.Author.Rules.{rules}
use Rattle.host.proofs.report.put_whole.Goals as goal

pub returns : goal.returns
unfolding report_bytes
returns c =
    let third = c in
    let second = third in
    let first = second in
    let r = first.args.r in
    let values = written values_layout (values_of r) in
    wrote_as (append_assoc (written front_layout (front_of r)) (written marks_layout (marks_of r)) values)
    (wrote_rest (wrote_rest first.put_front-a.ensures second.put_marks.ensures) third.put_values.ensures)
