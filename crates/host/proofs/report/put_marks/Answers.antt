-- `host::report::put_marks` meets its contract: number after number. Assumes nothing.
use mathlib.Core.Path.{◌∙◌}
use mathlib.Core.List.{◌++◌, append_assoc}
use Rattle.octets.specs.Number.{bytes}
use Rattle.octets.proofs.Writing.{wrote_rest, wrote_as}
use borrow.Author.Rules.{rules}
use Rattle.host.specs.Report.{mark}
use Rattle.host.proofs.report.put_marks.Goals as goal

pub returns : goal.returns
returns c =
    let third = c in
    let second = third in
    let first = second in
    let r = first.args.r in
    let x = bytes 1 r.service in
    let vector = second.mark.ensures in
    let dated = third.mark-2.ensures in
    let regrouped = append_assoc x (bytes 1 (mark r.vector)) (bytes 1 (mark r.dated)) in
    wrote_as ((λ i. x ++ bytes 1 (vector i) ++ bytes 1 (dated i)) ∙ regrouped)
    (wrote_rest (wrote_rest first.put_number-a.ensures second.put_number.ensures) third.put_number-2.ensures)
