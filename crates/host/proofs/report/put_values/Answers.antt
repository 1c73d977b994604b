-- `host::report::put_values` meets its contract: the IV, the digits, then the zeros. Assumes nothing.
use mathlib.Core.List.{append_assoc}
use Rattle.octets.specs.Number.{bytes, copies}
use Rattle.octets.proofs.Writing.{wrote_rest, wrote_as}
use borrow.Author.Rules.{rules}
use Rattle.host.proofs.report.put_values.Goals as goal

pub returns : goal.returns
returns c =
    let third = c in
    let second = third in
    let first = second in
    let r = first.args.r in
    wrote_as (append_assoc (bytes 8 r.iv) r.date.digits (copies 4 0))
    (wrote_rest (wrote_rest first.put_number-a.ensures second.copy.ensures) third.fill.ensures)
