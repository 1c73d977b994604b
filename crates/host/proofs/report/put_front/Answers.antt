-- `host::report::put_front` meets its contract: number after number. Assumes nothing.
use mathlib.Core.List.{append_assoc}
use Rattle.octets.specs.Number.{bytes}
use Rattle.octets.proofs.Writing.{wrote_rest, wrote_as}
use borrow.Author.Rules.{rules}
use Rattle.host.proofs.report.put_front.Goals as goal

pub returns : goal.returns
returns c =
    let third = c in
    let second = third in
    let first = second in
    let r = first.args.r in
    wrote_as (append_assoc (bytes 2 r.letters) (bytes 2 r.length) (bytes 1 r.class))
    (wrote_rest (wrote_rest first.put_number-a.ensures second.put_number.ensures) third.put_number-2.ensures)
