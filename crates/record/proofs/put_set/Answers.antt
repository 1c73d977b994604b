-- Number, then place after place.
use mathlib.Core.List.{append_assoc}
use Rattle.octets.specs.Number.{bytes}
use Rattle.octets.specs.Codec.{written}
use Rattle.octets.proofs.Writing.{wrote_rest, wrote_as}
use Rattle.partner.specs.Record.{place_layout}
use Rattle.record.proofs.put_set.Goals as goal

pub returns : goal.returns
returns c =
    let third = c in
    let second = third in
    let first = second in
    let s = first.args.set in
    wrote_as (append_assoc (bytes 1 s.count) (written place_layout s.first) (written place_layout s.second))
    (wrote_rest (wrote_rest first.put_number-a.ensures second.put_place.ensures) third.put_place-2.ensures)
