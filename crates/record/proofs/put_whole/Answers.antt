-- Part after part.
use mathlib.Core.Path.{◌∙◌}
use mathlib.Core.List.{◌++◌, append_assoc}
use Rattle.octets.specs.Codec.{◌followed_by◌, written}
use Rattle.octets.proofs.Writing.{wrote_rest, wrote_as}
use Rattle.partner.specs.Record.{top_layout, counts_layout, set_layout, entry_bytes}
use Rattle.record.proofs.put_whole.Goals as goal

pub returns : goal.returns
unfolding entry_bytes
returns c =
    let third = c in
    let second = third in
    let first = second in
    let e = first.args.e in
    let i = e.identity.bytes in
    let top = written top_layout e.top in
    let counts = written counts_layout (e.sending.next, (e.receiving.expected, e.sending.phase)) in
    let sets = written (set_layout followed_by set_layout) (e.sending.outgoing, e.receiving.incoming) in
    wrote_as (append_assoc (i ++ top) counts sets ∙ append_assoc i top (counts ++ sets))
    (wrote_rest (wrote_rest first.put_front-a.ensures second.put_counts.ensures) third.put_sets.ensures)
