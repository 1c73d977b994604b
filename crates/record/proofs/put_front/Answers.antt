-- Names, then form and top key.
use mathlib.Core.List.{append_assoc}
use Rattle.octets.specs.Codec.{numeral, ◌followed_by◌, written}
use Rattle.octets.proofs.Writing.{wrote_rest, wrote_as}
use Rattle.record.proofs.put_front.Goals as goal

pub returns : goal.returns
returns c =
    let second = c in
    let first = second in
    let e = first.args.e in
    let k = e.top in
    let key = written (numeral 1 followed_by numeral 8 followed_by numeral 8) (k.form, (k.left, k.right)) in
    wrote_as (append_assoc e.identity.bytes k.name.bytes key)
    (wrote_rest first.put_names-a.ensures second.put_top.ensures)
