-- `request::key_request_in` meets its contract, part by part. Assumes nothing.
use mathlib.Core.Path.{◌≡◌, ap, ◌∙◌}
use Prim.Native.Nat.{◌+◌, ◌^◌, ◌%◌}
use native.Mathlib.Omega.{arith}
use Rattle.octets.specs.Text.{Text}
use Rattle.octets.specs.Number.{number}
use Rattle.octets.specs.Codec.{part_or_zeros}
use Rattle.octets.proofs.Comparing.{octets_lent}
use Rattle.octets.proofs.Parts.{length_part, part_cut, part_byte, part_fits}
use Rattle.partner.specs.Entry.{name_of}
use Rattle.request.proofs.Names.{name_whole}
use Rattle.request.proofs.key_request_in.Goals as goal

pub returns : goal.returns
returns c =
    let s = c.args.s.now in
    let n = c.args.at in
    let o = octets_lent s c.type_inv.s in
    let k = c.number.ensures
    ∙ ap (λ (t : Text). number t % 2 ^ 64) (part_cut 8 n (n + 8) s (omega arith) (omega arith))
    ∙ part_fits 8 n s o (omega arith) in
    let f = part_byte (n + 8) s (omega arith) in
    let behind : n + 9 ≡ n + 8 + 1 = omega arith in
    let m : c.name_of.result ≡ record { bytes = part_or_zeros 16 (n + 8 + 1) s } = c.name_of.ensures
    ∙ ap name_of (part_cut 16 (n + 9) (n + 25) s (omega arith) (omega arith))
    ∙ name_whole (part_or_zeros 16 (n + 9) s) (length_part 16 (n + 9) s)
    ∙ λ i. record { bytes = part_or_zeros 16 (behind i) s } in
    λ i. record { key = k i; flags = f i; name = m i }
