-- `request::whole_in` meets its contract, part by part. Assumes nothing.
use mathlib.Core.Path.{ap, ◌∙◌}
use Prim.Native.Nat.{◌^◌, ◌%◌}
use native.Mathlib.Omega.{arith}
use Rattle.octets.specs.Text.{Text}
use Rattle.octets.specs.Number.{number}
use Rattle.octets.proofs.Comparing.{octets_lent}
use Rattle.octets.proofs.Parts.{part_cut, part_byte, part_fits}
use Rattle.request.specs.Request.{whole_in}
use Rattle.request.proofs.whole_in.Goals as goal

pub returns : goal.returns
unfolding whole_in
returns c =
    let s = c.args.s.now in
    let o = octets_lent s c.type_inv.s in
    let v = c.number.ensures
    ∙ ap (λ (t : Text). number t % 2 ^ 64) (part_cut 8 52 60 s (omega arith) (omega arith))
    ∙ part_fits 8 52 s o (omega arith) in
    λ i. record {
      count = part_byte 0 s (omega arith) i;
      first = c.key_request_in.ensures i;
      second = c.key_request_in-2.ensures i;
      kind = part_byte 51 s (omega arith) i;
      iv = v i;
      dated = part_byte 60 s (omega arith) i;
      date = c.date_in.ensures i;
      notarized = part_byte 73 s (omega arith) i;
    }
