-- K bytes fit.
use mathlib.Core.Path.{◌≡◌, ap, ◌∙◌}
use Prim.Native.Nat.{◌^◌, ◌%◌}
use native.Mathlib.Omega.{arith}
use Rattle.octets.specs.Text.{Text}
use Rattle.octets.specs.Number.{number}
use Rattle.octets.specs.Codec.{numeral, value_at}
use Rattle.octets.proofs.Comparing.{octets_lent}
use Rattle.octets.proofs.Parts.{part_fits}
use Rattle.octets.proofs.Codecs.{fits_read}
use Rattle.record.proofs.number_in.Goals as goal

pub returns : goal.returns
returns g c =
    let k = g.row.K in
    let a = c.args in
    let o = octets_lent a.s.now c.type_inv.s in
    let r : c.number.result ≡ value_at (numeral k) a.at a.s.now =
    c.number.ensures ∙ ap (λ (t : Text). number t % 2 ^ 64) c.bytes_in.ensures ∙ part_fits k a.at a.s.now o c.requires in
    record { value = r; upper_bound = omega (arith, r, fits_read (numeral k) a.at a.s.now o) }
