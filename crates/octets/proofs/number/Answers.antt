-- Eight bytes at once, and others byte by byte.
use mathlib.Core.Path.{◌≡◌, ap, ◌∙◌, sym}
use Prim.Native.Nat.{◌+◌, ◌*◌, ◌^◌, ◌%◌}
use native.Mathlib.Omega.{arith}
use Rattle.std.proofs.Common.{rules}
use Rattle.std.specs.List.{fold}
use Rattle.std.specs.Int.{from_be_bytes, w64}
use Rattle.octets.specs.Number.{number}
use Rattle.octets.proofs.Comparing.{octets_lent}
use Rattle.octets.proofs.Numbers.{number_fits}
use Rattle.octets.proofs.Library.{fold_is, from_bytes_is}
use Rattle.octets.proofs.number.Goals as goal

pub returns-in-Some : goal.returns-in-Some
returns-in-Some c =
    let s = c.args.s.now in
    let whole = c.in-Some.ensures.cases in
    c.from_be_bytes.ensures ∙ ap (from_be_bytes w64) whole.same ∙ from_bytes_is s whole.long
    ∙ sym (number_fits s (octets_lent s c.type_inv.s) (omega (arith, whole.long)))

pub returns-in-None : goal.returns-in-None
unfolding number
returns-in-None c =
    let s = c.args.s.now in
    let folded : c.fold.result ≡ fold (λ x b. x * 2 ^ 8 % 2 ^ 64 + b) 0 s = search rules in
    folded ∙ fold_is 0 s (octets_lent s c.type_inv.s)
