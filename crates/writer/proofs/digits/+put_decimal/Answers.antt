-- `writer::digits::put_decimal` meets its contract: the digits before the last, and the last. Assumes nothing.
use mathlib.Core.Path.{◌≡◌, sym, ap, ◌∙◌}
use mathlib.Core.List.{[], ◌∷◌, ◌++◌}
use Prim.Native.Nat.{ℕ, ◌/◌}
use native.Mathlib.Omega.{arith}
use Rattle.csm.specs.Fields.{decimal}
use Rattle.writer.proofs.Numerals.{decimal_one, decimal_more}
use Rattle.octets.proofs.Writing.{wrote_rest, wrote_as}
use Rattle.writer.proofs.digits.+put_decimal.Goals as goal

pub returns-then-n-lt10 : goal.returns-then-n-lt10
returns-then-n-lt10 t c =
    let e = ap (λ (x : ℕ). x ∷ []) c.digit.ensures ∙ sym (decimal_one c.args.n (omega arith)) in
    wrote_as e c.fill.ensures

pub returns : goal.returns
returns t c =
    let n = c.args.n in
    let e : decimal 7 (n / 10) ++ c.digit-2.result ∷ [] ≡ decimal 7 n =
    ap (λ (x : ℕ). decimal 7 (n / 10) ++ x ∷ []) c.digit-2.ensures
    ∙ sym (decimal_more n (omega arith) (omega arith)) in
    wrote_as e (wrote_rest c.put_decimal-k.ensures c.fill-2.ensures)
