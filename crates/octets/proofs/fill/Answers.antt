-- Copies of b, as many as there is room for.
use Rattle.std.proofs.Common.{rules, ap, replicate, length-take-le, ◌∙◌, ℕ}
use native.Mathlib.Omega.{arith}
use Rattle.octets.proofs.Library.{wrote_filled}
use Rattle.octets.proofs.fill.Goals as goal

pub returns : goal.returns
returns c =
    let a = c.args in
    wrote_filled a.k a.b c.min-n.ensures
    (c.fill.ensures.after (search rules)
    ∙ ap (λ (n : ℕ). replicate n a.b) (length-take-le c.min-n.result a.rest.now (omega arith)))
