-- What is left of the text from the place on is copied over K zeros.
use mathlib.Core.Path.{◌≡◌, sym, ap, ◌∙◌}
use Prim.Native.Nat.{◌-◌}
use lib.ListN.{length, take, drop, replicate}
use Rattle.octets.specs.Text.{Text}
use Rattle.octets.specs.Wrote.{over}
use Rattle.octets.proofs.Library.{rest_from, copies_is}
use Rattle.octets.proofs.Parts.{over_copies}
use Rattle.record.proofs.bytes_in.Goals as goal

pub returns : goal.returns
returns g c =
    let k = g.row.K in
    let a = c.args in
    let s : Text = a.s.now in
    let rest : take (length s - c.min.result) (drop c.min.result s) ≡ drop a.at s = rw c.min.ensures (rest_from a.at s) in
    c.copy.ensures.text ∙ ap (λ (t : Text). over t (replicate k 0)) rest
    ∙ ap (over (drop a.at s)) (sym (copies_is k 0)) ∙ over_copies (drop a.at s) k 0
