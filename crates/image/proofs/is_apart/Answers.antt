-- `image::is_apart` meets its contract: all are passed where there is none.
use mathlib.Core.Path.{◌≡◌, sym, ap, ◌∙◌}
use Prim.Native.Nat.{ℕ, ◌+◌, ◌-◌}
use native.Mathlib.Omega.{arith}
use lib.ListN.{take, drop}
use Rattle.std.specs.Prelude.{Option, is_some}
use Rattle.octets.specs.Text.{Text}
use Rattle.image.specs.Places.{below, seek_slot}
use Rattle.image.proofs.Steps.{none_is, seek_most}
use Rattle.image.proofs.is_apart.Goals as goal

pub returns : goal.returns
returns c =
    let a = c.args in
    let im : Text = a.image.now in
    let id = take 16 (drop a.identity im) in
    let n : a.identity + 16 - a.identity ≡ 16 = omega arith in
    let so =
    c.seek_named.ensures ∙ ap (λ (n : ℕ). below a.count (seek_slot a.count 0 a.from (take n (drop a.identity im)) im)) n in
    let most = seek_most a.count 0 a.from id im in
    none_is a.count (seek_slot a.count 0 a.from id im) c.is_none.result (omega arith)
    (ap (λ (o : Option ℕ). is_some o) (sym so) ∙ c.is_none.ensures)
