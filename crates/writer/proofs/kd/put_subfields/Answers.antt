-- `writer::kd::put_subfields` meets its contract where there are all three. Assumes nothing.
use mathlib.Core.Path.{◌≡◌}
use mathlib.Core.Bool.{Bool}
use mathlib.Core.List.{[], ◌∷◌, ◌++◌, append_assoc}
use Prim.Native.Nat.{◌<◌}
use native.Mathlib.Omega.{arith}
use lib.ListN.{length}
use Rattle.std.proofs.lemmas.Bool.Decides.{nat_tests}
use Rattle.octets.specs.Text.{Text}
use Rattle.octets.proofs.Writing.{wrote_rest, wrote_as}
use Rattle.csm.specs.Fields.{sub, mark, subfields, nonempty}
use Rattle.writer.proofs.kd.put_subfields.Goals as goal

-- all three subfields
three : (p : Bool) (i j : Text) → 0 < length j
    → (sub (mark p) ++ sub i) ++ sub j ≡ subfields p (nonempty i) (nonempty j)
three p i [] h = absurd (omega arith)
three p [] (y ∷ j) h = append_assoc (sub (mark p)) (sub []) (sub (y ∷ j))
three p (x ∷ i) (y ∷ j) h = append_assoc (sub (mark p)) (sub (x ∷ i)) (sub (y ∷ j))

pub returns-then-not-is_empty : goal.returns-then-not-is_empty
returns-then-not-is_empty c =
    let a = c.args in
    wrote_as (three a.p a.idk1.now a.idk2.now (grind (arith, nat_tests))) (search wrote_rest)
