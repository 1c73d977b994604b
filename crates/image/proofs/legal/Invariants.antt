-- `image::legal` meets its contract: what the pass asks from here on is what is asked of the image.
use mathlib.Core.Path.{◌≡◌}
use Prim.Native.Nat.{◌+◌, ◌*◌, ◌≤◌}
use Rattle.octets.specs.Part.{found}
use Rattle.image.specs.Image.{decode, partner_size, largest}
use Rattle.image.proofs.Passes.{records_legal}
use Rattle.image.proofs.legal.Given as goal

abbrev pub invariant-loop-left : goal.invariant-loop-left
invariant-loop-left l = record {
  near : l.at + partner_size * l.left ≤ largest;
  so : found (decode l.image) ≡ records_legal l.left l.at l.image;
}
