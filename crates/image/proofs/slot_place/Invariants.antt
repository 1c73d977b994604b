-- `image::slot_place` meets its contract: the way from here on is the whole way.
use mathlib.Core.Path.{◌≡◌}
use Prim.Native.Nat.{◌+◌, ◌-◌, ◌*◌, ◌≤◌}
use Rattle.image.specs.Image.{front_size, partner_size}
use Rattle.image.specs.Places.{past}
use Rattle.image.proofs.slot_place.Given as goal

abbrev pub invariant-loop : goal.invariant-loop
invariant-loop l = record {
  near : l.at ≤ front_size + partner_size * l.counter;
  so : past l.slot front_size l.image ≡ past (l.slot - l.counter) l.at l.image;
}
