-- `image::free_slot` meets its contract: the search from here on is the whole search.
use mathlib.Core.Path.{◌≡◌}
use Prim.Native.Nat.{◌+◌, ◌-◌, ◌*◌, ◌≤◌}
use Rattle.image.specs.Image.{front_size, partner_size}
use Rattle.image.specs.Places.{seek_free}
use Rattle.image.proofs.free_slot.Given as goal

abbrev pub invariant-loop-slot : goal.invariant-loop-slot
invariant-loop-slot l = record {
  near : l.at ≤ front_size + partner_size * l.slot;
  so : seek_free 64 0 front_size l.image ≡ seek_free (64 - l.slot) l.slot l.at l.image;
}
