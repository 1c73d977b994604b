-- `image::records::seek` meets its contract: the search from here on is the whole search.
use mathlib.Core.Path.{◌≡◌}
use Prim.Native.Nat.{◌+◌, ◌-◌, ◌*◌, ◌≤◌}
use Rattle.octets.specs.Number.{of_numbers}
use Rattle.image.specs.Image.{partner_size}
use Rattle.image.specs.Places.{seek_slot}
use Rattle.image.proofs.records.seek.Given as goal

abbrev pub invariant-loop-slot : goal.invariant-loop-slot
invariant-loop-slot l = record {
  near : l.at ≤ l.from + partner_size * l.slot;
  so : seek_slot l.count 0 l.from (of_numbers l.first l.second) l.image
      ≡ seek_slot (l.count - l.slot) l.slot l.at (of_numbers l.first l.second) l.image;
}
