-- The front and the slots so far are counted.
use Rattle.std.proofs.Common.{length, ◌≡◌, drop, ◌+◌, ◌*◌, ◌≤◌}
use Rattle.image.specs.Image.{front_size, partner_size, slots_bytes}
use Rattle.row.specs.Stored.{size}
use Rattle.row.proofs.stored.size.Given as goal

abbrev pub invariant-loop-e : goal.invariant-loop-e
invariant-loop-e l = record {
  bound : l.size ≤ front_size + l.e-index * partner_size;
  so : size l.row ≡ l.size + length (slots_bytes (drop l.e-index l.row));
}
