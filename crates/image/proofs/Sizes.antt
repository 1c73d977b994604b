-- The table of sizes holds.
use mathlib.Core.Path.{refl}
use Rattle.image.specs.Image.{record_length, Sizes}

pub sizes : Sizes
unfolding record_length
sizes = record {
  entry = refl;
  front = refl;
  partner_record = refl;
  least = refl;
  most = refl;
  ours_by_kind = refl;
  partner_by_kind = refl;
}
