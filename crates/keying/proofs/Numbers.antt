-- The numbers hold, by computation.
use mathlib.Core.Path.{refl}
use Rattle.keying.specs.Parity.{odd, odd_byte}
use Rattle.keying.specs.Keys.{odd_top}
use Rattle.keying.specs.Working.{offset}
use Rattle.keying.specs.Numbers.{Numbers}

pub numbers : Numbers
unfolding odd odd_byte offset odd_top
numbers = record {
  key_is_odd = refl;
  byte_03_is_even = refl;
  byte_00_is_even = refl;
  byte_FE_is_odd = refl;
  offset_by_258 = refl;
  first_byte_even = refl;
  last_byte_even = refl;
  single_key_odd = refl;
  single_key_even = refl;
  both_halves_odd = refl;
  left_half_even = refl;
  right_half_even = refl;
}
