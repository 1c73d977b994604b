-- The examples hold, by computation.
use mathlib.Core.Path.{refl}
use Rattle.octets.specs.Number.{number}
use Rattle.request.specs.Request.{whole_in, request_in}
use Rattle.request.specs.Examples.{Examples}

pub examples : Examples
unfolding number whole_in request_in
examples = record {
  request_length = refl;
  request_read = refl;
  one_byte_short = refl;
  one_byte_long = refl;
}
