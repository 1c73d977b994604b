-- The examples hold, by computation.
use mathlib.Core.Path.{refl}
use Rattle.octets.specs.Number.{number}
use Rattle.dea.specs.Chain.{first_block, blocks_of, chained}
use Rattle.dea.proofs.Vectors.{computes}
use Rattle.keying.specs.Keys.{seal}
use Rattle.keying.specs.Working.{offset, first_half, second_half, add_characters, notary, notarizing, working}
use Rattle.keying.specs.Mac.{mac_key, mac}
use Rattle.keying.specs.Iv.{last_key, conceal}
use Rattle.keying.specs.Examples.{Examples}

pub examples : Examples
unfolding
    computes number first_block blocks_of chained offset first_half second_half add_characters notary notarizing working seal
    mac_key mac last_key conceal
examples = record {
  under_a_single_key = refl;
  under_a_pair = refl;
  FM1 = refl;
  FM2 = refl;
  TO1 = refl;
  TO2 = refl;
  notarizing_key = refl;
  other_way_round = refl;
  notarizing_pair = refl;
  notarized = refl;
  notarized_under_a_pair = refl;
  replicated_alike = refl;
  one_mac_key = refl;
  two_mac_keys = refl;
  short_last_block = refl;
  full_last_block = refl;
  four_blocks = refl;
  iv_under_one_key = refl;
  iv_under_the_second = refl;
}
