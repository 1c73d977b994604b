-- The examples hold, by computation.
use mathlib.Core.Path.{refl}
use Rattle.partner.proofs.Examples.{computes as computes_entry}
use Rattle.partner.specs.Table.{is_empty, slots_legal, legal, empties}
use Rattle.image.specs.Image.{record_length, slot_bytes, encode, slot_in, slots_in, table_in, decode}
use Rattle.image.specs.Examples.{Examples}

-- what is opened for an example to be computed
unfoldable pub computes : Unit {0}
unfolding
    computes_entry is_empty slots_legal legal empties record_length slot_bytes encode slot_in slots_in table_in decode
computes = tt

pub examples : Examples
unfolding computes
examples = record {
  small_written = refl;
  small_read = refl;
  small_length = refl;
  byte_too_many = refl;
  byte_too_few = refl;
  kind_3 = refl;
  front_of_kind_2 = refl;
  no_bytes = refl;
  started_empty = refl;
  sixty_three_slots = refl;
  sixty_five_slots = refl;
  own_malformed = refl;
  empty_with_a_byte = refl;
  entry_not_legal = refl;
  own_among_partners = refl;
  two_alike = refl;
  two_that_differ = refl;
  found_behind_others = refl;
  found_nowhere = refl;
  given_new_contents = refl;
  emptied = refl;
  lowest_taken = refl;
  none_free = refl;
}
