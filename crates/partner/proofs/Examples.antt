-- The examples hold, by computation.
use mathlib.Core.Path.{refl}
use Rattle.octets.specs.Number.{number}
use Rattle.keying.specs.Parity.{odd, odd_byte}
use Rattle.keying.specs.Keys.{odd_top}
use Rattle.partner.specs.Entry.{empty, filled, top_of, places, keys_in}
use Rattle.partner.specs.Legal.{is_filled, is_named, set_named, names_formed, is_unused, set_clean, form_clean}
use Rattle.partner.specs.Legal.{unused_zero, top_odd, counts_right, idle_right, outgoing_right, incoming_right, rules, broken, legal}
use Rattle.partner.specs.Record.{entry_bytes, entry_in}
use Rattle.partner.specs.Table.{is_empty, empties, slot_rules, slots_rules}
use Rattle.partner.specs.Table as tables
use Rattle.partner.specs.Examples.{Examples}

-- what is opened for an example to be computed
unfoldable pub computes : Unit {0}
unfolding
    number odd odd_byte odd_top empty filled top_of places keys_in
    is_filled is_named set_named names_formed is_unused set_clean form_clean unused_zero top_odd counts_right idle_right
    outgoing_right incoming_right rules broken legal
    entry_bytes entry_in
    is_empty empties slot_rules slots_rules tables.rules tables.broken
computes = tt

pub examples : Examples
unfolding computes
examples = record {
  whole_written = refl;
  whole_read = refl;
  slight_written = refl;
  slight_read = refl;
  wiped = refl;
  slot_wiped = refl;
  name_filled = refl;
  pair_is_top = refl;
  single_is_top = refl;
  two_data_keys = refl;
  one_data_key = refl;
  no_data_key = refl;
  whole_is_legal = refl;
  slight_is_legal = refl;
  rule_3 = record { alone = refl; number = refl };
  rule_4 = record { alone = refl; number = refl };
  rule_5 = record { alone = refl; number = refl };
  rule_6 = record { alone = refl; number = refl };
  rule_7 = record { alone = refl; number = refl };
  rule_8 = record { alone = refl; number = refl };
  rule_9 = record { alone = refl; number = refl };
  no_rule = refl;
  first_of_two = refl;
  table_without_slots = refl;
  empty_slot_with_a_key_name = refl;
  own_name_missing = refl;
  slot_with_a_broken_rule = refl;
  one_identity_twice = refl;
  our_own_identity = refl;
  table_of_one = refl;
  identity_of_16 = refl;
  no_identity = refl;
  small_letters = refl;
  blank_within = refl;
  no_key_name = refl;
  names_missing = refl;
  first_name_of_zeros = refl;
  second_name_of_zeros = refl;
  outgoing_name_dotted = refl;
  second_half_of_a_single_key = refl;
  form_0 = refl;
  form_3 = refl;
  unused_outgoing_key = refl;
  unused_incoming_name = refl;
  unused_first_place = refl;
  single_key = refl;
  even_single_key = refl;
  even_left = refl;
  even_right = refl;
  next_0 = refl;
  next_last = refl;
  next_over = refl;
  expected_0 = refl;
  expected_last = refl;
  expected_over = refl;
  idle_at_1 = refl;
  idle_at_2 = refl;
  waiting_at_1 = refl;
  confirmed_at_1 = refl;
  broken_at_1 = refl;
  waiting_with_one = refl;
  waiting_with_two = refl;
  waiting_without = refl;
  confirmed_with_one = refl;
  confirmed_without = refl;
  three_outgoing = refl;
  broken_without = refl;
  broken_with_one = refl;
  idle_with_one = refl;
  phase_4 = refl;
  expected_1_without = refl;
  expected_1_with_one = refl;
  expected_2_with_one = refl;
  expected_2_without = refl;
  three_incoming = refl;
}
