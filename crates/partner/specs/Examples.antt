-- Worked examples of an entry: two whole records byte by byte, and entries that break one rule each (document 01, "Stored
-- image"). Proved as `examples` in proofs/Examples.antt.
use Rattle.std.specs.Prelude.{◌≡◌, true, false, List, [], ◌∷◌, ◌++◌, ℕ, eqb}
use Prim.Native.String.{String}
use Rattle.octets.specs.Text.{Text, ascii}
use Rattle.octets.specs.First.{Order}
use Rattle.keying.specs.declared.Top.TheVariants.{Single, Pair}
use Rattle.partner.specs.declared.Name.{Name}
use Rattle.partner.specs.declared.DataKey.{DataKey}
use Rattle.partner.specs.declared.KeySet.{KeySet}
use Rattle.partner.specs.declared.Entry.{Entry}
use Rattle.partner.specs.Entry as entries
use Rattle.partner.specs.Entry.{filled, top_of, keys_in}
use Rattle.partner.specs.Legal.{rules, broken, legal}
use Rattle.partner.specs.Record.{entry_bytes, entry_in}
use Rattle.partner.specs.Table.{Table, empties}
use Rattle.partner.specs.Table as tables

-- ---- entries by their fields, names as their 16 bytes

abbrev pub name : String → Name
name w = record { bytes = ascii w }

abbrev pub key : ℕ → Name → DataKey
key k n = record { key = k; name = n }

abbrev pub set : ℕ → DataKey → DataKey → KeySet
set n k l = record { count = n; first = k; second = l }

abbrev pub entry : Name → Name → ℕ → ℕ → ℕ → ℕ → ℕ → ℕ → KeySet → KeySet → Entry
entry identity key_name form left right next expected phase outgoing incoming = record {
  identity = identity;
  top = record { name = key_name; form = form; left = left; right = right };
  sending = record { next = next; phase = phase; outgoing = outgoing };
  receiving = record { expected = expected; incoming = incoming };
}

-- ---- an entry with every field different, and its record

abbrev pub mill : Name
mill = name "MILL            "

abbrev pub top : Name
top = name "TOP1KEY         "

abbrev pub L : ℕ
L = 0x0123456789ABCDEF

abbrev pub R : ℕ
R = 0xFEDCBA9876543210

abbrev pub sent : KeySet
sent = set 2 (key 0x1122334455667788 (name "A1              ")) (key 0x99AABBCCDDEEFF10 (name "ABCDEFGHIJKLMNOP"))

abbrev pub received : KeySet
received = set 2 (key 0x2031425364758697 (name "B23             ")) (key 0xA8B9CADBECFD0E1F (name "C4567           "))

abbrev pub whole : Entry
whole = entry mill top 2 L R 0x01020304 0x05060708 2 sent received

abbrev pub whole_bytes : Text
whole_bytes =
    ascii "MILL            " ++ ascii "TOP1KEY         " ++ 2 ∷ []
    ++ 0x01 ∷ 0x23 ∷ 0x45 ∷ 0x67 ∷ 0x89 ∷ 0xAB ∷ 0xCD ∷ 0xEF ∷ []
    ++ 0xFE ∷ 0xDC ∷ 0xBA ∷ 0x98 ∷ 0x76 ∷ 0x54 ∷ 0x32 ∷ 0x10 ∷ []
    ++ 1 ∷ 2 ∷ 3 ∷ 4 ∷ [] ++ 5 ∷ 6 ∷ 7 ∷ 8 ∷ [] ++ 2 ∷ []
    ++ 2 ∷ []
    ++ 0x11 ∷ 0x22 ∷ 0x33 ∷ 0x44 ∷ 0x55 ∷ 0x66 ∷ 0x77 ∷ 0x88 ∷ [] ++ ascii "A1              "
    ++ 0x99 ∷ 0xAA ∷ 0xBB ∷ 0xCC ∷ 0xDD ∷ 0xEE ∷ 0xFF ∷ 0x10 ∷ [] ++ ascii "ABCDEFGHIJKLMNOP"
    ++ 2 ∷ []
    ++ 0x20 ∷ 0x31 ∷ 0x42 ∷ 0x53 ∷ 0x64 ∷ 0x75 ∷ 0x86 ∷ 0x97 ∷ [] ++ ascii "B23             "
    ++ 0xA8 ∷ 0xB9 ∷ 0xCA ∷ 0xDB ∷ 0xEC ∷ 0xFD ∷ 0x0E ∷ 0x1F ∷ [] ++ ascii "C4567           "

-- ---- an entry with a single key, one outgoing key without a name, none incoming

abbrev pub blanks : Name
blanks = name "                "

abbrev pub zeros : Name
zeros = record { bytes = 0 ∷ 0 ∷ 0 ∷ 0 ∷ 0 ∷ 0 ∷ 0 ∷ 0 ∷ 0 ∷ 0 ∷ 0 ∷ 0 ∷ 0 ∷ 0 ∷ 0 ∷ 0 ∷ [] }

abbrev pub no_key : DataKey
no_key = key 0 zeros

abbrev pub no_set : KeySet
no_set = set 0 no_key no_key

abbrev pub one_set : KeySet
one_set = set 1 (key 0x1122334455667788 blanks) no_key

abbrev pub slight : Entry
slight = entry mill top 1 L 0 2 1 1 one_set no_set

abbrev pub slight_bytes : Text
slight_bytes =
    ascii "MILL            " ++ ascii "TOP1KEY         " ++ 1 ∷ []
    ++ 0x01 ∷ 0x23 ∷ 0x45 ∷ 0x67 ∷ 0x89 ∷ 0xAB ∷ 0xCD ∷ 0xEF ∷ [] ++ 0 ∷ 0 ∷ 0 ∷ 0 ∷ 0 ∷ 0 ∷ 0 ∷ 0 ∷ []
    ++ 0 ∷ 0 ∷ 0 ∷ 2 ∷ [] ++ 0 ∷ 0 ∷ 0 ∷ 1 ∷ [] ++ 1 ∷ []
    ++ 1 ∷ []
    ++ 0x11 ∷ 0x22 ∷ 0x33 ∷ 0x44 ∷ 0x55 ∷ 0x66 ∷ 0x77 ∷ 0x88 ∷ [] ++ ascii "                "
    ++ 0 ∷ 0 ∷ 0 ∷ 0 ∷ 0 ∷ 0 ∷ 0 ∷ 0 ∷ 0 ∷ 0 ∷ 0 ∷ 0 ∷ 0 ∷ 0 ∷ 0 ∷ 0 ∷ 0 ∷ 0 ∷ 0 ∷ 0 ∷ 0 ∷ 0 ∷ 0 ∷ 0 ∷ []
    ++ 0 ∷ []
    ++ 0 ∷ 0 ∷ 0 ∷ 0 ∷ 0 ∷ 0 ∷ 0 ∷ 0 ∷ 0 ∷ 0 ∷ 0 ∷ 0 ∷ 0 ∷ 0 ∷ 0 ∷ 0 ∷ 0 ∷ 0 ∷ 0 ∷ 0 ∷ 0 ∷ 0 ∷ 0 ∷ 0 ∷ []
    ++ 0 ∷ 0 ∷ 0 ∷ 0 ∷ 0 ∷ 0 ∷ 0 ∷ 0 ∷ 0 ∷ 0 ∷ 0 ∷ 0 ∷ 0 ∷ 0 ∷ 0 ∷ 0 ∷ 0 ∷ 0 ∷ 0 ∷ 0 ∷ 0 ∷ 0 ∷ 0 ∷ 0 ∷ []

-- ---- the first entry with some of its fields changed

-- identity and key name; form, left and right of the top key; next send, phase and outgoing; expected and incoming
abbrev pub named : Name → Name → Entry
named identity key_name = entry identity key_name 2 L R 0x01020304 0x05060708 2 sent received

abbrev pub under : ℕ → ℕ → ℕ → Entry
under form left right = entry mill top form left right 0x01020304 0x05060708 2 sent received

abbrev pub sending : ℕ → ℕ → KeySet → Entry
sending next phase outgoing = entry mill top 2 L R next 0x05060708 phase outgoing received

abbrev pub receiving : ℕ → KeySet → Entry
receiving expected incoming = entry mill top 2 L R 0x01020304 expected 2 sent incoming

-- ---- a rule that is broken alone

-- the rules with that one broken and no other
abbrev pub only : ℕ → Order
only n =
    (eqb n 3, 3)
    ∷ (eqb n 4, 4)
    ∷ (eqb n 5, 5)
    ∷ (eqb n 6, 6)
    ∷ (eqb n 7, 7)
    ∷ (eqb n 8, 8)
    ∷ (eqb n 9, 9)
    ∷ []

pub record BreaksAlone (n : ℕ) (e : Entry) : Type 0 where
  pub alone : rules e ≡ only n
  pub number : broken e ≡ n

-- HARBOR's table with these slots
abbrev pub table : List Entry → Table
table slots = record { own = ascii "HARBOR          "; slots = slots }

pub record Examples : Type 0 where
  -- identity 16, key name 16, key form 1, top key 16, next send 4, expected 4, phase 1, outgoing 49, incoming 49
  pub whole_written : entry_bytes whole ≡ whole_bytes
  pub whole_read : entry_in whole_bytes ≡ whole
  pub slight_written : entry_bytes slight ≡ slight_bytes
  pub slight_read : entry_in slight_bytes ≡ slight
  pub wiped : entries.no_keys ≡ no_set
  pub slot_wiped : entries.empty ≡ entry zeros zeros 0 0 0 0 0 0 no_set no_set
  pub name_filled : filled (ascii "MILL") ≡ ascii "MILL            "
  -- the keys of an entry
  pub pair_is_top : top_of whole.top ≡ Pair L R
  pub single_is_top : top_of slight.top ≡ Single L
  pub two_data_keys : keys_in sent ≡ 0x1122334455667788 ∷ 0x99AABBCCDDEEFF10 ∷ []
  pub one_data_key : keys_in one_set ≡ 0x1122334455667788 ∷ []
  pub no_data_key : keys_in no_set ≡ []
  -- legal
  pub whole_is_legal : legal whole ≡ true
  pub slight_is_legal : legal slight ≡ true
  -- each rule broken alone, and its number
  pub rule_3 : BreaksAlone 3 (named mill blanks)
  pub rule_4 : BreaksAlone 4 (under 1 L R)
  pub rule_5 : BreaksAlone 5 (under 1 0x0123456789ABCDEE 0)
  pub rule_6 : BreaksAlone 6 (sending 100_000_000 1 one_set)
  pub rule_7 : BreaksAlone 7 (sending 2 0 no_set)
  pub rule_8 : BreaksAlone 8 (sending 2 1 no_set)
  pub rule_9 : BreaksAlone 9 (receiving 2 no_set)
  -- none broken, and the first of two
  pub no_rule : broken whole ≡ 0
  pub first_of_two : broken (sending 0 0 no_set) ≡ 6
  -- the table's own rules
  pub table_without_slots : tables.broken (table []) ≡ 1
  pub empty_slot_with_a_key_name : tables.broken (table (named zeros top ∷ empties 63)) ≡ 2
  pub own_name_missing : tables.broken (record { own = ascii "                "; slots = empties 64 }) ≡ 3
  pub slot_with_a_broken_rule : tables.broken (table (whole ∷ receiving 2 no_set ∷ empties 62)) ≡ 9
  pub one_identity_twice : tables.broken (table (whole ∷ slight ∷ empties 62)) ≡ 10
  pub our_own_identity : tables.broken (table (named (name "HARBOR          ") top ∷ empties 63)) ≡ 10
  pub table_of_one : tables.broken (table (whole ∷ empties 63)) ≡ 0
  -- well-formed names and identities
  pub identity_of_16 : legal (named (name "ABCDEFGHIJKLMNOP") top) ≡ true
  pub no_identity : legal (named blanks top) ≡ false
  pub small_letters : legal (named (name "Mill            ") top) ≡ false
  pub blank_within : legal (named (name "MI LL           ") top) ≡ false
  pub no_key_name : legal (named mill blanks) ≡ false
  pub names_missing : legal (receiving 2 (set 2 (key 5 blanks) (key 5 blanks))) ≡ true
  pub first_name_of_zeros : legal (receiving 2 (set 2 (key 5 zeros) (key 5 blanks))) ≡ false
  pub second_name_of_zeros : legal (receiving 2 (set 2 (key 5 blanks) (key 5 zeros))) ≡ false
  pub outgoing_name_dotted : legal (sending 2 1 (set 1 (key 5 (name "A.B             ")) no_key)) ≡ false
  -- unused bytes: a single key's second half and unused key places
  pub second_half_of_a_single_key : legal (under 1 L R) ≡ false
  pub form_0 : legal (under 0 L 0) ≡ false
  pub form_3 : legal (under 3 L R) ≡ false
  pub unused_outgoing_key : legal (sending 2 1 (set 1 (key 5 blanks) (key 7 zeros))) ≡ false
  pub unused_incoming_name : legal (receiving 2 (set 1 (key 5 blanks) (key 0 blanks))) ≡ false
  pub unused_first_place : legal (receiving 1 (set 0 (key 7 zeros) no_key)) ≡ false
  -- odd parity of the top key halves in use
  pub single_key : legal (under 1 L 0) ≡ true
  pub even_single_key : legal (under 1 0x0123456789ABCDEE 0) ≡ false
  pub even_left : legal (under 2 0x0123456789ABCDEE R) ≡ false
  pub even_right : legal (under 2 L 0xFEDCBA9876543211) ≡ false
  -- counts 1 to 99,999,999
  pub next_0 : legal (sending 0 1 one_set) ≡ false
  pub next_last : legal (sending 99_999_999 1 one_set) ≡ true
  pub next_over : legal (sending 100_000_000 1 one_set) ≡ false
  pub expected_0 : legal (receiving 0 no_set) ≡ false
  pub expected_last : legal (receiving 99_999_999 received) ≡ true
  pub expected_over : legal (receiving 100_000_000 received) ≡ false
  -- phase 0 exactly when next send is 1
  pub idle_at_1 : legal (sending 1 0 no_set) ≡ true
  pub idle_at_2 : legal (sending 2 0 no_set) ≡ false
  pub waiting_at_1 : legal (sending 1 1 one_set) ≡ false
  pub confirmed_at_1 : legal (sending 1 2 one_set) ≡ false
  pub broken_at_1 : legal (sending 1 3 no_set) ≡ false
  -- one or two outgoing keys in phases 1 and 2 and none in 0 and 3
  pub waiting_with_one : legal (sending 2 1 one_set) ≡ true
  pub waiting_with_two : legal (sending 2 1 sent) ≡ true
  pub waiting_without : legal (sending 2 1 no_set) ≡ false
  pub confirmed_with_one : legal (sending 2 2 one_set) ≡ true
  pub confirmed_without : legal (sending 2 2 no_set) ≡ false
  pub three_outgoing : legal (sending 2 2 (set 3 (key 5 blanks) (key 7 blanks))) ≡ false
  pub broken_without : legal (sending 2 3 no_set) ≡ true
  pub broken_with_one : legal (sending 2 3 one_set) ≡ false
  pub idle_with_one : legal (sending 1 0 one_set) ≡ false
  pub phase_4 : legal (sending 2 4 no_set) ≡ false
  -- incoming keys exactly when expected exceeds 1
  pub expected_1_without : legal (receiving 1 no_set) ≡ true
  pub expected_1_with_one : legal (receiving 1 one_set) ≡ false
  pub expected_2_with_one : legal (receiving 2 one_set) ≡ true
  pub expected_2_without : legal (receiving 2 no_set) ≡ false
  pub three_incoming : legal (receiving 2 (set 3 (key 5 blanks) (key 7 blanks))) ≡ false
