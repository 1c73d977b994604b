-- When an entry is legal by itself: document 01's list ("Stored image"), each rule by its name, in the list's order and
-- with its number there; 1, 2 and 10 are the table's.
use Rattle.std.specs.Prelude.{Bool, cond, not, ◌&&◌, ◌||◌, [], ◌∷◌, ℕ, eqb, ltb, leb}
use Rattle.std.specs.Bool.{beq}
use Rattle.octets.specs.Text.{Text, same, within, is_name}
use Rattle.octets.specs.Part.{bare}
use Rattle.octets.specs.First.{Order, first}
use Rattle.keying.specs.Keys.{odd_top}
use Rattle.partner.specs.declared.DataKey.{DataKey}
use Rattle.partner.specs.declared.KeySet.{KeySet}
use Rattle.partner.specs.declared.TopKey.{TopKey}
use Rattle.partner.specs.declared.Sending.{Sending}
use Rattle.partner.specs.declared.Receiving.{Receiving}
use Rattle.partner.specs.declared.Entry.{Entry}
use Rattle.partner.specs.Entry.{blanks, filled, limit, top_of, zero_name, single, pair}
use Rattle.partner.specs.Entry as phase

-- both hold, or neither
abbrev pub exactly : Bool → Bool → Bool
exactly a b = beq a b

-- ---- 3: well-formed names and identities

-- 1 to 16 characters, and nothing but blanks after them
unfoldable pub is_filled : Text → Bool
is_filled s = is_name (bare s) && same s (filled (bare s))

-- a name or none
abbrev pub named_or_none : Text → Bool
named_or_none s = same s blanks || is_filled s

unfoldable pub is_named : DataKey → Bool
is_named k = named_or_none k.name.bytes

-- the names of a set's keys
unfoldable pub set_named : KeySet → Bool
set_named set =
    (ltb set.count 1 || is_named set.first) && (ltb set.count 2 || is_named set.second)

unfoldable pub names_formed : Entry → Bool
names_formed e =
    is_filled e.identity.bytes && is_filled e.top.name.bytes
    && set_named e.sending.outgoing && set_named e.receiving.incoming

-- ---- 4: unused bytes: a single key's second half and unused key places are zero

abbrev pub zero_place : ℕ → Text → Bool
zero_place key name = eqb key 0 && same name zero_name.bytes

unfoldable pub is_unused : DataKey → Bool
is_unused k = zero_place k.key k.name.bytes

unfoldable pub set_clean : KeySet → Bool
set_clean set =
    (leb 1 set.count || is_unused set.first) && (leb 2 set.count || is_unused set.second)

-- one or two keys, well named, the place that is left unused
unfoldable pub keys_formed : KeySet → Bool
keys_formed set = within 1 2 set.count && set_named set && set_clean set

-- a pair, or a single key with no second half
unfoldable pub form_clean : TopKey → Bool
form_clean k = eqb k.form pair || eqb k.form single && eqb k.right 0

unfoldable pub unused_zero : Entry → Bool
unused_zero e =
    form_clean e.top && set_clean e.sending.outgoing && set_clean e.receiving.incoming

-- ---- 5: odd parity of the top key halves in use

unfoldable pub top_odd : TopKey → Bool
top_odd k = odd_top (top_of k)

-- ---- 6: counts 1 to 99,999,999

unfoldable pub counts_right : ℕ → ℕ → Bool
counts_right next_send expected = within 1 limit next_send && within 1 limit expected

-- ---- 7: phase 0 exactly when next send is 1

abbrev pub idle_at_1 : ℕ → ℕ → Bool
idle_at_1 p next_send = exactly (eqb p phase.idle) (eqb next_send 1)

unfoldable pub idle_right : Sending → Bool
idle_right s = idle_at_1 s.phase s.next

-- ---- 8: one or two outgoing keys in phases 1 and 2 and none in 0 and 3

-- one or two keys if so, and none if not
abbrev pub count_if : Bool → ℕ → Bool
count_if so n = cond so (within 1 2 n) (eqb n 0)

abbrev pub count_in_phase : ℕ → ℕ → Bool
count_in_phase p n = leb p phase.broken && count_if (eqb p phase.waiting || eqb p phase.confirmed) n

unfoldable pub outgoing_right : Sending → Bool
outgoing_right s = count_in_phase s.phase s.outgoing.count

-- ---- 9: incoming keys exactly when expected exceeds 1

unfoldable pub incoming_right : Receiving → Bool
incoming_right r = count_if (ltb 1 r.expected) r.incoming.count

-- ---- the list

-- that a rule is broken, with its number
unfoldable pub rules : Entry → Order
rules e =
    (not (names_formed e), 3)
    ∷ (not (unused_zero e), 4)
    ∷ (not (top_odd e.top), 5)
    ∷ (not (counts_right e.sending.next e.receiving.expected), 6)
    ∷ (not (idle_right e.sending), 7)
    ∷ (not (outgoing_right e.sending), 8)
    ∷ (not (incoming_right e.receiving), 9)
    ∷ []

-- the number of the first rule that is broken, 0 where none is
unfoldable pub broken : Entry → ℕ
broken e = first (rules e)

-- none is
unfoldable pub legal : Entry → Bool
legal e = eqb (broken e) 0
