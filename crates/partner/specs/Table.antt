-- The partner table: our own identity and 64 slots (document 01, "Partner table" and the list of "Stored image").
use Rattle.std.specs.Prelude.{Bool, true, cond, not, ◌&&◌, ◌||◌, List, [], ◌∷◌, ◌++◌, ℕ, zero, suc, eqb, length, Option, None, Some}
use Rattle.octets.specs.Text.{Text, same}
use Rattle.octets.specs.Number.{copies}
use Rattle.octets.specs.First.{Order, first}
use Rattle.partner.specs.declared.Name.{Name}
use Rattle.partner.specs.declared.Entry.{Entry}
use Rattle.partner.specs.Entry.{empty}
use Rattle.partner.specs.Held.{Held}
use Rattle.partner.specs.Legal as partner
use Rattle.partner.specs.Record.{entry_size, entry_bytes}

-- identities are kept filled with blanks, 16 bytes
pub record Table : Type 0 where
  pub own : Text
  pub slots : List Entry

-- an empty slot is all zero
unfoldable pub is_empty : Entry → Bool
is_empty e = same (entry_bytes e) (copies entry_size 0)

-- ---- legal

-- each slot empty, or its entry legal
unfoldable pub slots_legal : List Entry → Bool
slots_legal [] = true
slots_legal (e ∷ slots) = (is_empty e || partner.legal e) && slots_legal slots

-- the partners' identities, in slot order
abbrev pub identities : List Entry → List Text
identities [] = []
identities (e ∷ slots) = cond (is_empty e) (identities slots) (e.identity.bytes ∷ identities slots)

-- none of these is that one
abbrev pub differs : Text → List Text → Bool
differs id [] = true
differs id (n ∷ names) = not (same n id) && differs id names

-- they differ from each other
abbrev pub apart : List Text → Bool
apart [] = true
apart (n ∷ names) = differs n names && apart names

-- 64 slots; names, bytes, parity, counts, phases and keys as they must be; identities that differ from each other and
-- from the card's own
unfoldable pub legal : Table → Bool
legal t =
    eqb (length t.slots) 64 && partner.is_filled t.own && slots_legal t.slots
    && apart (t.own ∷ identities t.slots)

-- ---- the rules in a list: that a rule is broken, with its number

-- an empty slot is all zero (2); one that is not all zero has an identity, and an entry's rules
unfoldable pub slot_rules : Entry → Order
slot_rules e = cond (is_empty e) [] ((same e.identity.bytes (copies 16 0), 2) ∷ partner.rules e)

-- slot by slot
unfoldable pub slots_rules : List Entry → Order
slots_rules [] = []
slots_rules (e ∷ slots) = slot_rules e ++ slots_rules slots

-- 64 slots (1); our own identity well-formed (3); the slots' rules; identities that differ from each other and from the
-- card's own (10)
unfoldable pub rules : Table → Order
rules t =
    (not (eqb (length t.slots) 64), 1)
    ∷ (not (partner.is_filled t.own), 3)
    ∷ (slots_rules t.slots ++ ((not (apart (t.own ∷ identities t.slots)), 10) ∷ []))

-- the number of the first rule that is broken, 0 where none is: then, and only then, the table is legal
unfoldable pub broken : Table → ℕ
broken t = first (rules t)

-- ---- one partner's slot

-- the entry of a partner
abbrev pub find : Text → List Entry → Option Entry
find id [] = None
find id (e ∷ slots) = cond (same e.identity.bytes id) (Some e) (find id slots)

-- that partner's slot, and no other, given new contents
abbrev pub put : Text → Entry → List Entry → List Entry
put id x [] = []
put id x (e ∷ slots) = cond (same e.identity.bytes id) (x ∷ slots) (e ∷ put id x slots)

-- an entry in the lowest free slot; none where all are in use
abbrev pub behind : Entry → Option (List Entry) → Option (List Entry)
behind e None = None
behind e (Some slots) = Some (e ∷ slots)

abbrev pub into_free_slot : Entry → List Entry → Option (List Entry)
into_free_slot x [] = None
into_free_slot x (e ∷ slots) = cond (is_empty e) (Some (x ∷ slots)) (behind e (into_free_slot x slots))

-- a partner's slot emptied
abbrev pub take_out : Text → List Entry → List Entry
take_out id slots = put id empty slots

-- the table with other slots
abbrev pub holding : Table → List Entry → Table
holding t slots = record { own = t.own; slots = slots }

-- a table with our identity and 64 empty slots
unfoldable pub empties : ℕ → List Entry
empties zero = []
empties (suc n) = empty ∷ empties n

abbrev pub started : Name → Table
started own = record { own = own.bytes; slots = empties 64 }

-- the fields of every entry fit their types
abbrev pub AllHeld : List Entry → Type 0
AllHeld [] = Unit {0}
AllHeld (e ∷ slots) = Held e × AllHeld slots
