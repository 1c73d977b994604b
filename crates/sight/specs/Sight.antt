-- What is seen of a row: one pass over its slots, which tells whether it is legal and where the slot is that is sought.
use Rattle.std.specs.Prelude.{Bool, true, false, cond, not, ◌&&◌, ◌||◌, List, [], ◌∷◌, ℕ, ◌+◌, eqb, length, set, Option, None, Some, is_some}
use Rattle.std.specs.Option.{option_or}
use Rattle.octets.specs.Text.{same}
use Rattle.partner.specs.declared.Name.{Name}
use Rattle.partner.specs.declared.Entry.{Entry}
use Rattle.partner.specs.Entry.{empty}
use Rattle.partner.specs.Legal as partner
use Rattle.partner.specs.Table.{is_empty, identities, differs}
use Rattle.sight.specs.declared.aims.Aim.{Aim}
use Rattle.sight.specs.declared.Sight.{Sight}
use Rattle.sight.specs.declared.Found.{Found}

-- a later slot does not have the identity of e
unfoldable pub differ : Entry → Entry → Bool
differ e later = is_empty later || not (same later.identity.bytes e.identity.bytes)

-- an entry has that identity; none has one that is no name
abbrev pub is_of : Option Name → Entry → Bool
is_of None e = false
is_of (Some n) e = same e.identity.bytes n.bytes

-- a slot is as it must be: empty, or a legal entry with an identity of its own
unfoldable pub slot_legal : Aim → Entry → Bool → Bool
slot_legal a e apart = is_empty e || (apart && not (same e.identity.bytes a.own.bytes) && partner.legal e)

-- it is the partner's
unfoldable pub is_theirs : Aim → Entry → Bool
is_theirs a e = is_of a.partner e

-- it is the one that is sought: a free one, or the partner's
unfoldable pub is_sought : Aim → Entry → Bool
is_sought a e = cond a.vacant (is_empty e) (is_theirs a e)

-- the number of the slot at a place, where it is that one
abbrev pub sought_at : Aim → ℕ → Entry → Option ℕ
sought_at a at e = cond (is_sought a e) (Some at) None

-- nothing is seen yet
abbrev pub unseen : Sight
unseen = record { legal = true; taken = false; slot = None; entry = empty }

-- the slot at a place is seen: the first that is sought stays
unfoldable pub see : Aim → Sight → ℕ → Entry → Bool → Sight
see a s at e apart = record {
  legal = s.legal && slot_legal a e apart;
  taken = s.taken || is_theirs a e;
  slot = option_or s.slot (sought_at a at e);
  entry = cond (is_some s.slot) s.entry (cond (is_sought a e) e s.entry);
}

-- the slots from a place on
unfoldable pub pass : Aim → Sight → ℕ → List Entry → Sight
pass a s at [] = s
pass a s at (e ∷ slots) =
    pass a (see a s at e (differs e.identity.bytes (identities slots))) (at + 1) slots

-- all slots are seen: 64 of them and our own identity well-formed, or it is not legal
unfoldable pub concluded : Aim → Sight → ℕ → Sight
concluded a s count = record {
  legal = (s.legal && eqb count 64) && a.ours;
  taken = s.taken;
  slot = s.slot;
  entry = s.entry;
}

unfoldable pub survey : Aim → List Entry → Sight
survey a slots = concluded a (pass a unseen 0 slots) (length slots)

-- ---- the slot that was found

-- the slots with new contents there; where there is none, as they were
abbrev pub put_in : Option ℕ → Entry → List Entry → List Entry
put_in None x slots = slots
put_in (Some at) x slots = set slots at x

-- ---- the answer to who asks for an entry, the number of its slot and the entry

abbrev pub shown_at : ℕ → ℕ → Entry → Found
shown_at n slot e = record { answer = n; slot = slot; entry = e }

-- 3
abbrev pub shown_in : Option ℕ → Entry → Found
shown_in None e = shown_at 3 64 empty
shown_in (Some at) e = shown_at 0 at e

-- 13, then these; past the last slot and an empty entry with a refusal
unfoldable pub shown : Sight → Found
shown s = cond s.legal (shown_in s.slot s.entry) (shown_at 13 64 empty)
