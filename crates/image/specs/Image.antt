-- The stored image (document 01, "Stored image"): records of one byte of kind and a body whose length the kind fixes.
use Rattle.std.specs.Prelude.{◌≡◌, cond, ◌&&◌, List, [], ◌∷◌, ◌++◌, ℕ, zero, suc, ◌+◌, ◌*◌, eqb, take, drop, get_or, Option, None, Some}
use Rattle.octets.specs.Text.{Text, same}
use Rattle.partner.specs.declared.Entry.{Entry}
use Rattle.partner.specs.Entry.{empty}
use Rattle.partner.specs.Record.{entry_size, entry_bytes, entry_in}
use Rattle.partner.specs.Table.{Table, is_empty, legal}

-- ---- kinds: 0 an empty slot, 1 our identity, 2 a partner

abbrev pub vacant : ℕ
vacant = 0

abbrev pub ours : ℕ
ours = 1

abbrev pub partner : ℕ
partner = 2

-- the kinds, each with the length of its body
abbrev pub kinds : List (ℕ × ℕ)
kinds = (vacant, 0) ∷ (ours, 16) ∷ (partner, entry_size) ∷ []

-- the body's length of a kind, where it is one of these
abbrev pub body : List (ℕ × ℕ) → ℕ → ℕ
body [] kind = 0
body (row ∷ rows) kind = cond (eqb kind row.0) row.1 (body rows kind)

-- the length of a record by its kind: the kind's byte and the body
unfoldable pub record_length : ℕ → ℕ
record_length kind = 1 + body kinds kind

-- ---- sizes: our identity's record, a partner's, the image of 64 empty slots and of 64 partners

abbrev pub front_size : ℕ
front_size = 1 + 16

abbrev pub partner_size : ℕ
partner_size = 1 + entry_size

abbrev pub smallest : ℕ
smallest = front_size + 64

abbrev pub largest : ℕ
largest = front_size + 64 * partner_size

-- what they are in numbers, and by the table of kinds; proved as `sizes` in proofs/Sizes.antt
pub record Sizes : Type 0 where
  pub entry : entry_size ≡ 156
  pub front : front_size ≡ 17
  pub partner_record : partner_size ≡ 157
  pub least : smallest ≡ 81
  pub most : largest ≡ 10_065
  pub ours_by_kind : record_length ours ≡ front_size
  pub partner_by_kind : record_length partner ≡ partner_size

-- ---- writing

-- kind 0 (no body) or kind 2 (the entry's record)
unfoldable pub slot_bytes : Entry → Text
slot_bytes e = cond (is_empty e) (vacant ∷ []) (partner ∷ entry_bytes e)

-- the records in slot order
abbrev pub slots_bytes : List Entry → Text
slots_bytes [] = []
slots_bytes (e ∷ slots) = slot_bytes e ++ slots_bytes slots

-- first kind 1 (16 bytes: our identity), then the slots
unfoldable pub encode : Table → Text
encode t = ours ∷ (t.own ++ slots_bytes t.slots)

-- ---- reading: the table that the bytes hold, taken at their word

unfoldable pub slot_in : Text → Entry
slot_in s = cond (eqb (get_or s 0 0) partner) (entry_in (take entry_size (drop 1 s))) empty

unfoldable pub slots_in : ℕ → Text → List Entry
slots_in zero s = []
slots_in (suc n) s = slot_in s ∷ slots_in n (drop (record_length (get_or s 0 0)) s)

unfoldable pub table_in : Text → Table
table_in s = record { own = take 16 (drop 1 s); slots = slots_in 64 (drop front_size s) }

-- the table of an image: legal, and the image is what writing it gives, byte for byte; anything else is 13
unfoldable pub decode : Text → Option Table
decode s = cond (legal (table_in s) && same (encode (table_in s)) s) (Some (table_in s)) None
