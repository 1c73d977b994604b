-- The number of a slot and where its record stands in an image; an image with a record changed, added or taken out, byte
-- by byte.
use Rattle.std.specs.Prelude.{Bool, cond, ◌&&◌, [], ◌∷◌, ◌++◌, ℕ, zero, suc, ◌+◌, eqb, ltb, take, drop, get_or, Option}
use Rattle.std.specs.Bool.{then_some}
use Rattle.octets.specs.Text.{Text, same}
use Rattle.partner.specs.declared.Entry.{Entry}
use Rattle.partner.specs.Record.{entry_size, entry_bytes, entry_in}
use Rattle.image.specs.Image.{vacant, partner, record_length, front_size, partner_size}

-- a number that is one of the first n
abbrev pub below : ℕ → ℕ → Option ℕ
below n k = then_some (ltb k n) k

-- our own identity
abbrev pub own_in : Text → Text
own_in image = take 16 (drop 1 image)

-- the record at a place is a partner's with that identity
abbrev pub is_partner : ℕ → Text → Text → Bool
is_partner at id image = eqb (get_or image at 0) partner && same (take 16 (drop (at + 1) image)) id

-- of n records from a place on, the first of them the k-th: the number of that of a partner, and of the one behind them
-- all where there is none
unfoldable pub seek_slot : ℕ → ℕ → ℕ → Text → Text → ℕ
seek_slot zero k at id image = k
seek_slot (suc n) k at id image =
    cond (is_partner at id image) k (seek_slot n (k + 1) (at + record_length (get_or image at 0)) id image)

-- the partner's slot among the 64
unfoldable pub slot_of : Text → Text → ℕ
slot_of id image = seek_slot 64 0 front_size id image

-- likewise the lowest empty slot
unfoldable pub seek_free : ℕ → ℕ → ℕ → Text → ℕ
seek_free zero k at image = k
seek_free (suc n) k at image =
    cond (eqb (get_or image at 0) vacant) k (seek_free n (k + 1) (at + record_length (get_or image at 0)) image)

unfoldable pub free_slot : Text → ℕ
free_slot image = seek_free 64 0 front_size image

-- n records on from a place
unfoldable pub past : ℕ → ℕ → Text → ℕ
past zero at image = at
past (suc n) at image = past n (at + record_length (get_or image at 0)) image

-- where the record of a slot stands
unfoldable pub slot_place : ℕ → Text → ℕ
slot_place k image = past k front_size image

-- the entry of the record at a place
unfoldable pub entry_at : ℕ → Text → Entry
entry_at at image = entry_in (take entry_size (drop (at + 1) image))

-- k bytes of an image from a place on replaced by a text
unfoldable pub splice : ℕ → ℕ → Text → Text → Text
splice at k t image = take at image ++ (t ++ drop (at + k) image)

-- an entry put back, a partner added in an empty slot, a partner taken out
unfoldable pub with_entry : ℕ → Entry → Text → Text
with_entry at e image = splice (at + 1) entry_size (entry_bytes e) image

unfoldable pub with_partner : ℕ → Entry → Text → Text
with_partner at e image = splice at 1 (partner ∷ entry_bytes e) image

unfoldable pub without_partner : ℕ → Text → Text
without_partner at image = splice at partner_size (vacant ∷ []) image
