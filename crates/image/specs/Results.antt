-- What the functions over an image give: an image with a slot changed, in place or in a lent buffer.
use Rattle.std.specs.Prelude.{cond, ◌++◌, ℕ, ◌+◌, ltb, leb, length, drop, Option, None, Some}
use Rattle.std.specs.Bool.{then_some}
use Rattle.std.specs.Option.{unwrap_or}
use Rattle.octets.specs.Text.{Text}
use Rattle.partner.specs.declared.Entry.{Entry}
use Rattle.image.specs.Image.{partner_size}
use Rattle.image.specs.Places.{slot_place, with_entry, with_partner, without_partner}

-- an entry put back, where a partner's record lies whole in the image at that place; else the image as it was
unfoldable pub put_back : ℕ → Entry → Text → Text
put_back at e image = cond (leb (at + partner_size) (length image)) (with_entry at e image) image

-- the image with a partner added at a place, and with a partner's record taken out; none where that lies outside
unfoldable pub added : ℕ → Entry → Text → Option Text
added at e image = cond (ltb at (length image)) (Some (with_partner at e image)) None

unfoldable pub removed : ℕ → Text → Option Text
removed at image = cond (leb (at + partner_size) (length image)) (Some (without_partner at image)) None

-- the same by the number of a slot, of which there are 64
unfoldable pub put_slot : ℕ → Entry → Text → Text
put_slot k e image = cond (ltb k 64) (put_back (slot_place k image) e image) image

unfoldable pub added_slot : ℕ → Entry → Text → Option Text
added_slot k e image = cond (ltb k 64) (added (slot_place k image) e image) None

unfoldable pub removed_slot : ℕ → Text → Option Text
removed_slot k image = cond (ltb k 64) (removed (slot_place k image) image) None

-- an image over the front of a lent buffer, and its length; where there is none, or no room, the buffer as it was
unfoldable pub delivered : Option Text → Text → Text
delivered None out = out
delivered (Some image) out = cond (leb (length image) (length out)) (image ++ drop (length image) out) out

unfoldable pub length_delivered : Option Text → Text → Option ℕ
length_delivered None out = None
length_delivered (Some image) out = then_some (leb (length image) (length out)) (length image)

-- that length as a number, 0 where there is none
abbrev pub size_delivered : Option Text → Text → ℕ
size_delivered image out = unwrap_or (length_delivered image out) 0
