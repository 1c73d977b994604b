-- One pass over an image: what is asked of its front and of each record where it stands. An image is legal exactly
-- where this holds throughout and it ends behind the 64th record (proofs/Legality.antt).
use Rattle.std.specs.Prelude.{Bool, cond, ◌&&◌, ℕ, ◌+◌, eqb, ltb, leb, length, take, drop, get_or}
use Rattle.octets.specs.Text.{Text}
use Rattle.partner.specs.Legal as rule
use Rattle.image.specs.Image.{vacant, ours, partner, front_size, partner_size}
use Rattle.image.specs.Places.{own_in, seek_slot, entry_at}

-- the identity of the record at a place
abbrev pub identity_at : ℕ → Text → Text
identity_at at image = take 16 (drop (at + 1) image)

-- none of n records from a place on has that identity
abbrev pub apart_from : ℕ → ℕ → Text → Text → Bool
apart_from n at id image = eqb (seek_slot n 0 at id image) n

-- the front: kind 1, a filled identity, and no partner who has it
unfoldable pub front_legal : Text → Bool
front_legal image =
    eqb (get_or image 0 0) ours && rule.is_filled (own_in image) && apart_from 64 front_size (own_in image) image

-- the record at a place, with n behind it: an empty slot, or a whole legal entry whose identity none of them has
unfoldable pub record_legal : ℕ → ℕ → Text → Bool
record_legal n at image =
    cond (eqb (get_or image at 0) vacant) (ltb at (length image))
    (eqb (get_or image at 0) partner && leb (at + partner_size) (length image) && rule.legal (entry_at at image)
    && apart_from n (at + partner_size) (identity_at at image) image)
