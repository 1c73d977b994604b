-- A name of a request is whole.
use mathlib.Core.Path.{◌≡◌}
use lib.ListN.{length}
use lib.Seq.{take_at}
use Rattle.octets.specs.Text.{Text}
use Rattle.partner.specs.Entry.{blanks, filled, name_of}

-- a text of the length that is wanted is not filled up
pub name_whole : (w : Text) → length w ≡ 16 → name_of w ≡ record { bytes = w }
unfolding filled
name_whole w h = λ i. record { bytes = take_at w blanks 16 h i }
