-- The table of a legal image, and the calls over it.
use Rattle.std.specs.Prelude.{Some}
use mathlib.Core.Path.{◌≡◌, ap, ◌∙◌}
use mathlib.Core.Bool.{true}
use Rattle.octets.specs.Text.{Text, is_name}
use Rattle.octets.specs.Part.{bare}
use Rattle.partner.proofs.Claims as entries
use Rattle.partner.specs.Table.{Table, legal}
use Rattle.image.specs.Image.{decode, encode}
use Rattle.image.specs.Places.{own_in}
use Rattle.image.proofs.Images.{decoded}
use Rattle.image.proofs.Updates.{own_there}
use Rattle.image.proofs.Claims.{claims}
use Rattle.calls.specs.Calls.{Call, refuse, run}
use Rattle.calls.proofs.Tests.{if_true}
use Rattle.calls.proofs.Tables.{legal_parts, own_name}
use Rattle.sight.specs.Table.{table, over_row}

module _ (image : Text) (t : Table) (d : decode image ≡ Some t) where
  pub lawful_table : legal t ≡ true
  lawful_table = (decoded image t d).is_legal

  pub own_is : own_in image ≡ t.own
  own_is = own_there image t (decoded image t d)

  pub encode_is : encode t ≡ image
  encode_is = (claims.read_then_write image t d).1

-- a call over the slots of a legal table is the call on the table
pub agrees : (t : Table) → legal t ≡ true → (c : Call) → over_row (bare t.own) t.slots c ≡ run t c
unfolding over_row
agrees t l c =
    if_true (is_name (bare t.own)) (run (table (bare t.own) t.slots) c)
    (refuse (table (bare t.own) t.slots) 13) (own_name t l)
    ∙ ap (λ (w : Text). run (record { own = w; slots = t.slots }) c)
    ((entries.claims).filled_after_bare t.own (legal_parts t l).own)
