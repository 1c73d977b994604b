-- What is claimed of the calls over a row; proved as `claims` in proofs/Claims.antt.
use Rattle.std.specs.Prelude.{◌≡◌, true, false, ◌&&◌, List, ◌≤◌, length, take, Some}
use Rattle.octets.specs.Text.{Text, is_name}
use Rattle.octets.specs.Part.{bare}
use Rattle.partner.specs.declared.Entry.{Entry}
use Rattle.partner.specs.Table.{Table, legal, AllHeld}
use Rattle.image.specs.Image.{encode, decode}
use Rattle.calls.specs.Calls.{Call, run, refuse}
use Rattle.outcome.specs.Report.{report, replied}
use Rattle.sight.specs.Table.{table, over_row}
use Rattle.row.specs.Calls.{read_row, image_given}

pub record Claims : Type 0 where
  -- the two faces agree: on the row of an image's table every call gives the answer, the reply and the table that it
  -- gives on the image
  pub faces_agree : (image : Text) (t : Table) (c : Call) → decode image ≡ Some t
      → over_row (bare t.own) t.slots c ≡ run t c
  -- the table of a legal row has an image, and the faces agree on it
  pub row_has_image : (own : Text) (slots : List Entry) (c : Call) → is_name own && legal (table own slots) ≡ true
      → AllHeld slots → (decode (encode (table own slots)) ≡ Some (table own slots)) × (over_row own slots c ≡ run (table own slots) c)
  -- 13: our identity is no name, or the table is not legal
  pub else_13 : (own : Text) (slots : List Entry) (c : Call) → is_name own && legal (table own slots) ≡ false
      → over_row own slots c ≡ refuse (table own slots) 13
  -- write then read gives the table back, slot by slot, in whatever row of 64 slots it is read
  pub write_then_read : (own : Text) (slots row : List Entry) → is_name own && legal (table own slots) ≡ true → AllHeld slots
      → length row ≡ 64 → read_row (encode (table own slots)) row ≡ slots
  -- what image writing leaves in a buffer with room for it, as long as it reports, image reading gives back, slot by slot,
  -- in whatever row of 64 slots it is read
  pub written_then_read : (own : Text) (slots row : List Entry) (out : Text) → is_name own && legal (table own slots) ≡ true
      → AllHeld slots → length row ≡ 64 → length (encode (table own slots)) ≤ length out
      → ((report (image_given own slots (length out))).answer ≡ 0)
      × (read_row (take (report (image_given own slots (length out))).length (replied (image_given own slots (length out)) out)) row ≡ slots)
