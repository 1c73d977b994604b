-- The order of the answers over a lent row, number by number: each is given where its condition holds and none earlier does
-- (document 01, "Answers"). Proved as `orders` in proofs/Orders.antt.
use Rattle.std.specs.Prelude.{◌≡◌, true, false, ◌&&◌, List, ℕ, ◌<◌, ◌≤◌, length, None, Some}
use Rattle.octets.specs.Text.{Text, is_name}
use Rattle.partner.specs.declared.Entry.{Entry}
use Rattle.partner.specs.Entry.{empty, filled}
use Rattle.partner.specs.Table.{Table, legal, empties}
use Rattle.image.specs.Image.{encode, decode}
use Rattle.calls.specs.declared.Request.{Request}
use Rattle.calls.specs.Outcome.{nothing, refusal, success}
use Rattle.calls.specs.Calls.{receive, about, build_ksm, build_rsi, entry_of}
use Rattle.sight.specs.Table.{table, over_row}
use Rattle.row.specs.Calls.{slot_of, asked, start_row, read_row, image_given}
use Rattle.row.specs.Stored.{start_answer, read_answer}

pub record Orders : Type 0 where
  -- receive and both builds: 13 (`else_13` of the claims), then 6, reply room under 256
  pub receive_6 : (own : Text) (slots : List Entry) (room : ℕ) (text : Text)
      → is_name own && legal (table own slots) ≡ true → room < 256 → (over_row own slots (receive room text)).outcome ≡ refusal 6
  pub build_ksm_6 : (own : Text) (slots : List Entry) (room : ℕ) (id : Text) (q : Request)
      → is_name own && legal (table own slots) ≡ true → room < 256 → (over_row own slots (about id (build_ksm room q))).outcome ≡ refusal 6
  pub build_rsi_6 : (own : Text) (slots : List Entry) (room : ℕ) (id contents : Text)
      → is_name own && legal (table own slots) ≡ true → room < 256
      → (over_row own slots (about id (build_rsi room contents))).outcome ≡ refusal 6
  -- ask: 13, 3, else the entry
  pub ask_13 : (own : Text) (slots : List Entry) (id : Text) → is_name own && legal (table own slots) ≡ false
      → asked own slots id ≡ record { answer = 13; slot = 64; entry = empty }
  pub ask_3 : (own : Text) (slots : List Entry) (id : Text) → is_name own && legal (table own slots) ≡ true
      → entry_of id (table own slots) ≡ None → asked own slots id ≡ record { answer = 3; slot = 64; entry = empty }
  pub ask_0 : (own : Text) (slots : List Entry) (id : Text) (e : Entry) → is_name own && legal (table own slots) ≡ true
      → entry_of id (table own slots) ≡ Some e → asked own slots id ≡ record { answer = 0; slot = slot_of (filled id) slots; entry = e }
  -- start: 13 where the row has not 64 slots, 10, else 64 empty slots
  pub start_13 : (own : Text) (n : ℕ) → (n ≡ 64 → ⊥) → start_answer own n ≡ 13
  pub start_10 : (own : Text) → is_name own ≡ false → start_answer own 64 ≡ 10
  pub start_0 : (own : Text) (row : List Entry) → is_name own ≡ true → length row ≡ 64
      → (start_answer own 64 ≡ 0) × (start_row own row ≡ empties 64)
  -- image reading: 13 for the row, 13 for the image, else the image's slots
  pub read_13_row : (image : Text) (n : ℕ) → (n ≡ 64 → ⊥) → read_answer image n ≡ 13
  pub read_13_image : (image : Text) → decode image ≡ None → read_answer image 64 ≡ 13
  pub read_0 : (image : Text) (t : Table) (row : List Entry) → decode image ≡ Some t → length row ≡ 64
      → (read_answer image 64 ≡ 0) × (read_row image row ≡ t.slots)
  -- image writing: 13, 6 where the image does not fit, else the image
  pub write_13 : (own : Text) (slots : List Entry) (room : ℕ) → is_name own && legal (table own slots) ≡ false
      → image_given own slots room ≡ refusal 13
  pub write_6 : (own : Text) (slots : List Entry) (room : ℕ) → is_name own && legal (table own slots) ≡ true
      → room < length (encode (table own slots)) → image_given own slots room ≡ refusal 6
  pub write_0 : (own : Text) (slots : List Entry) (room : ℕ) → is_name own && legal (table own slots) ≡ true
      → length (encode (table own slots)) ≤ room → image_given own slots room ≡ success (encode (table own slots)) nothing
