-- What the functions over a lent row give: the calls of crate `calls` on the table of our identity and the row's slots (`over`
-- in crate `sight`), ask, start, image reading and image writing.
use Rattle.std.specs.Prelude.{◌≡◌, not, cond, List, [], ◌∷◌, ℕ, suc, eqb, ltb, length, Option, None, Some}
use Rattle.octets.specs.Text.{Text, same}
use Rattle.partner.specs.declared.Entry.{Entry}
use Rattle.partner.specs.Entry.{empty, filled}
use Rattle.partner.specs.Table.{Table}
use Rattle.image.specs.Image.{encode, decode}
use Rattle.calls.specs.Words.{in_case◌then◌else◌}
use Rattle.calls.specs.Outcome.{Outcome, nothing, refusal, success}
use Rattle.calls.specs.Calls as every
use Rattle.sight.specs.declared.Found.{Found}
use Rattle.sight.specs.Table.{table, row_legal, over_row}
use Rattle.outcome.specs.declared.Report.{Report}
use Rattle.outcome.specs.Report.{report, replied}
use Rattle.row.specs.Stored.{start_answer, read_answer}

-- ---- ask

-- the number of a partner's slot
abbrev pub slot_of : Text → List Entry → ℕ
slot_of id [] = 0
slot_of id (e ∷ slots) = cond (same e.identity.bytes id) 0 (suc (slot_of id slots))

-- refused: past the last slot, and an empty entry
abbrev pub not_shown : ℕ → Found
not_shown n = record { answer = n; slot = 64; entry = empty }

-- an entry asked for: 3, or 0, the number of its slot and the entry
abbrev pub shown_of : ℕ → Option Entry → Found
shown_of slot None = not_shown 3
shown_of slot (Some e) = record { answer = 0; slot = slot; entry = e }

-- 13, then these
unfoldable pub asked : Text → List Entry → Text → Found
asked own slots id =
    in_case row_legal own slots then shown_of (slot_of (filled id) slots) (every.entry_of id (table own slots)) else not_shown 13

-- ---- start and image reading

-- the slots of a table, or the row as it was
abbrev pub slots_or : List Entry → Option Table → List Entry
slots_or row None = row
slots_or row (Some t) = t.slots

-- 64 empty slots; the row as it was where start is refused
unfoldable pub start_row : Text → List Entry → List Entry
start_row own row = in_case eqb (length row) 64 then slots_or row (every.start own) else row

-- the table that the image holds; the row as it was where it is refused
unfoldable pub read_row : Text → List Entry → List Entry
read_row image row = in_case eqb (length row) 64 then slots_or row (decode image) else row

-- ---- image writing

-- the table's image; 13 where our identity is no name or the table is not legal, 6 where the image does not fit
unfoldable pub image_given : Text → List Entry → ℕ → Outcome
image_given own slots room =
    in_case not (row_legal own slots) then refusal 13
    else (in_case ltb room (length (encode (table own slots))) then refusal 6 else success (encode (table own slots)) nothing)

-- ---- contracts: what a function gives and what it leaves of the lent row and buffer

-- a call
pub record Called (own : Text) (slots : List Entry) (c : every.Call) (buffer : Text) (r : Report) (later : List Entry) (after : Text)
    : Type 0 where
  pub given : r ≡ report (over_row own slots c).outcome
  pub row : later ≡ (over_row own slots c).table.slots
  pub reply : after ≡ replied (over_row own slots c).outcome buffer

-- start
pub record Started (own : Text) (slots : List Entry) (n : ℕ) (later : List Entry) : Type 0 where
  pub answer : n ≡ start_answer own (length slots)
  pub row : later ≡ start_row own slots

-- image reading
pub record ImageRead (image : Text) (slots : List Entry) (n : ℕ) (later : List Entry) : Type 0 where
  pub answer : n ≡ read_answer image (length slots)
  pub row : later ≡ read_row image slots

-- image writing
pub record ImageWritten (own : Text) (slots : List Entry) (buffer : Text) (r : Report) (after : Text) : Type 0 where
  pub given : r ≡ report (image_given own slots (length buffer))
  pub out : after ≡ replied (image_given own slots (length buffer)) buffer
