-- The calls that show an entry or write a whole image to a lent buffer: what they write stands as the reply of their
-- outcome (document 01, "Answers" and "Stored image").
use Rattle.std.specs.Prelude.{ℕ, eqb, ltb, length, take, drop, Option, None, Some}
use Rattle.octets.specs.Text.{Text}
use Rattle.octets.specs.Number.{number}
use Rattle.keying.specs.declared.Top.{Top}
use Rattle.keying.specs.declared.Top.TheVariants.{Single, Pair}
use Rattle.partner.specs.declared.Entry.{Entry}
use Rattle.partner.specs.Record.{entry_bytes}
use Rattle.partner.specs.Table.{Table}
use Rattle.image.specs.Image.{largest, decode, encode}
use Rattle.calls.specs.Words.{in_case◌then◌else◌}
use Rattle.calls.specs.Outcome.{Outcome, nothing, refusal, success}
use Rattle.calls.specs.Calls.{After, about, remove, load, entry_of, bad_identity, run, start}

-- ---- ask for an entry

-- 3, or the body of the entry's record
abbrev pub body_of : Option Entry → Outcome
body_of None = refusal 3
body_of (Some e) = success (entry_bytes e) nothing

-- 13, 6, then these
unfoldable pub ask_over : Text → ℕ → Text → Outcome
ask_over image room id =
    elim (decode image) [
      | None ↦ refusal 13
      | Some t ↦ in_case ltb room 256 then refusal 6 else body_of (entry_of id t)
    ]

-- ---- whole images: less room than the largest has is 6

-- start: 6, 10; then the image of the new table
unfoldable pub start_over : Text → ℕ → Outcome
start_over own room =
    in_case ltb room largest then refusal 6 else
    elim (start own) [ None ↦ refusal 10 | Some t ↦ success (encode t) nothing ]

-- with 0 the image of the table after the call
unfoldable pub delivering : After → Outcome
delivering a = in_case eqb a.outcome.answer 0 then success (encode a.table) nothing else a.outcome

-- a top key by its bytes, the high byte first: 8 a single key, 16 a pair, another number none
unfoldable pub top_in : Text → Option Top
top_in key =
    in_case eqb (length key) 8 then Some (Single (number key)) else
    in_case eqb (length key) 16 then Some (Pair (number (take 8 key)) (number (drop 8 key))) else None

-- load: 10, 12, 11, 9; a key that is none is 12, as a bad key name
unfoldable pub load_with : Table → Text → Text → Option Top → Outcome
load_with t id name None = in_case bad_identity t id then refusal 10 else refusal 12
load_with t id name (Some top) = delivering (run t (load id name top))

-- 13, 6, then these
unfoldable pub load_over : Text → ℕ → Text → Text → Text → Outcome
load_over image room id name key =
    elim (decode image) [
      | None ↦ refusal 13
      | Some t ↦ in_case ltb room largest then refusal 6 else load_with t id name (top_in key)
    ]

-- remove: 13, 6, 3
unfoldable pub remove_over : Text → ℕ → Text → Outcome
remove_over image room id =
    elim (decode image) [
      | None ↦ refusal 13
      | Some t ↦ in_case ltb room largest then refusal 6 else delivering (run t (about id remove))
    ]
