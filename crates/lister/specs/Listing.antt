-- What is listed of a line (document 01, "Line lister").
use Rattle.std.specs.Prelude.{◌≡◌, cond, leb, length, take, Option, None, Some, option_map}
use Rattle.octets.specs.Text.{Text}
use Rattle.csm.specs.Message.{Reading, class_of, read}
use Rattle.fields.specs.Seen.{class_of as shown}
use Rattle.fields.specs.declared.Class.{Class}
use Rattle.lister.specs.declared.Row.{Row}

-- the class of the reading, none where the line is no message
abbrev pub listed_class : Option Reading → Option Class
listed_class o = option_map (λ r. shown (class_of r.body)) o

-- a line's class, and its length, none where it is above 512
unfoldable pub row_of : Text → Row
row_of line = record { class = listed_class (read line); bytes = cond (leb (length line) 512) (Some (length line)) None }

-- what is held of a line, at most 513 bytes, is listed as the line is; proved as `held_is_enough` in proofs/Listed.antt
abbrev pub HeldIsEnough : Type 0
HeldIsEnough = (line : Text) → row_of (take 513 line) ≡ row_of line
