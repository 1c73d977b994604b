-- The table of a lent row, when it is legal, and a call over it.
use Rattle.std.specs.Prelude.{Bool, ◌&&◌, List}
use Rattle.octets.specs.Text.{Text, is_name}
use Rattle.partner.specs.declared.Entry.{Entry}
use Rattle.partner.specs.Entry.{filled}
use Rattle.partner.specs.Table.{Table, legal}
use Rattle.calls.specs.Words.{in_case◌then◌else◌}
use Rattle.calls.specs.Calls as every

-- the table of a row
abbrev pub table : Text → List Entry → Table
table own slots = record { own = filled own; slots = slots }

-- our identity is a name, and the table is legal
unfoldable pub row_legal : Text → List Entry → Bool
row_legal own slots = is_name own && legal (table own slots)

-- a call over a row; 13 where our identity is no name
unfoldable pub over_row : Text → List Entry → every.Call → every.After
over_row own slots c =
    in_case is_name own then every.run (table own slots) c else every.refuse (table own slots) 13
