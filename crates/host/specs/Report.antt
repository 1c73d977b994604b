-- The bytes of a report, as the C face has them; numbers have the high byte first.
use Rattle.std.specs.Prelude.{ℕ, Bool, true, false}
use Rattle.octets.specs.Text.{Text}
use Rattle.octets.specs.Number.{copies}
use Rattle.octets.specs.Codec.{Codec, numeral, plain, ◌followed_by◌, width, written}
use Rattle.outcome.specs.declared.Report.{Report}

-- 1 for yes, 0 for no
abbrev pub mark : Bool → ℕ
mark true = 1
mark false = 0

-- letters 2 (A the lowest bit), length of the reply 2, class 1
abbrev pub front_layout : Codec (ℕ × (ℕ × ℕ))
front_layout = numeral 2 followed_by numeral 2 followed_by numeral 1

abbrev pub front_of : Report → ℕ × (ℕ × ℕ)
front_of r = (r.letters, (r.length, r.class))

-- service 1, IV present 1, date present 1
abbrev pub marks_layout : Codec (ℕ × (ℕ × ℕ))
marks_layout = numeral 1 followed_by numeral 1 followed_by numeral 1

abbrev pub marks_of : Report → ℕ × (ℕ × ℕ)
marks_of r = (r.service, (mark r.vector, mark r.dated))

-- IV 8, date 12, zero 4
abbrev pub values_layout : Codec (ℕ × (Text × Text))
values_layout = numeral 8 followed_by plain 12 followed_by plain 4

abbrev pub values_of : Report → ℕ × (Text × Text)
values_of r = (r.iv, (r.date.digits, copies 4 0))

-- the whole report
abbrev pub report_layout : Codec ((ℕ × (ℕ × ℕ)) × ((ℕ × (ℕ × ℕ)) × (ℕ × (Text × Text))))
report_layout = front_layout followed_by marks_layout followed_by values_layout

-- how many bytes it has
abbrev pub report_size : ℕ
report_size = width report_layout

unfoldable pub report_bytes : Report → Text
report_bytes r = written report_layout (front_of r, (marks_of r, values_of r))
