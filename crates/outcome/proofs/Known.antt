-- The report tells all that the code gives: what is given is known by it.
use native.Mathlib.Omega.{arith}
use Rattle.std.specs.Prelude.{◌≡◌, ℕ, Option, unwrap_or, Result}
use Rattle.octets.specs.Part.{found}
use Rattle.partner.specs.declared.Entry.{Entry}
use Rattle.calls.specs.declared.Date.{Date}
use Rattle.calls.specs.declared.Refusal.{Refusal}
use Rattle.calls.proofs.Numbered.{one_number, number_not_0, number_not_4}
use Rattle.outcome.specs.declared.Told.{Told}
use Rattle.outcome.specs.declared.Given.{Given}
use Rattle.outcome.specs.declared.Turned as whole
use Rattle.outcome.specs.Report.{or_zero, no_date, told_of, report_of, turned_of}

-- a number that is there or not; a date
one_iv : (x y : Option ℕ) → found x ≡ found y → or_zero x ≡ or_zero y → x ≡ y
one_iv x y p q = grind arith

one_date : (x y : Option Date) → found x ≡ found y → unwrap_or x no_date ≡ unwrap_or y no_date → x ≡ y
one_date x y p q = grind arith

one_told : (m n : ℕ) (t u : Told) → told_of m t ≡ told_of n u → (m ≡ n) × (t ≡ u)
one_told m n t u p = grind (arith, one_iv, one_date)

pub one_report : (x y : Result Given Refusal) → report_of x ≡ report_of y → x ≡ y
one_report x y p = grind (arith, one_told, one_number, number_not_0, number_not_4)

pub one_turned : (e : Entry) (x y : Result whole.Turned Refusal) → turned_of e x ≡ turned_of e y → x ≡ y
one_turned e x y p = grind (arith, one_report)
