-- EDK: YYMMDDHHMMSS.
use Rattle.std.specs.Prelude.{Bool, cond, not, ◌&&◌, ◌||◌, ℕ, ◌+◌, ◌-◌, ◌*◌, ◌%◌, eqb, leb, get_or}
use Prim.Native.Char.{code}
use Rattle.octets.specs.Text.{Text, is_run, within}

-- YY of a year 19YY: years divisible by four have 29 February, except year 00
unfoldable pub leap : ℕ → Bool
leap year = eqb (year % 4) 0 && not (eqb year 0)

-- a month of 30 days
abbrev pub thirty : ℕ → Bool
thirty month = eqb month 4 || eqb month 6 || eqb month 9 || eqb month 11

-- how many days a month has
unfoldable pub days_in : ℕ → ℕ → ℕ
days_in year month = cond (eqb month 2) (cond (leap year) 29 28) (cond (thirty month) 30 31)

-- a day of the calendar
unfoldable pub is_day : ℕ → ℕ → ℕ → Bool
is_day year month day = within 1 12 month && within 1 (days_in year month) day

-- a time of the day: hours 00-23, minutes and seconds 00-59
unfoldable pub is_time : ℕ → ℕ → ℕ → Bool
is_time hours minutes seconds = leb hours 23 && leb minutes 59 && leb seconds 59

-- the digit at place i, and the two digits from there on
abbrev pub digit : ℕ → Text → ℕ
digit i s = get_or s i 0 - code "0"

abbrev pub two : ℕ → Text → ℕ
two i s = digit i s * 10 + digit (i + 1) s

-- 12 digits that are a day and a time
unfoldable pub is_date : Text → Bool
is_date s = is_run 0 12 12 s && is_day (two 0 s) (two 2 s) (two 4 s) && is_time (two 6 s) (two 8 s) (two 10 s)
