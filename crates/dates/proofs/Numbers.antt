-- The dates hold, by computation.
use mathlib.Core.Path.{refl}
use Rattle.dates.specs.Date.{is_date, is_day, is_time, days_in, leap}
use Rattle.dates.specs.Numbers.{Numbers}

pub numbers : Numbers
unfolding is_date is_day is_time days_in leap
numbers = record {
  leap_day_of_84 = refl;
  no_leap_day_in_85 = refl;
  midnight = refl;
  hour_23 = refl;
  hour_24 = refl;
  minute_59 = refl;
  minute_60 = refl;
  second_59 = refl;
  second_60 = refl;
  month_00 = refl;
  month_12 = refl;
  month_13 = refl;
  day_00 = refl;
  day_31 = refl;
  day_32 = refl;
  last_second_of_99 = refl;
  april_30 = refl;
  april_31 = refl;
  days_of_85 = refl;
  february_28_of_85 = refl;
  leap_day_of_96 = refl;
  no_30_february = refl;
  no_leap_day_in_00 = refl;
  february_28_of_00 = refl;
  eleven_digits = refl;
  thirteen_digits = refl;
  a_letter = refl;
}
