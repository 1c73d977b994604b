-- Dates to hold it to; proved as `numbers` in proofs/Numbers.antt.
use Rattle.std.specs.Prelude.{◌≡◌, true, false, [], ◌∷◌}
use Rattle.octets.specs.Text.{ascii}
use Rattle.dates.specs.Date.{is_date, days_in}

pub record Numbers : Type 0 where
  pub leap_day_of_84 : is_date (ascii "840229235959") ≡ true
  pub no_leap_day_in_85 : is_date (ascii "850229000000") ≡ false
  -- hours 00-23, minutes and seconds 00-59
  pub midnight : is_date (ascii "850101000000") ≡ true
  pub hour_23 : is_date (ascii "850101230000") ≡ true
  pub hour_24 : is_date (ascii "850101240000") ≡ false
  pub minute_59 : is_date (ascii "850101005900") ≡ true
  pub minute_60 : is_date (ascii "850101006000") ≡ false
  pub second_59 : is_date (ascii "850101000059") ≡ true
  pub second_60 : is_date (ascii "850101000060") ≡ false
  -- months and days
  pub month_00 : is_date (ascii "850001000000") ≡ false
  pub month_12 : is_date (ascii "851201000000") ≡ true
  pub month_13 : is_date (ascii "851301000000") ≡ false
  pub day_00 : is_date (ascii "850100000000") ≡ false
  pub day_31 : is_date (ascii "850131000000") ≡ true
  pub day_32 : is_date (ascii "850132000000") ≡ false
  pub last_second_of_99 : is_date (ascii "991231235959") ≡ true
  pub april_30 : is_date (ascii "850430000000") ≡ true
  pub april_31 : is_date (ascii "850431000000") ≡ false
  pub days_of_85 :
      days_in 85 1 ∷ days_in 85 2 ∷ days_in 85 3 ∷ days_in 85 4 ∷ days_in 85 5 ∷ days_in 85 6 ∷ days_in 85 7
      ∷ days_in 85 8 ∷ days_in 85 9 ∷ days_in 85 10 ∷ days_in 85 11 ∷ days_in 85 12 ∷ []
      ≡ 31 ∷ 28 ∷ 31 ∷ 30 ∷ 31 ∷ 30 ∷ 31 ∷ 31 ∷ 30 ∷ 31 ∷ 30 ∷ 31 ∷ []
  -- years divisible by four have 29 February, except year 00
  pub february_28_of_85 : is_date (ascii "850228000000") ≡ true
  pub leap_day_of_96 : is_date (ascii "960229000000") ≡ true
  pub no_30_february : is_date (ascii "960230000000") ≡ false
  pub no_leap_day_in_00 : is_date (ascii "000229000000") ≡ false
  pub february_28_of_00 : is_date (ascii "000228000000") ≡ true
  -- 12 digits, no fewer, no more, and nothing else
  pub eleven_digits : is_date (ascii "85010100000") ≡ false
  pub thirteen_digits : is_date (ascii "8501010000000") ≡ false
  pub a_letter : is_date (ascii "8501010000A0") ≡ false
