-- The examples hold, by computation.
use mathlib.Core.Path.{refl}
use Rattle.outcome.specs.Report.{report}
use Rattle.host.specs.Report.{report_bytes}
use Rattle.host.specs.Examples.{Examples}

pub examples : Examples
unfolding report report_bytes
examples = record {
  iv_and_date = refl;
  iv_alone = refl;
  iv_of_zeros = refl;
  date_alone = refl;
  keys_alone = refl;
  rsi = refl;
  rsm = refl;
  esm = refl;
  error = refl;
  message = refl;
  new_image = refl;
  refused = refl;
  letter_A = refl;
  letter_B = refl;
  letter_F = refl;
  letter_I = refl;
  letter_K = refl;
  letter_M = refl;
  letter_O = refl;
  letter_P = refl;
  letter_U = refl;
  letters_FMP = refl;
  service_empty = refl;
  service_IV = refl;
  service_KD = refl;
  service_KD_IV = refl;
  service_KK = refl;
  service_KK_IV = refl;
  service_KK_KD = refl;
  service_KK_KD_IV = refl;
  service_pair = refl;
  service_pair_IV = refl;
  service_pair_KD = refl;
  service_pair_KD_IV = refl;
}
