-- The claims of specs/Steps.antt, proved.
use Rattle.calls.specs.Steps.{Steps}
use Rattle.calls.proofs.Complaining.{foreign_is_I, even_is_K, faults_told, bad_rsm, option_told}
use Rattle.calls.proofs.Stepping.{good_ksm, accepted_good, rsm_vain, confirms, taken_good, esm_vain, esm_so}
use Rattle.calls.proofs.Stepping.{esm_told, rsi_told, is_7, is_8, is_11, is_12, builds, built_good}
use Rattle.calls.proofs.Stepping.{give_up_vain, give_up_so, exchanged}

pub steps : Steps
steps = record {
  foreign_name_is_I = foreign_is_I;
  even_key_is_K = even_is_K;
  faults_are_told_together = faults_told;
  good_ksm_is_accepted = good_ksm;
  accepted_ksm_is_good = accepted_good;
  rsm_in_vain = rsm_vain;
  bad_rsm_is_M = bad_rsm;
  good_rsm_is_taken = confirms;
  taken_rsm_is_good = taken_good;
  esm_in_vain = esm_vain;
  esm_breaks = esm_so;
  esm_is_told = esm_told;
  rsi_is_told = rsi_told;
  option_is_O = option_told;
  waiting_is_7 = is_7;
  spent_is_8 = is_8;
  even_key_is_11 = is_11;
  malformed_is_12 = is_12;
  good_request_is_built = builds;
  built_request_is_good = built_good;
  give_up_in_vain = give_up_vain;
  give_up_breaks = give_up_so;
  exchange = exchanged;
}
