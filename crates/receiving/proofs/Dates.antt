-- A date has twelve digits.
use mathlib.Core.Path.{◌≡◌}
use mathlib.Core.Bool.{true}
use native.Mathlib.Omega.{arith}
use lib.ListN.{length}
use Rattle.octets.specs.Text.{Text, all, run_char, is_run}
use Rattle.octets.proofs.Comparing.{both}
use Rattle.csm.proofs.TextLaws.{within_true}
use Rattle.dates.specs.Date.{is_date}

pub date_length : (w : Text) → is_date w ≡ true → length w ≡ 12
unfolding is_date
date_length w h =
    let run = both (is_run 0 12 12 w) _ (both _ _ h).0 in
    let n = within_true 12 12 (length w) (both (all (run_char 0) w) _ run.0).1 in
    omega (arith, n.0, n.1)
