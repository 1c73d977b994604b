-- I and K of a KSM, one KD after the other, and the set that its keys form: as the steps have them.
use Rattle.std.specs.Prelude.{Option, None, Some, Result, Ok, Err}
use mathlib.Core.Path.{◌≡◌, refl}
use mathlib.Core.Bool.{Bool, true, false, cond, not, ◌&&◌, ◌||◌}
use Rattle.octets.specs.Text.{Text}
use Rattle.keying.specs.Parity.{odd}
use Rattle.keying.specs.Keys.{each, unseal}
use Rattle.fields.specs.declared.Kd.{Kd}
use Rattle.reader.specs.declared.Ksm.{Ksm}
use Rattle.partner.specs.declared.DataKey.{DataKey}
use Rattle.partner.specs.declared.Entry.{Entry}
use Rattle.partner.specs.Entry.{one_key, two_keys}
use Rattle.calls.specs.Words.{in_case◌then◌else◌, any}
use Rattle.calls.specs.Outcome.{I, K}
use Rattle.calls.specs.Receive.{kds, foreign, uneven, brought}
use Rattle.receiving.specs.declared.fault.Fault.{Fault}
use Rattle.receiving.specs.Texts.{ksm_in}
use Rattle.receiving.proofs.Faults.{as_case}
use Rattle.receiving.specs.Stages.{stage, alone, working_key, with_second, key_set, plain_keys, opened}

-- a key under its name, or K
abbrev key_made : Bool → DataKey → Result DataKey Fault
key_made a x = cond a (Err (alone K)) (Ok x)

-- one key, or two: by whether K holds of each
one_made : (a : Bool) (x : DataKey)
    → stage (key_made a x) (λ first. with_second first None) ≡ (in_case a || false then Err (alone K) else Ok (one_key x))
unfolding in_case◌then◌else◌
one_made true x = refl
one_made false x = refl

two_made : (a b : Bool) (x y : DataKey)
    → stage (key_made a x) (λ first. with_second first (Some (key_made b y)))
    ≡ (in_case a || (b || false) then Err (alone K) else Ok (two_keys x y))
unfolding in_case◌then◌else◌
two_made true b x y = refl
two_made false true x y = refl
two_made false false x y = refl

module _ (own : Text) (e : Entry) (t : Text) (m : Ksm) where
  -- K, or the set of the keys deciphered: with no second KD, and with one
  by_second : (o : Option Kd) → let n = record m { second = o } in
      key_set t n (plain_keys own e n)
      ≡ (in_case any (uneven own e (ksm_in n t)) (kds (ksm_in n t)) then Err (alone K) else Ok (brought own e (ksm_in n t)))
  unfolding key_set each any uneven brought ksm_in
  by_second None = one_made (m.first.p && not (odd (unseal (working_key own e m) m.first.key))) _
  by_second (Some k) =
      two_made (m.first.p && not (odd (unseal (working_key own e m) m.first.key)))
      (k.p && not (odd (unseal (working_key own e m) k.key))) _ _

  -- I alone, then K alone, else the keys that it brings
  pub opened_same : opened own e t m
      ≡ (in_case any (foreign e) (kds (ksm_in m t)) then Err (alone I) else
      in_case any (uneven own e (ksm_in m t)) (kds (ksm_in m t)) then Err (alone K) else Ok (brought own e (ksm_in m t)))
  unfolding opened
  opened_same = as_case (any (foreign e) (kds (ksm_in m t))) _ (by_second m.second)
