-- F, M and P as the code judges them are those of the steps, and so is what is told.
use Rattle.std.specs.Prelude.{Option, None, Some, option_map, option_and_then}
use mathlib.Core.Path.{◌≡◌, refl, ap}
use mathlib.Core.Bool.{Bool, true, false, cond, not, ◌&&◌, ◌||◌}
use mathlib.Core.List.{List, [], ◌∷◌}
use Prim.Native.Nat.{ℕ}
use lib.Dec.{eqb}
use borrow.Author.Tests.{not-false}
use Rattle.octets.specs.Text.{Text, is_run}
use Rattle.octets.specs.Part.{found, part}
use Rattle.octets.specs.declared.Span.{Span}
use Rattle.keying.specs.Mac.{mac_key, mac}
use Rattle.dates.specs.Date.{is_date}
use Rattle.csm.specs.Fields.{numeral}
use Rattle.csm.proofs.WordTests.{hex_value}
use Rattle.reader.specs.declared.Ksm as reader
use Rattle.partner.specs.declared.KeySet.{KeySet}
use Rattle.partner.specs.declared.Entry.{Entry}
use Rattle.partner.specs.Entry.{keys_in}
use Rattle.calls.specs.declared.Date.{Date}
use Rattle.calls.specs.Words.{some_has, in_case◌then◌else◌}
use Rattle.calls.specs.Receive as steps
use Rattle.calls.specs.Receive.{iv_of, faults, bad_count}
use Rattle.calls.specs.Outcome.{keys}
use Rattle.calls.proofs.Tests.{or_split}
use Rattle.calls.proofs.Turns.{none_holds}
use Rattle.receiving.specs.Texts.{ksm_in, Sealed}
use Rattle.receiving.specs.Stages.{iv_value, iv_in, date_value, date_in, bad_format, bad_mac, letters_of, told_if, counts_in}

-- a choice, in the words of the steps
pub as_case : {A : Type 0} (b : Bool) (x : A) {y z : A} → y ≡ z → cond b x y ≡ (in_case b then x else z)
unfolding in_case◌then◌else◌
as_case true x h = refl
as_case false x h = h

-- what is made of a number that is there
as_there : {A : Type 0} (b : Bool) (f : ℕ → Option A) (n : ℕ) {r : Option A} → f n ≡ r
    → option_and_then f (cond b (Some n) None) ≡ (in_case not b then None else r)
unfolding in_case◌then◌else◌
as_there true f n h = h
as_there false f n h = refl

-- the value of an IV
iv_same : (ks : List ℕ) (w : Text) → iv_value ks w ≡ steps.iv_value ks w
unfolding steps.iv_value
iv_same ks [] = refl
iv_same ks (c ∷ w) =
    rw (hex_value 16 w) (as_there (is_run 70 16 16 w) _ (numeral 16 0 w) (as_case (eqb c 80) _ (as_case (eqb c 69) _ refl)))

module _ (set : KeySet) (t : Text) where
  -- that of a KSM
  iv_of_same : (o : Option Span) → option_and_then (λ (p : Span). iv_value (keys_in set) (part t p)) o
      ≡ elim (option_map (part t) o) [ None ↦ None | Some w ↦ steps.iv_value (keys_in set) w ]
  iv_of_same None = refl
  iv_of_same (Some p) = iv_same (keys_in set) (part t p)

  -- F of an IV and of an EDK
  bad_iv : (o : Option Span) → found o && not (found (option_and_then (λ (p : Span). iv_value (keys_in set) (part t p)) o))
      ≡ some_has (λ w. not (found (steps.iv_value (keys_in set) w))) (option_map (part t) o)
  unfolding some_has
  bad_iv None = refl
  bad_iv (Some p) = ap (λ (v : Option ℕ). not (found v)) (iv_same (keys_in set) (part t p))

  date_found : (b : Bool) (d : Date) → found (cond b (Some d) None) ≡ b
  date_found true d = refl
  date_found false d = refl

  bad_edk : (o : Option Span) → found o && not (found (option_and_then (λ (p : Span). date_value (part t p)) o))
      ≡ some_has (λ w. not (is_date w)) (option_map (part t) o)
  unfolding some_has
  bad_edk None = refl
  bad_edk (Some p) = ap not (date_found (is_date (part t p)) _)

  -- a date that is not F is the digits of its EDK
  date_same : (o : Option Span) → some_has (λ w. not (is_date w)) (option_map (part t) o) ≡ false
      → option_map (λ (d : Date). d.digits) (option_and_then (λ (p : Span). date_value (part t p)) o) ≡ option_map (part t) o
  unfolding some_has
  date_same None h = refl
  date_same (Some p) h = rw (not-false _ h)

  module _ (e : Entry) (m : reader.Ksm) where
    -- all the letters that hold
    pub letters_same : Sealed m.mac.span t → letters_of (bad_format m (iv_in (keys_in set) t m) (date_in t m)) (bad_mac (keys_in set) t m.mac)
        (bad_count e.receiving.expected m.ctp.value)
        ≡ faults e set t (ksm_in m t)
    unfolding faults ksm_in steps.bad_format steps.bad_mac
    letters_same sealed = λ i. letters_of (bad_iv m.iv i || bad_edk m.edk i)
        (not (eqb (mac (mac_key (keys_in set)) (sealed i)) m.mac.value))
        (bad_count e.receiving.expected m.ctp.value)

    -- what is told where none does
    pub told_same : eqb (faults e set t (ksm_in m t)) 0 ≡ true
        → keys (iv_in (keys_in set) t m) (option_map (λ (d : Date). d.digits) (date_in t m))
        ≡ keys (iv_of set (ksm_in m t)) (ksm_in m t).edk
    unfolding faults ksm_in steps.bad_format
    told_same z =
        let k = ksm_in m t in
        let none = none_holds (steps.bad_format set k) (steps.bad_mac set t k.mac) (bad_count e.receiving.expected k.ctp) z in
        let dated = date_same m.edk (or_split _ _ none.0).1 in
        λ i. keys (iv_of_same m.iv i) (dated i)

-- the counts of an ESM for P
pub counts_same : (late : Bool) (expected count : ℕ)
    → counts_in (told_if late expected count) ≡ cond late (Some (expected, count)) None
counts_same true expected count = refl
counts_same false expected count = refl
