-- What is asked of MILL's calls and key messages, each by computation: `worked` proves specs/Worked.antt.
use mathlib.Core.Path.{◌≡◌, refl, ap, ◌∙◌}
use mathlib.Core.List.Memᴰ
use Prim.Native.Nat.{ℕ}
use native.Mathlib.Omega.{arith}
use Rattle.octets.proofs.Comparing.{same_differs}
use Rattle.calls.specs.Claims.{sender}
use Rattle.line.specs.Line.{Allowed, called_for}
use Rattle.worked.specs.Worked.{first_ksm, second_ksm, Worked}
use Rattle.worked.proofs.Cards.{computes}
use Rattle.worked.proofs.Late.{distinct}

pub worked : Worked
unfolding computes Allowed called_for
worked = record {
  written_by_harbor = λ r e o. Memᴰ.head refl;
  not_written_by_harbor = λ may. same_differs _ _ refl (Memᴰ.eq_of_singleton (may _ refl refl));
  not_written_by_quay = λ r e o. absurd (same_differs _ _ refl (ap sender e ∙ o));
  no_message = λ r e o. absurd (let z : ◌≡◌ {A = ℕ} 0 1 = cc in omega arith);
  keys_of_64_bits = record { first = omega arith; second = omega arith };
  first_too_large = λ may. omega (arith, may.first);
  second_too_large = λ may. omega (arith, may.second);
  rsi_built = tt;
  given_up = tt;
  asked = tt;
  loaded = λ z o. (refl, refl);
  loaded_under_another_name = λ may. same_differs _ _ refl (may refl refl).0;
  loaded_with_another_key = λ may. let e = (may refl refl).1 in let z : ◌≡◌ {A = ℕ} 0 1 = cc in omega arith;
  mistyped_is_refused = λ z o. absurd (let e : 11 ≡ 0 = z in omega arith);
  taken_is_refused = λ z o. absurd (let e : 10 ≡ 0 = z in omega arith);
  third_loaded = λ z o. absurd (same_differs _ _ refl o);
  nobody_removed = λ z o. absurd (let e : 3 ≡ 0 = z in omega arith);
  harbor_removed = λ may. may refl refl;
  third_removed = λ z o. absurd (same_differs _ _ refl o);
  equal_macs = λ d.
      same_differs second_ksm first_ksm refl
      (d second_ksm first_ksm _ _ (Memᴰ.head refl) (Memᴰ.tail (Memᴰ.head refl)) refl refl refl);
  different_macs = distinct;
}
