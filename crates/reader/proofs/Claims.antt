-- The claims of specs/Claims.antt, proved: each by the row of its class.
use Rattle.std.specs.Prelude.{Option, None, Some, option_map}
use mathlib.Core.Path.{◌≡◌, refl, ap, ◌∙◌}
use mathlib.Core.List.{[], ◌∷◌}
use Prim.Native.Nat.{ℕ}
use native.Mathlib.Omega.{arith}
use Rattle.octets.specs.Text.{Text}
use Rattle.octets.specs.Part.{part}
use Rattle.csm.specs.Fields.{count, IV, EDK, CTP, CTR, EDC, KD}
use Rattle.csm.specs.Fields as csm
use Rattle.csm.specs.Message.{print_body}
use Rattle.csm.specs.Message.{rsi_row, ksm_row, rsm_row, esm_row, rsi_values, ksm_values, rsm_values, esm_values}
use Rattle.csm.specs.Covered.{mac_of}
use Rattle.fields.specs.Seen.{check_text}
use Rattle.reader.specs.Seen.{shown_at, row_end, head_seen, body_place, ksm_seen, rsm_seen}
use Rattle.reader.specs.Claims.{number_part, MaybeKdParts, no_kd, a_kd, Claims}
use Rattle.reader.proofs.SpanLaws.{span_at, PartAt, part_behind, head_laid, body_laid, kd_parts, covered_there}

-- the part of what may be missing
module _ (t : Text) (at : ℕ) where
  iv_part : (o : Option Text) → PartAt t IV at o → option_map (part t) (option_map (shown_at IV at) o) ≡ o
  iv_part None p = refl
  iv_part (Some w) p = ap Some p

  edk_part : (o : Option Text) → PartAt t EDK at o → option_map (part t) (option_map (shown_at EDK at) o) ≡ o
  edk_part None p = refl
  edk_part (Some w) p = ap Some p

  ctp_part : (o : Option ℕ) → PartAt t CTP at o
      → option_map (number_part t) (option_map (shown_at CTP at) o) ≡ option_map count.text o
  ctp_part None p = refl
  ctp_part (Some n) p = ap Some p

  ctr_part : (o : Option ℕ) → PartAt t CTR at o
      → option_map (number_part t) (option_map (shown_at CTR at) o) ≡ option_map count.text o
  ctr_part None p = refl
  ctr_part (Some n) p = ap Some p

  edc_part : (o : Option ℕ) → PartAt t EDC at o
      → option_map (number_part t) (option_map (shown_at EDC at) o) ≡ option_map check_text o
  edc_part None p = refl
  edc_part (Some n) p = ap Some p

  second_part : (o : Option csm.Kd) → PartAt t KD at o → MaybeKdParts t (option_map (shown_at KD at) o) o
  second_part None p = no_kd
  second_part (Some k) p = a_kd (kd_parts t (span_at KD at k).at k p)

pub claims : Claims
claims = record {
  head_parts = λ t q e. let p = (head_laid t q e).parts in record { rcv = p.1.0; org = p.1.1.0 };
  rsi_parts = λ t q r e b. let p = (body_laid t q e rsi_row (rsi_values r) (ap print_body b)).parts in
      record { svr = p.0; edc = edc_part t _ r.edc p.1.0 };
  ksm_parts = λ t q r e b. let p = (body_laid t q e ksm_row (ksm_values r) (ap print_body b)).parts in
      record {
        first = kd_parts t _ r.kd p.1.0;
        second = second_part t _ r.second p.1.1.0;
        iv = iv_part t _ r.iv p.1.1.1.0;
        edk = edk_part t _ r.edk p.1.1.1.1.0;
        ctp = p.1.1.1.1.1.0;
        mac = p.1.1.1.1.1.1.0;
      };
  rsm_parts = λ t q r e b. record { mac = (body_laid t q e rsm_row (rsm_values r) (ap print_body b)).parts.0 };
  esm_parts = λ t q r e b. let p = (body_laid t q e esm_row (esm_values r) (ap print_body b)).parts in
      record { ctp = ctp_part t _ r.ctp p.0; ctr = ctr_part t _ r.ctr p.1.0; erf = p.1.1.0; edc = edc_part t _ r.edc p.1.1.1.0 };
  rest_part = λ t q c w e b. part_behind t (body_place q) [] w (41 ∷ []) ((head_laid t q e).rest ∙ ap print_body b)
      (body_place q) (omega arith);
  ksm_covered = λ t q r e b.
      covered_there t q r.mac e (ap mac_of b) (ksm_seen (head_seen q) (body_place q) r).mac.span
      (row_end ksm_row (body_place q) (ksm_values r)) refl
      (body_laid t q e ksm_row (ksm_values r) (ap print_body b)).rest;
  rsm_covered = λ t q r e b.
      covered_there t q r.mac e (ap mac_of b) (rsm_seen (head_seen q) (body_place q) r).mac.span
      (row_end rsm_row (body_place q) (rsm_values r)) refl
      (body_laid t q e rsm_row (rsm_values r) (ap print_body b)).rest;
}
