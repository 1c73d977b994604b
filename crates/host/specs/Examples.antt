-- Worked examples of the C face: whole reports of 32 bytes, byte by byte. Proved as `examples` in
-- proofs/Examples.antt.
use Rattle.std.specs.Prelude.{◌≡◌, [], ◌∷◌, ◌++◌, ℕ, get_or, Option, None, Some}
use Rattle.octets.specs.Text.{Text, ascii}
use Rattle.octets.specs.Number.{copies}
use Rattle.csm.specs.Format.{value}
use Rattle.csm.specs.Fields.{svr, erf}
use Rattle.calls.specs.Outcome.{Outcome, refusal, complaint, success, nothing, service, keys, confirmation, failure}
use Rattle.outcome.specs.Report.{report}
use Rattle.host.specs.Report.{report_bytes}

-- the report of an outcome
abbrev pub reported : Outcome → Text
reported o = report_bytes (report o)

-- a reply of n bytes
abbrev pub reply : ℕ → Text
reply n = copies n 88

abbrev pub zeros : ℕ → Text
zeros n = copies n 0

-- the service reported for the contents of an SVR
abbrev pub service_reported : Option ℕ → ℕ
service_reported None = 0
service_reported (Some s) = get_or (reported (success [] (service s))) 5 0

pub record Examples : Type 0 where
  -- a KSM that was accepted: letters 2, reply length 2, class 1, service 1, IV present 1, date present 1, IV 8, date 12,
  -- zero 4
  pub iv_and_date : reported (success (reply 47) (keys (Some 0x1122334455667788) (Some (ascii "840229235959"))))
      ≡ 0 ∷ 0 ∷ 0 ∷ 47 ∷ 2 ∷ 0 ∷ 1 ∷ 1 ∷ 0x11 ∷ 0x22 ∷ 0x33 ∷ 0x44 ∷ 0x55 ∷ 0x66 ∷ 0x77 ∷ 0x88 ∷ []
      ++ ascii "840229235959" ++ 0 ∷ 0 ∷ 0 ∷ 0 ∷ []
  pub iv_alone : reported (success (reply 47) (keys (Some 0x1122334455667788) None))
      ≡ 0 ∷ 0 ∷ 0 ∷ 47 ∷ 2 ∷ 0 ∷ 1 ∷ 0 ∷ 0x11 ∷ 0x22 ∷ 0x33 ∷ 0x44 ∷ 0x55 ∷ 0x66 ∷ 0x77 ∷ 0x88 ∷ [] ++ zeros 16
  pub iv_of_zeros : reported (success (reply 47) (keys (Some 0) None)) ≡ 0 ∷ 0 ∷ 0 ∷ 47 ∷ 2 ∷ 0 ∷ 1 ∷ 0 ∷ [] ++ zeros 24
  pub date_alone : reported (success (reply 47) (keys None (Some (ascii "840229235959"))))
      ≡ 0 ∷ 0 ∷ 0 ∷ 47 ∷ 2 ∷ 0 ∷ 0 ∷ 1 ∷ [] ++ zeros 8 ++ ascii "840229235959" ++ 0 ∷ 0 ∷ 0 ∷ 0 ∷ []
  pub keys_alone : reported (success (reply 47) (keys None None)) ≡ 0 ∷ 0 ∷ 0 ∷ 47 ∷ 2 ∷ [] ++ zeros 27
  -- an RSI that wants KD.IV; an RSM that was taken; an ESM of A and U that was taken
  pub rsi : reported (success [] (service 3)) ≡ 0 ∷ 0 ∷ 0 ∷ 0 ∷ 1 ∷ 4 ∷ [] ++ zeros 26
  pub rsm : reported (success [] confirmation) ≡ 0 ∷ 0 ∷ 0 ∷ 0 ∷ 3 ∷ [] ++ zeros 27
  pub esm : reported (success [] (failure 257)) ≡ 1 ∷ 1 ∷ 0 ∷ 0 ∷ 4 ∷ [] ++ zeros 27
  -- 4 with F, M and P, and an ESM of 60 bytes
  pub error : reported (complaint 164 (reply 60)) ≡ 0 ∷ 164 ∷ 0 ∷ 60 ∷ [] ++ zeros 28
  -- a message that was built; a new image
  pub message : reported (success (reply 232) nothing) ≡ 0 ∷ 0 ∷ 0 ∷ 232 ∷ [] ++ zeros 28
  pub new_image : reported (success (reply 10_065) nothing) ≡ 0 ∷ 0 ∷ 0x27 ∷ 0x51 ∷ [] ++ zeros 28
  -- a refusal is zero throughout
  pub refused : reported (refusal 13) ≡ zeros 32
  -- bit 0 A, 1 B, 2 F, 3 I, 4 K, 5 M, 6 O, 7 P, 8 U
  pub letter_A : value erf (ascii "A") ≡ Some 1
  pub letter_B : value erf (ascii "B") ≡ Some 2
  pub letter_F : value erf (ascii "F") ≡ Some 4
  pub letter_I : value erf (ascii "I") ≡ Some 8
  pub letter_K : value erf (ascii "K") ≡ Some 16
  pub letter_M : value erf (ascii "M") ≡ Some 32
  pub letter_O : value erf (ascii "O") ≡ Some 64
  pub letter_P : value erf (ascii "P") ≡ Some 128
  pub letter_U : value erf (ascii "U") ≡ Some 256
  pub letters_FMP : value erf (ascii "FMP") ≡ Some 164
  -- 1 empty, 2 IV, 3 KD, 4 KD.IV, 5 KK, 6 KK.IV, 7 KK.KD, 8 KK.KD.IV, 9 *KK, 10 *KK.IV, 11 *KK.KD, 12 *KK.KD.IV
  pub service_empty : service_reported (value svr (ascii "")) ≡ 1
  pub service_IV : service_reported (value svr (ascii "IV")) ≡ 2
  pub service_KD : service_reported (value svr (ascii "KD")) ≡ 3
  pub service_KD_IV : service_reported (value svr (ascii "KD.IV")) ≡ 4
  pub service_KK : service_reported (value svr (ascii "KK")) ≡ 5
  pub service_KK_IV : service_reported (value svr (ascii "KK.IV")) ≡ 6
  pub service_KK_KD : service_reported (value svr (ascii "KK.KD")) ≡ 7
  pub service_KK_KD_IV : service_reported (value svr (ascii "KK.KD.IV")) ≡ 8
  pub service_pair : service_reported (value svr (ascii "*KK")) ≡ 9
  pub service_pair_IV : service_reported (value svr (ascii "*KK.IV")) ≡ 10
  pub service_pair_KD : service_reported (value svr (ascii "*KK.KD")) ≡ 11
  pub service_pair_KD_IV : service_reported (value svr (ascii "*KK.KD.IV")) ≡ 12
