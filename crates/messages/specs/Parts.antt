-- What the private writers leave and the private tests ask, between which the contracts of the public writers choose.
-- No belief rests on these: proofs/ ties them to the readings.
use Rattle.std.specs.Prelude.{Bool, not, ◌&&◌, ◌++◌, ℕ, ◌-◌, ◌/◌, ◌%◌, eqb, take, drop, Option, None, Some, option_map}
use Rattle.octets.specs.Text.{Text, ascii, within}
use Rattle.octets.specs.Part.{bare}
use Rattle.csm.specs.Format.{maybe_legal, maybe_print}
use Rattle.csm.specs.Fields.{hex, nonempty, legal_name, field, KD, EDK, CTP, CTR, MAC}
use Rattle.csm.specs.Message.{Reading}
use Rattle.csm.specs.Covered.{covered_part}
use Rattle.keying.specs.Mac.{mac}
use Rattle.writer.specs.declared.Key.{Key}
use Rattle.messages.specs.declared.Counts.{Counts}
use Rattle.messages.specs.declared.Ksm.{Ksm}
use Rattle.writer.specs.Contents.{kd_of}
use Rattle.messages.specs.Readings.{ctp_of, ctr_of}

-- ---- texts

-- CTP and CTR
unfoldable pub counts_text : Option Counts → Text
counts_text c = maybe_print (field CTP) (ctp_of c) ++ maybe_print (field CTR) (ctr_of c)

-- a reading's text up to its MAC
unfoldable pub unsealed_text : (ℕ → Reading) → Text
unsealed_text unsealed = ascii "CSM(" ++ covered_part (unsealed 0)

-- the first n bytes, the MAC over those behind `CSM(`, and the end
unfoldable pub sealed_front : ℕ → ℕ → Text → Text
sealed_front n key l = take n l ++ ((field MAC).print (mac key (take (n - 4) (drop 4 l))) ++ ascii ")")

-- ---- what is legal

-- counts of 1 to 99,999,999
unfoldable pub counts_legal : Option Counts → Bool
counts_legal c = maybe_legal (field CTP) (ctp_of c) && maybe_legal (field CTR) (ctr_of c)

-- counts are there, or are not
abbrev pub counts_agree : Option Counts → Bool → Bool
counts_agree None both = not both
counts_agree (Some c) both = both

-- letters, and counts exactly with P
unfoldable pub error_legal : ℕ → Option Counts → Bool
error_legal letters counts =
    within 1 511 letters && (counts_agree counts (eqb (letters / 128 % 2) 1) && counts_legal counts)

-- a KD: its key has 16 hex digits, its names are well-formed or none
unfoldable pub kd_legal : Key → Bool
kd_legal key =
    (hex 16).legal key.sealed && (legal_name (nonempty (bare key.idk1)) && legal_name (nonempty (bare key.idk2)))

-- the parts of a KSM: one KD or two, a date or none, a count
unfoldable pub ksm_legal : Ksm → Bool
ksm_legal k =
    (kd_legal k.first && maybe_legal (field KD) (option_map kd_of k.second))
    && maybe_legal (field EDK) k.edk
    && within 1 99_999_999 k.ctp
