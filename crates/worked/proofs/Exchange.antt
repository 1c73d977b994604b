-- A worked exchange between MILL and HARBOR, computed with the real cipher: the texts are those of an independent
-- program. Two keys, the first marked P and named, an enciphered IV, a date; under a single top key and under a pair, plain
-- and notarized.
use mathlib.Core.Path.{◌≡◌, refl}
use mathlib.Core.List.{◌++◌}
use Prim.Native.Nat.{ℕ}
use Rattle.octets.specs.Text.{Text, ascii}
use Rattle.octets.specs.Number.{number}
use Rattle.keying.specs.declared.Top.{Top}
use Rattle.keying.specs.declared.Top.TheVariants.{Single, Pair}
use Rattle.keying.specs.Keys.{seal}
use Rattle.keying.specs.Working.{offset, first_half, second_half, add_characters, notary, notarizing, working}
use Rattle.keying.specs.Mac.{mac_key, mac}
use Rattle.keying.specs.Iv.{last_key, conceal}
use Rattle.dea.specs.Chain.{first_block, blocks_of, chained}
use Rattle.dea.proofs.Vectors.{computes as computes_cipher}
use Rattle.csm.specs.Message.{print}
use Rattle.csm.specs.Covered.{covered_part}
use Rattle.partner.specs.declared.Entry.{Entry}
use Rattle.partner.specs.Entry.{filled, name_of, top_of, places, keys_in}
use Rattle.partner.specs.Changes.{loaded}
use Rattle.calls.specs.declared.Request.{Request}
use Rattle.calls.specs.Words.{in_case◌then◌else◌}
use Rattle.calls.specs.Receive.{rsm_text}
use Rattle.calls.specs.Build.{outgoing_of, iv_for, ksm_body, ksm_text}
use Rattle.worked.specs.Worked.{MILL, HARBOR}

-- an entry as it is loaded
abbrev entry : Text → Top → Entry
entry id top = loaded (name_of id) (name_of (ascii "TOP1")) top

abbrev asking : ℕ → Request
asking notarized = record {
  count = 2;
  first = record { key = 0x133457799BBCDFF1; flags = 7; name = name_of (ascii "K1") };
  second = record { key = 0x1F1F1F1F0E0E0E0E; flags = 0; name = name_of (ascii "") };
  kind = 2;
  iv = 0x1122334455667788;
  dated = 1;
  date = record { digits = ascii "840229235959" };
  notarized = notarized;
}

-- MILL's KSM and HARBOR's RSM to it
pub record Exchanged (top : Top) (q : Request) (message reply : Text) : Type 0 where
  pub builds : ksm_text MILL (entry HARBOR top) q ≡ message
  pub answers : rsm_text HARBOR (entry MILL top) (outgoing_of q) ≡ reply

-- what is opened for the example to be computed
unfoldable pub computes : Unit {0}
unfolding
    computes_cipher number first_block blocks_of chained offset first_half second_half add_characters notary notarizing working seal mac_key mac last_key conceal
    print covered_part filled top_of places keys_in loaded in_case◌then◌else◌ rsm_text outgoing_of iv_for ksm_body ksm_text
computes = tt

pub under_a_single_key : Exchanged (Single 0x0123456789ABCDEF) (asking 0)
    (ascii "CSM(MCL/KSM RCV/HARBOR ORG/MILL KD/901DA09F8AC703B0.P.K1.TOP1 KD/810438895363F295 "
    ++ ascii "IV/E216F20D656BCBA0B EDK/840229235959 CTP/1 MAC/839E 1ECD )")
    (ascii "CSM(MCL/RSM RCV/MILL ORG/HARBOR MAC/C159 4913 )")
unfolding computes
under_a_single_key = record { builds = refl; answers = refl }

pub under_a_pair : Exchanged (Pair 0x0123456789ABCDEF 0xFEDCBA9876543210) (asking 0)
    (ascii "CSM(MCL/KSM RCV/HARBOR ORG/MILL KD/BAD32B371DF2EA54.P.K1.TOP1 KD/08A881519EA4889F "
    ++ ascii "IV/E216F20D656BCBA0B EDK/840229235959 CTP/1 MAC/088C 0744 )")
    (ascii "CSM(MCL/RSM RCV/MILL ORG/HARBOR MAC/C159 4913 )")
unfolding computes
under_a_pair = record { builds = refl; answers = refl }

pub notarized : Exchanged (Single 0x0123456789ABCDEF) (asking 1)
    (ascii "CSM(MCL/KSM RCV/HARBOR ORG/MILL NOS/ KD/F7D8ED8E0209A2AF.P.K1.TOP1 KD/EA3EE99E5EC897B8 "
    ++ ascii "IV/E216F20D656BCBA0B EDK/840229235959 CTP/1 MAC/3072 5074 )")
    (ascii "CSM(MCL/RSM RCV/MILL ORG/HARBOR MAC/C159 4913 )")
unfolding computes
notarized = record { builds = refl; answers = refl }

pub notarized_under_a_pair : Exchanged (Pair 0x0123456789ABCDEF 0xFEDCBA9876543210) (asking 1)
    (ascii "CSM(MCL/KSM RCV/HARBOR ORG/MILL NOS/ KD/14022605493E3F42.P.K1.TOP1 KD/6779D22CB62B84F9 "
    ++ ascii "IV/E216F20D656BCBA0B EDK/840229235959 CTP/1 MAC/97F1 3C2E )")
    (ascii "CSM(MCL/RSM RCV/MILL ORG/HARBOR MAC/C159 4913 )")
unfolding computes
notarized_under_a_pair = record { builds = refl; answers = refl }
