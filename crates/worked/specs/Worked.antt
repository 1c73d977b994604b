-- What is asked of MILL, whose other card is HARBOR, worked out. Proved as `worked` in proofs/Asked.antt.
use Rattle.std.specs.Prelude.{List, [], ◌∷◌, ℕ, ◌^◌}
use Rattle.octets.specs.Text.{Text, ascii}
use Rattle.keying.specs.declared.Top.{Top}
use Rattle.keying.specs.declared.Top.TheVariants.{Single, Pair}
use Rattle.partner.specs.Entry.{name_of}
use Rattle.partner.specs.Table.{Table, started}
use Rattle.calls.specs.declared.KeyRequest.{KeyRequest}
use Rattle.calls.specs.declared.Request.{Request}
use Rattle.calls.specs.Calls.{Call, receive, about, build_ksm, build_rsi, give_up, load, remove, ask, run}
use Rattle.line.specs.Line.{Allowed, Distinct}

abbrev pub MILL : Text
MILL = ascii "MILL"

abbrev pub HARBOR : Text
HARBOR = ascii "HARBOR"

-- a third card
abbrev pub QUAY : Text
QUAY = ascii "QUAY"

-- the pair that MILL and HARBOR share, and its name
abbrev pub key_name : Text
key_name = ascii "K1"

abbrev pub pair : Top
pair = Pair 0x0123456789ABCDEF 0xFEDCBA9876543210

-- another name, another key, and the pair mistyped: its last byte is even
abbrev pub other_name : Text
other_name = ascii "K2"

abbrev pub other_key : Top
other_key = Single 0x0123456789ABCDEF

abbrev pub mistyped : Top
mistyped = Pair 0x0123456789ABCDEF 0xFEDCBA9876543211

-- a request of two keys
abbrev pub request : KeyRequest → KeyRequest → Request
request k l = record {
  count = 2;
  first = k;
  second = l;
  kind = 0;
  iv = 0;
  dated = 0;
  date = record { digits = ascii "000000000000" };
  notarized = 0;
}

-- a key with no mark and no name
abbrev plain : ℕ → KeyRequest
plain key = record { key = key; flags = 0; name = name_of [] }

-- the largest number of 64 bits
abbrev largest : ℕ
largest = 0xFFFFFFFFFFFFFFFF

-- MILL's table before and after HARBOR was loaded
abbrev before : Table
before = started (name_of MILL)

abbrev after : Table
after = (run before (load HARBOR key_name pair)).table

-- a message of HARBOR's and one of QUAY's
abbrev from_harbor : Text
from_harbor = ascii "CSM(MCL/RSI RCV/MILL ORG/HARBOR SVR/KD.IV )"

abbrev from_quay : Text
from_quay = ascii "CSM(MCL/RSI RCV/MILL ORG/QUAY SVR/KD.IV )"

-- a call of MILL's is allowed where HARBOR has written this
abbrev May : List Text → Table → Call → Type 0
May wrote t c = Allowed key_name pair HARBOR wrote c (run t c).outcome.answer

-- MILL's key messages to HARBOR: the second calls for the same MAC as the first, the third, whose key is
-- notarized, does not
abbrev pub first_ksm : Text
first_ksm =
    ascii "CSM(MCL/KSM RCV/HARBOR ORG/MILL KD/3EB3B72576BBBE83..ONE KD/5601104F2DF94405 CTP/1 MAC/3130 F0C0 )"

abbrev pub second_ksm : Text
second_ksm = ascii "CSM(MCL/KSM RCV/HARBOR ORG/MILL KD/91244E2E40DC0C9F KD/8B22C6A850812124 CTP/2 MAC/8535 60F0 )"

abbrev pub third_ksm : Text
third_ksm = ascii "CSM(MCL/KSM RCV/HARBOR ORG/MILL NOS/ KD/47FA2C85AEAAD93E..TWO CTP/2 MAC/623F 70B3 )"

pub record Worked : Type 0 where
  -- a message naming HARBOR as originator was written by it
  pub written_by_harbor : May (from_harbor ∷ []) after (receive 256 from_harbor)
  pub not_written_by_harbor : May (from_quay ∷ []) after (receive 256 from_harbor) → ⊥
  pub not_written_by_quay : May [] after (receive 256 from_quay)
  pub no_message : May [] after (receive 256 (ascii "CSM"))
  -- the keys of a request are numbers of 64 bits
  pub keys_of_64_bits : May [] after (about HARBOR (build_ksm 256 (request (plain largest) (plain largest))))
  pub first_too_large : May [] after (about HARBOR (build_ksm 256 (request (plain (2 ^ 64)) (plain 0)))) → ⊥
  pub second_too_large : May [] after (about HARBOR (build_ksm 256 (request (plain 0) (plain (2 ^ 64))))) → ⊥
  -- of these nothing is asked
  pub rsi_built : May [] after (about HARBOR (build_rsi 256 (ascii "KD.IV")))
  pub given_up : May [] after (about HARBOR give_up)
  pub asked : May [] after (about HARBOR ask)
  -- a load of HARBOR is refused, or has the pair under its name
  pub loaded : May [] before (load HARBOR key_name pair)
  pub loaded_under_another_name : May [] before (load HARBOR other_name pair) → ⊥
  pub loaded_with_another_key : May [] before (load HARBOR key_name other_key) → ⊥
  pub mistyped_is_refused : May [] before (load HARBOR key_name mistyped)
  pub taken_is_refused : May [] after (load HARBOR other_name other_key)
  pub third_loaded : May [] after (load QUAY other_name other_key)
  -- a remove does not find HARBOR
  pub nobody_removed : May [] before (about HARBOR remove)
  pub harbor_removed : May [] after (about HARBOR remove) → ⊥
  pub third_removed : May [] (run after (load QUAY other_name other_key)).table (about QUAY remove)
  -- no two key messages call for answers with equal MACs
  pub equal_macs : Distinct MILL HARBOR key_name pair (second_ksm ∷ first_ksm ∷ []) → ⊥
  pub different_macs : Distinct MILL HARBOR key_name pair (third_ksm ∷ first_ksm ∷ [])
