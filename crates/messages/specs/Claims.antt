-- What is claimed of the messages that are written. proofs/Claims.antt proves it.
use Rattle.std.specs.Prelude.{◌≡◌, Bool, true, false, ℕ, ◌≤◌, length, take, drop, Option, None, Some}
use Rattle.octets.specs.Text.{Text, ascii}
use Rattle.keying.specs.Mac.{mac}
use Rattle.csm.specs.Fields.{erf}
use Rattle.csm.specs.Message.{Reading, legal, print, read}
use Rattle.csm.specs.Covered.{covered, mac_of}
use Rattle.writer.specs.declared.Vector.TheVariants.{Plain}
use Rattle.messages.specs.declared.Counts.{Counts}
use Rattle.messages.specs.declared.Ksm.{Ksm}
use Rattle.messages.specs.Readings.{rsi_reading, rsm_reading, esm_reading, ksm_reading}
use Rattle.messages.specs.Answers.{answer, buffer}

-- the reading r was written into the buffer l, in n bytes, at most `longest`
pub record Left (r : Reading) (l : Text) (n longest : ℕ) : Type 0 where
  pub room : 256 ≤ length l
  pub is_legal : legal r ≡ true
  -- the text of the reading, byte for byte; its length; behind it the bytes that were there, none more or less
  pub text : take n (buffer r l) ≡ print r
  pub count : n ≡ length (print r)
  pub behind : drop n (buffer r l) ≡ drop n l
  pub size : length (buffer r l) ≡ length l
  -- it is read as that reading
  pub back : read (take n (buffer r l)) ≡ Some r
  pub bound : n ≤ longest

-- with NOS or without it: names of 16, both keys marked, IV, EDK, a count of eight digits
abbrev pub long_ksm : Bool → ℕ → ℕ → ℕ → Ksm
long_ksm nos a b v = record {
  nos = nos;
  first = record { sealed = a; p = true; idk1 = ascii "FIRSTKEYFIRSTKEY"; idk2 = ascii "TOPKEYTOPKEYTOPK" };
  second = Some (record { sealed = b; p = true; idk1 = ascii "OTHERKEYOTHERKEY"; idk2 = ascii "TOPKEYTOPKEYTOPK" });
  vector = Some (Plain v);
  edk = Some (ascii "840229235959");
  ctp = 99_999_998;
}

pub record Claims : Type 0 where
  -- what is legal is written where there is room, and else nothing is touched
  pub written : (r : Reading) (l : Text) → 256 ≤ length l → legal r ≡ true → answer r l ≡ Some (length (print r))
  pub untouched : (r : Reading) (l : Text) → answer r l ≡ None → buffer r l ≡ l
  -- an RSI and an RSM have at most 69 bytes, an ESM 95, or 89 with three letters, a KSM 237
  pub rsi_left : (rcv org l : Text) (service n : ℕ) → answer (rsi_reading rcv org service) l ≡ Some n
      → Left (rsi_reading rcv org service) l n 69
  pub rsm_left : (rcv org l : Text) (key n : ℕ) → answer (rsm_reading rcv org key) l ≡ Some n
      → Left (rsm_reading rcv org key) l n 69
  pub esm_left : (rcv org l : Text) (letters : ℕ) (counts : Option Counts) (n : ℕ)
      → answer (esm_reading rcv org letters counts) l ≡ Some n
      → Left (esm_reading rcv org letters counts) l n 95
  pub esm_of_three : (rcv org l : Text) (letters : ℕ) (counts : Option Counts) (n : ℕ) → length (erf.text letters) ≤ 3
      → answer (esm_reading rcv org letters counts) l ≡ Some n
      → Left (esm_reading rcv org letters counts) l n 89
  pub ksm_left : (rcv org : Text) (k : Ksm) (key : ℕ) (l : Text) (n : ℕ) → answer (ksm_reading rcv org k key) l ≡ Some n
      → Left (ksm_reading rcv org k key) l n 237
  -- the MAC is that of the text from the M of `MCL/` through the blank before `MAC/`
  pub rsm_mac : (rcv org : Text) (key : ℕ) → legal (rsm_reading rcv org key) ≡ true
      → mac_of (rsm_reading rcv org key).body ≡ Some (mac key (covered (print (rsm_reading rcv org key))))
  pub ksm_mac : (rcv org : Text) (k : Ksm) (key : ℕ) → legal (ksm_reading rcv org k key) ≡ true
      → mac_of (ksm_reading rcv org k key).body ≡ Some (mac key (covered (print (ksm_reading rcv org k key))))
  -- the RSM from MILL to HARBOR: 47 bytes, MAC over 28
  pub mill_to_harbor : (key : ℕ) → length (print (rsm_reading (ascii "HARBOR") (ascii "MILL") key)) ≡ 47
  pub mill_to_harbor_covered : (key : ℕ)
      → length (covered (print (rsm_reading (ascii "HARBOR") (ascii "MILL") key))) ≡ 28
  -- a KSM of 237 bytes, and without NOS of 232
  pub longest_ksm : (a b v key : ℕ)
      → length (print (ksm_reading (ascii "HARBORHARBORHARB") (ascii "MILLMILLMILLMILL") (long_ksm true a b v) key)) ≡ 237
  pub longest_without_nos : (a b v key : ℕ)
      → length (print (ksm_reading (ascii "HARBORHARBORHARB") (ascii "MILLMILLMILLMILL") (long_ksm false a b v) key)) ≡ 232
