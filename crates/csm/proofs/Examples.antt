-- Texts that are messages and texts that are none, each decided by computation.
use Rattle.std.specs.Prelude.{Option, None, Some}
use mathlib.Core.Path.{◌≡◌, refl}
use mathlib.Core.Bool.{Bool, true, false, not, ◌&&◌}
use mathlib.Core.List.{List, [], ◌∷◌, ◌++◌}
use Prim.Native.Nat.{ℕ}
use Prim.Native.String.{String}
use lib.ListN.{length}
use Rattle.octets.specs.Text.{Text, ascii, blank}
use Rattle.octets.specs.Number.{copies}
use Rattle.octets.specs.Part.{found}
use Rattle.csm.specs.Format.{value}
use Rattle.csm.specs.Fields.{Kd, kd, Class, RSI, KSM, DSM, ERS, RFS, RTR}
use Rattle.csm.specs.Message.{Reading, Body, rsi, ksm, rsm, esm, option, read, print}
use Rattle.csm.specs.Covered.{covered, covered_part}

-- to whom, from whom, what
abbrev to : String → String → Body → Reading
to rcv org b = record { rcv = ascii rcv; org = ascii org; body = b }

abbrev key : ℕ → Bool → Option Text → Option Text → Kd
key k p i j = record { key = k; p = p; idk1 = i; idk2 = j }

-- ---- readings

-- document 01's own line, of 43 bytes
harbor : read (ascii "CSM(MCL/RSI RCV/HARBOR ORG/MILL SVR/KD.IV )")
    ≡ Some (to "HARBOR" "MILL" (rsi (record { svr = 3; edc = None })))
unfolding read
harbor = refl

harbor_bytes : length (ascii "CSM(MCL/RSI RCV/HARBOR ORG/MILL SVR/KD.IV )") ≡ 43
harbor_bytes = refl

-- the empty service, and an EDC
one_key : read (ascii "CSM(MCL/RSI RCV/HARBOR ORG/MILL SVR/ EDC/00FF 0001 )")
    ≡ Some (to "HARBOR" "MILL" (rsi (record { svr = 0; edc = Some 0x00ff0001 })))
unfolding read
one_key = refl

two_keys :
    read (
    ascii "CSM(MCL/KSM RCV/B ORG/A KD/0123456789ABCDEF.P KD/FEDCBA9876543210...T "
    ++ ascii "IV/E0123456789ABCDEF EDK/840229235959 CTP/12 MAC/0123 ABCD )"
    )
    ≡ Some (to "B" "A" (ksm (record {
      nos = false;
      kd = key 0x0123456789abcdef true None None;
      second = Some (key 0xfedcba9876543210 false None (Some (ascii "T")));
      iv = Some (ascii "E0123456789ABCDEF");
      edk = Some (ascii "840229235959");
      ctp = 12;
      mac = 0x0123abcd;
    })))
unfolding read
two_keys = refl

-- a notarized KSM: its MAC covers NOS
abbrev notarized : Text
notarized = ascii "CSM(MCL/KSM RCV/B ORG/A NOS/ KD/0123456789ABCDEF CTP/1 MAC/0123 ABCD )"

abbrev notarized_reading : Reading
notarized_reading =
    to "B" "A" (ksm (record {
      nos = true;
      kd = key 0x0123456789abcdef false None None;
      second = None;
      iv = None;
      edk = None;
      ctp = 1;
      mac = 0x0123abcd;
    }))

notarized_read : read notarized ≡ Some notarized_reading
unfolding read
notarized_read = refl

abbrev notarized_covers : Text
notarized_covers = ascii "MCL/KSM RCV/B ORG/A NOS/ KD/0123456789ABCDEF CTP/1 "

notarized_covered : (covered notarized ≡ notarized_covers) × (covered_part notarized_reading ≡ notarized_covers)
unfolding covered covered_part
notarized_covered = (refl, refl)

-- an RSM from MILL to HARBOR: 47 bytes, MAC over 28
answer : print (to "HARBOR" "MILL" (rsm (record { mac = 0x0123abcd })))
    ≡ ascii "CSM(MCL/RSM RCV/HARBOR ORG/MILL MAC/0123 ABCD )"
unfolding print
answer = refl

answer_bytes : length (ascii "CSM(MCL/RSM RCV/HARBOR ORG/MILL MAC/0123 ABCD )") ≡ 47
answer_bytes = refl

answer_covered : covered (ascii "CSM(MCL/RSM RCV/HARBOR ORG/MILL MAC/0123 ABCD )")
    ≡ ascii "MCL/RSM RCV/HARBOR ORG/MILL "
unfolding covered
answer_covered = refl

answer_covered_bytes : length (ascii "MCL/RSM RCV/HARBOR ORG/MILL ") ≡ 28
answer_covered_bytes = refl

errors_with_P : read (ascii "CSM(MCL/ESM RCV/MILL ORG/HARBOR CTP/5 CTR/4 ERF/FP EDC/0000 0001 )")
    ≡ Some (to "MILL" "HARBOR" (esm (record { ctp = Some 5; ctr = Some 4; erf = 132; edc = Some 1 })))
unfolding read
errors_with_P = refl

every_letter : read (ascii "CSM(MCL/ESM RCV/MILL ORG/HARBOR CTP/1 CTR/99999999 ERF/ABFIKMOPU )")
    ≡ Some (to "MILL" "HARBOR" (esm (record { ctp = Some 1; ctr = Some 99_999_999; erf = 511; edc = None })))
unfolding read
every_letter = refl

-- ---- options: every one is readable

abbrev option_of : Class → String → Option Reading
option_of c w = Some (to "B" "A" (option c (ascii w)))

options :
    (read (ascii "CSM(MCL/DSM RCV/B ORG/A )") ≡ option_of DSM "")
    × (read (ascii "CSM(MCL/DSM RCV/B ORG/A IDD/X-1.*K )") ≡ option_of DSM "IDD/X-1.*K ")
    × (read (ascii "CSM(MCL/ERS RCV/B ORG/A IDC/X )") ≡ option_of ERS "IDC/X ")
    × (read (ascii "CSM(MCL/RFS RCV/B ORG/A X )") ≡ option_of RFS "X ")
    × (read (ascii "CSM(MCL/RTR RCV/B ORG/A  )") ≡ option_of RTR " ")
    × (read (ascii "CSM(MCL/KSM RCV/B ORG/A IDC/X )") ≡ option_of KSM "IDC/X ")
    × (read (ascii "CSM(MCL/KSM RCV/B ORG/A KK/X )") ≡ option_of KSM "KK/X ")
    × (read (ascii "CSM(MCL/KSM RCV/B ORG/A *KK/X )") ≡ option_of KSM "*KK/X ")
    × (read (ascii "CSM(MCL/KSM RCV/B ORG/A KKU/X )") ≡ option_of KSM "KKU/X ")
    × (read (ascii "CSM(MCL/KSM RCV/B ORG/A *KKU/X )") ≡ option_of KSM "*KKU/X ")
    × (read (ascii "CSM(MCL/KSM RCV/B ORG/A KDU/ )") ≡ option_of KSM "KDU/ ")
    × (read (ascii "CSM(MCL/RSI RCV/B ORG/A IDU/X )") ≡ option_of RSI "IDU/X ")
    × (read (ascii "CSM(MCL/RSI RCV/B ORG/A IDC/X )") ≡ option_of RSI "IDC/X ")
unfolding read
options = (refl, refl, refl, refl, refl, refl, refl, refl, refl, refl, refl, refl, refl)

-- ---- 512 bytes are read, 513 are none

abbrev blanks : ℕ → Text
blanks n = ascii "CSM(MCL/DSM RCV/B ORG/A " ++ (copies n blank ++ ascii ")")

longest : (length (blanks 487) ≡ 512) × (found (read (blanks 487)) ≡ true) × (read (blanks 488) ≡ None)
unfolding read
longest = (refl, refl, refl)

-- ---- texts that are none

abbrev none_of : List String → Bool
none_of [] = true
none_of (t ∷ ts) = not (found (read (ascii t))) && none_of ts

refused : none_of (
    "" ∷ "CSM"
    -- IV before KD, another service
    ∷ "CSM(MCL/RSI RCV/HARBOR ORG/MILL SVR/IV.KD )"
    ∷ "CSM(MCL/RSI RCV/HARBOR ORG/MILL SVR/KD. )"
    -- a byte before, a byte after, no blank after the last field
    ∷ " CSM(MCL/RSI RCV/HARBOR ORG/MILL SVR/ )"
    ∷ "CSM(MCL/RSI RCV/HARBOR ORG/MILL SVR/ ) "
    ∷ "CSM(MCL/RSI RCV/HARBOR ORG/MILL SVR/)"
    -- a name of 17, no name, another class
    ∷ "CSM(MCL/RSI RCV/ABCDEFGHIJKLMNOPQ ORG/MILL SVR/ )"
    ∷ "CSM(MCL/RSI RCV/ ORG/MILL SVR/ )"
    ∷ "CSM(MCL/RSX RCV/HARBOR ORG/MILL SVR/ )"
    -- an EDC that is not of two halves
    ∷ "CSM(MCL/RSI RCV/HARBOR ORG/MILL SVR/ EDC/00FF0001 )"
    ∷ "CSM(MCL/RSI RCV/HARBOR ORG/MILL SVR/ EDC/00FF00 01 )"
    -- a leading zero, zero, nine digits
    ∷ "CSM(MCL/KSM RCV/B ORG/A KD/0123456789ABCDEF CTP/01 MAC/0123 ABCD )"
    ∷ "CSM(MCL/KSM RCV/B ORG/A KD/0123456789ABCDEF CTP/0 MAC/0123 ABCD )"
    ∷ "CSM(MCL/KSM RCV/B ORG/A KD/0123456789ABCDEF CTP/100000000 MAC/0123 ABCD )"
    -- fields out of order, three KDs, small hex digits
    ∷ "CSM(MCL/KSM RCV/B ORG/A CTP/1 KD/0123456789ABCDEF MAC/0123 ABCD )"
    ∷ "CSM(MCL/KSM RCV/B ORG/A KD/0123456789ABCDEF KD/0123456789ABCDEF KD/0123456789ABCDEF CTP/1 MAC/0123 ABCD )"
    ∷ "CSM(MCL/KSM RCV/B ORG/A KD/0123456789ABCDEF CTP/1 MAC/0123 abcd )"
    -- an IV of 18, an EDK of 11
    ∷ "CSM(MCL/KSM RCV/B ORG/A KD/0123456789ABCDEF IV/E0123456789ABCDEF0 CTP/1 MAC/0123 ABCD )"
    ∷ "CSM(MCL/KSM RCV/B ORG/A KD/0123456789ABCDEF EDK/84022923595 CTP/1 MAC/0123 ABCD )"
    -- NOS twice, after a KD, with contents, before what is no KD
    ∷ "CSM(MCL/KSM RCV/B ORG/A NOS/ NOS/ KD/0123456789ABCDEF CTP/1 MAC/0123 ABCD )"
    ∷ "CSM(MCL/KSM RCV/B ORG/A KD/0123456789ABCDEF NOS/ CTP/1 MAC/0123 ABCD )"
    ∷ "CSM(MCL/KSM RCV/B ORG/A NOS/X KD/0123456789ABCDEF CTP/1 MAC/0123 ABCD )"
    ∷ "CSM(MCL/KSM RCV/B ORG/A NOS/ CTP/1 MAC/0123 ABCD )"
    ∷ "CSM(MCL/KSM RCV/B ORG/A NOS/ KD/.. )"
    ∷ "CSM(MCL/KSM RCV/B ORG/A NOS/ IDC/X )"
    ∷ "CSM(MCL/KSM RCV/B ORG/A NOS/ KK/X )"
    ∷ "CSM(MCL/KSM RCV/B ORG/A NOS/ )"
    -- counts without P, one count with P, P without counts
    ∷ "CSM(MCL/ESM RCV/MILL ORG/HARBOR CTP/5 CTR/4 ERF/F )"
    ∷ "CSM(MCL/ESM RCV/MILL ORG/HARBOR CTP/5 ERF/F )"
    ∷ "CSM(MCL/ESM RCV/MILL ORG/HARBOR CTP/5 ERF/P )"
    ∷ "CSM(MCL/ESM RCV/MILL ORG/HARBOR ERF/P )"
    -- a letter twice, letters out of order, none, another one
    ∷ "CSM(MCL/ESM RCV/MILL ORG/HARBOR ERF/FF )"
    ∷ "CSM(MCL/ESM RCV/MILL ORG/HARBOR ERF/MF )"
    ∷ "CSM(MCL/ESM RCV/MILL ORG/HARBOR ERF/ )"
    ∷ "CSM(MCL/ESM RCV/MILL ORG/HARBOR ERF/C )"
    -- a rest that does not end in a blank, a parenthesis in it, an option of another class
    ∷ "CSM(MCL/DSM RCV/B ORG/A IDD/X)"
    ∷ "CSM(MCL/DSM RCV/B ORG/A IDD/( )"
    ∷ "CSM(MCL/RSM RCV/B ORG/A IDC/X )"
    ∷ "CSM(MCL/KSM RCV/B ORG/A IDU/X )"
    ∷ []) ≡ true
unfolding read
refused = refl

-- ---- KD: the eight shapes, a key named P, and some that are none

abbrev kd_of : String → Option Kd
kd_of t = value kd (ascii t)

abbrev name_K : Option Text
name_K = Some (ascii "K")

abbrev name_N : Option Text
name_N = Some (ascii "NAME")

shapes :
    (kd_of "0123456789ABCDEF" ≡ Some (key 0x0123456789abcdef false None None))
    × (kd_of "0123456789ABCDEF.P" ≡ Some (key 0x0123456789abcdef true None None))
    × (kd_of "0123456789ABCDEF..K" ≡ Some (key 0x0123456789abcdef false name_K None))
    × (kd_of "0123456789ABCDEF.P.K" ≡ Some (key 0x0123456789abcdef true name_K None))
    × (kd_of "0123456789ABCDEF...NAME" ≡ Some (key 0x0123456789abcdef false None name_N))
    × (kd_of "0123456789ABCDEF.P..NAME" ≡ Some (key 0x0123456789abcdef true None name_N))
    × (kd_of "0123456789ABCDEF..K.NAME" ≡ Some (key 0x0123456789abcdef false name_K name_N))
    × (kd_of "0123456789ABCDEF.P.K.NAME" ≡ Some (key 0x0123456789abcdef true name_K name_N))
    × (kd_of "0123456789ABCDEF..P" ≡ Some (key 0x0123456789abcdef false (Some (ascii "P")) None))
shapes = (refl, refl, refl, refl, refl, refl, refl, refl, refl)

no_shapes :
    (kd_of "0123456789ABCDEF." ≡ None) × (kd_of "0123456789ABCDEF.." ≡ None)
    × (kd_of "0123456789ABCDEF.P." ≡ None) × (kd_of "0123456789ABCDEF.NAME" ≡ None)
    × (kd_of "0123456789abcdef" ≡ None) × (kd_of "0123456789ABCDE" ≡ None)
    × (kd_of "0123456789ABCDEF.P.K.NAME.X" ≡ None)
no_shapes = (refl, refl, refl, refl, refl, refl, refl)
