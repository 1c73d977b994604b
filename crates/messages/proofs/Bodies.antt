-- What the code asks of each class's parts is what makes its body legal.
use Rattle.std.specs.Prelude.{Option, None, Some, option_map}
use mathlib.Core.Path.{◌≡◌, refl, ap, ◌∙◌}
use mathlib.Core.Bool.{Bool, true, false, cond, not, ◌&&◌, and-true as and_yes, and-false as and_no}
use mathlib.Core.List.{◌∷◌}
use Prim.Native.Nat.{ℕ, ◌/◌, ◌%◌, ◌^◌, ◌<◌}
use native.Mathlib.Omega.{arith}
use lib.Dec.{ltb}
use lib.ListN.{length}
use borrow.Author.Tests.{lt-ltb}
use Rattle.octets.specs.Text.{Text, all, within, run_char, is_run}
use Rattle.keying.specs.Mac.{mac}
use Rattle.keying.proofs.Laws.{mac_lt}
use Rattle.csm.specs.Format.{maybe_legal}
use Rattle.csm.specs.Fields.{hex_text, field, has_P, contents, KD, IV, EDK, MAC}
use Rattle.csm.specs.Covered.{covered_part}
use Rattle.csm.proofs.TextLaws.{true_within, run_wider, all_weaker}
use Rattle.csm.proofs.MessageLaws.{flagged_legal}
use Rattle.csm.proofs.NumberLaws.{hex_run, hex_length}
use Rattle.csm.proofs.WordTests.{has_P_bit}
use Rattle.writer.specs.declared.Vector.{Vector}
use Rattle.writer.specs.declared.Vector.TheVariants.{Plain, Enciphered}
use Rattle.messages.specs.declared.Counts.{Counts}
use Rattle.messages.specs.declared.Ksm.{Ksm}
use Rattle.messages.specs.Readings.{rsi_reading, rsm_reading, esm_reading, ksm_reading, unsealed_rsm}
use Rattle.writer.specs.Contents.{kd_of, iv_of}
use Rattle.messages.specs.Readings.{unsealed_ksm}
use Rattle.messages.proofs.Judging.{body_legal}
use Rattle.messages.specs.Parts.{counts_legal, error_legal, kd_legal, ksm_legal}

-- ---- RSI and RSM

pub rsi_legal : (rcv org : Text) (s : ℕ) → body_legal (rsi_reading rcv org s) ≡ ltb s 12
unfolding body_legal rsi_reading
rsi_legal rcv org s = and_yes (ltb s 12)

pub mac_legal : (m : ℕ) → m < 2 ^ 32 → (contents MAC).legal m ≡ true
mac_legal m h =
    rw (lt-ltb (m / 65536) 65536 (omega arith), lt-ltb (m % 65536) 65536 (omega arith))

pub rsm_legal : (rcv org : Text) (key : ℕ) → body_legal (rsm_reading rcv org key) ≡ true
unfolding body_legal rsm_reading
rsm_legal rcv org key =
    let t = covered_part (unsealed_rsm rcv org 0) in
    and_yes ((contents MAC).legal (mac key t)) ∙ mac_legal (mac key t) (mac_lt key t)

-- ---- ESM

-- with counts and without, in the order of the fields
ordered : (w p r h : Bool) → (p && (r && (w && true))) && cond h true false ≡ w && (h && (p && r))
ordered true p r true = rw (and_yes r, and_yes (p && r))
ordered true p r false = and_no (p && (r && true))
ordered false p r h = rw (and_no r, and_no p)

countless : (w h : Bool) → (w && true) && cond h false true ≡ w && (not h && true)
countless true true = refl
countless true false = refl
countless false h = refl

pub esm_legal : (rcv org : Text) (n : ℕ) (c : Option Counts)
    → body_legal (esm_reading rcv org n c) ≡ error_legal n c
unfolding body_legal esm_reading error_legal counts_legal
esm_legal rcv org n None =
    countless (within 1 511 n) (has_P n) ∙ ap (λ (x : Bool). within 1 511 n && (not x && true)) (has_P_bit n)
esm_legal rcv org n (Some c) =
    let a = within 1 99_999_999 c.ctp in
    let b = within 1 99_999_999 c.ctr in
    ordered (within 1 511 n) a b (has_P n) ∙ ap (λ (x : Bool). within 1 511 n && (x && (a && b))) (has_P_bit n)

-- ---- KSM

-- hex digits are characters of an IV
iv_run : (x v : ℕ) → run_char 90 x ≡ true → is_run 90 1 17 (x ∷ hex_text 16 v) ≡ true
iv_run x v k =
    let l = hex_length 16 v in
    let a : all (run_char 90) (hex_text 16 v) ≡ true =
    all_weaker (run_char 70) (run_char 90) (run_wider 70 90 (omega arith)) (hex_text 16 v) (hex_run 16 v) in
    rw (k, a) (true_within 1 17 (length (x ∷ hex_text 16 v)) (omega arith) (omega arith))

pub iv_legal : (v : Option Vector) → maybe_legal (field IV) (option_map iv_of v) ≡ true
iv_legal None = refl
iv_legal (Some (Plain v)) = iv_run 80 v refl
iv_legal (Some (Enciphered v)) = iv_run 69 v refl

-- the order of the fields
ordered_ksm : (k s e c : Bool) → k && (s && (e && (c && true))) ≡ k && s && e && c
ordered_ksm true true e c = ap (λ (b : Bool). e && b) (and_yes c)
ordered_ksm true false e c = refl
ordered_ksm false s e c = refl

pub ksm_body_legal : (rcv org : Text) (k : Ksm) (key : ℕ) → body_legal (ksm_reading rcv org k key) ≡ ksm_legal k
unfolding body_legal ksm_reading ksm_legal kd_legal
ksm_body_legal rcv org k key =
    let t = covered_part (unsealed_ksm rcv org k 0) in
    rw (flagged_legal k.nos, iv_legal k.vector, mac_legal (mac key t) (mac_lt key t))
    (ordered_ksm (kd_legal k.first) (maybe_legal (field KD) (option_map kd_of k.second))
    (maybe_legal (field EDK) k.edk) (within 1 99_999_999 k.ctp))
