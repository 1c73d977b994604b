-- The text of each reading, as its writers leave it part by part.
use Rattle.std.specs.Prelude.{Option, Some, option_map}
use mathlib.Core.Path.{◌≡◌, refl}
use mathlib.Core.List.{[], ◌∷◌, ◌++◌, append_assoc, append-nil}
use Prim.Native.Nat.{ℕ, ◌%◌, ◌<◌}
use native.Mathlib.Nat.{mod-eq_of_lt}
use Rattle.octets.specs.Text.{Text, ascii, blank}
use Rattle.csm.specs.Format.{maybe_print}
use Rattle.csm.specs.Fields.{decimal, field, RCV, ORG, SVR, NOS, KD, IV, EDK, CTP, CTR, ERF}
use Rattle.csm.specs.Message.{print, flagged}
use Rattle.csm.specs.Covered.{covered_part}
use Rattle.messages.specs.declared.Counts.{Counts}
use Rattle.messages.specs.declared.Ksm.{Ksm}
use Rattle.writer.specs.Contents.{kd_of, iv_of, keys_text}
use Rattle.messages.specs.Readings.{ctp_of, ctr_of}
use Rattle.messages.specs.Parts.{counts_text}
use Rattle.messages.specs.Readings.{rsi_reading, esm_reading, unsealed_rsm, unsealed_ksm}
use Rattle.messages.specs.Parts.{unsealed_text}
use Rattle.messages.proofs.Sealing.{Sealable}

-- ---- the parts

-- counts have their own digits
pub both_counts : {counts : Option Counts} (c : Counts) → counts ≡ Some c → c.ctp < 100_000_000 → c.ctr < 100_000_000
    → (ascii "CTP/" ++ (decimal 7 (c.ctp % 100_000_000) ++ blank ∷ []))
    ++ (ascii "CTR/" ++ (decimal 7 (c.ctr % 100_000_000) ++ blank ∷ []))
    ≡ counts_text counts
unfolding counts_text
both_counts c e h k = rw (e, mod-eq_of_lt h, mod-eq_of_lt k)

-- ---- the messages: what starts each, RCV and ORG, and what follows

-- as the writers leave it, and as a message's format has it
whole : (s r o b e : Text) → ((s ++ (r ++ o)) ++ b) ++ e ≡ (s ++ (r ++ (o ++ []))) ++ (b ++ e)
whole s r o b e = simp (append_assoc, append-nil)

pub rsi_text : (rcv org : Text) (s : ℕ)
    → ((ascii "CSM(MCL/RSI " ++ ((field RCV).print rcv ++ (field ORG).print org)) ++ (field SVR).print s) ++ ascii ")"
    ≡ print (rsi_reading rcv org s)
unfolding print rsi_reading
rsi_text rcv org s =
    whole (ascii "CSM(MCL/RSI ") ((field RCV).print rcv) ((field ORG).print org) ((field SVR).print s) (ascii ")")

pub esm_text : (rcv org : Text) (n : ℕ) (c : Option Counts)
    → (((ascii "CSM(MCL/ESM " ++ ((field RCV).print rcv ++ (field ORG).print org))
    ++ counts_text c) ++ (field ERF).print n) ++ ascii ")"
    ≡ print (esm_reading rcv org n c)
unfolding print counts_text esm_reading
esm_text rcv org n c =
    go (ascii "CSM(MCL/ESM ") ((field RCV).print rcv) ((field ORG).print org) (maybe_print (field CTP) (ctp_of c))
    (maybe_print (field CTR) (ctr_of c)) ((field ERF).print n) (ascii ")")
  where
    go : (s r o x y f e : Text)
        → (((s ++ (r ++ o)) ++ (x ++ y)) ++ f) ++ e ≡ (s ++ (r ++ (o ++ []))) ++ (x ++ (y ++ (f ++ e)))
    go s r o x y f e = simp (append_assoc, append-nil)

pub rsm_text : (rcv org : Text)
    → ascii "CSM(MCL/RSM " ++ ((field RCV).print rcv ++ (field ORG).print org) ≡ unsealed_text (unsealed_rsm rcv org)
unfolding unsealed_text covered_part
rsm_text rcv org = go (ascii "CSM(MCL/RSM ") ((field RCV).print rcv) ((field ORG).print org)
  where
    go : (s r o : Text) → s ++ (r ++ o) ≡ (s ++ (r ++ (o ++ []))) ++ []
    go s r o = simp append-nil

pub ksm_text : (rcv org : Text) (k : Ksm) → k.ctp < 100_000_000
    → (((((ascii "CSM(MCL/KSM " ++ ((field RCV).print rcv ++ (field ORG).print org))
    ++ maybe_print (field NOS) (flagged k.nos)) ++ keys_text k.first k.second) ++ maybe_print (field IV) (option_map iv_of k.vector))
    ++ maybe_print (field EDK) k.edk) ++ (ascii "CTP/" ++ (decimal 7 (k.ctp % 100_000_000) ++ blank ∷ []))
    ≡ unsealed_text (unsealed_ksm rcv org k)
unfolding unsealed_text covered_part keys_text
ksm_text rcv org k h =
    rw (mod-eq_of_lt h)
    (go (ascii "CSM(MCL/KSM ") ((field RCV).print rcv) ((field ORG).print org) (maybe_print (field NOS) (flagged k.nos))
    ((field KD).print (kd_of k.first)) (maybe_print (field KD) (option_map kd_of k.second))
    (maybe_print (field IV) (option_map iv_of k.vector)) (maybe_print (field EDK) k.edk) ((field CTP).print k.ctp))
  where
    go : (s r o m k l x y z : Text)
        → (((((s ++ (r ++ o)) ++ m) ++ (k ++ l)) ++ x) ++ y) ++ z
        ≡ (s ++ (r ++ (o ++ []))) ++ (m ++ (k ++ (l ++ (x ++ (y ++ (z ++ []))))))
    go s r o m k l x y z = simp (append_assoc, append-nil)

-- ---- their MACs are their own, and not part of what they cover

pub rsm_sealable : (rcv org : Text) → Sealable (unsealed_rsm rcv org)
unfolding covered_part
rsm_sealable rcv org = record { has = λ k. refl; same = λ k. refl }

pub ksm_sealable : (rcv org : Text) (k : Ksm) → Sealable (unsealed_ksm rcv org k)
unfolding covered_part
ksm_sealable rcv org k = record { has = λ m. refl; same = λ m. refl }
