-- What is known of a KSM and an ESM that were read, and that the messages which a card writes are read back.
use Rattle.std.specs.Prelude.{None, Some}
use mathlib.Core.Path.{◌≡◌}
use mathlib.Core.Bool.{true, false, ◌&&◌}
use mathlib.Core.List.{◌∷◌}
use Prim.Native.Nat.{ℕ, ◌/◌, ◌%◌, ◌^◌, ◌<◌}
use native.Mathlib.Omega.{arith}
use borrow.Author.Tests.{lt-ltb}
use Rattle.octets.specs.Text.{Text, within, run_char, is_name}
use Rattle.octets.proofs.Comparing.{both as and_true}
use Rattle.csm.specs.Format.{maybe_legal}
use Rattle.csm.specs.Fields.{Kd, field, NOS, KD, IV, EDK, CTP, MAC, hex, hex_text, kd, iv, legal_name, has_P}
use Rattle.csm.specs.Message.{Body, Ksm, Esm, ksm, esm, legal_body, print}
use Rattle.csm.specs.Message.{flagged, counts_with_P, closed, esm_row, esm_values}
use Rattle.csm.proofs.TextLaws.{within_true, true_within, all_weaker}
use Rattle.csm.proofs.NumberLaws.{hex_run}
use Rattle.csm.proofs.MessageLaws.{read_there}
use Rattle.csm.proofs.LengthLaws.{known, known_legal}
use Rattle.partner.specs.Entry.{limit}
use Rattle.calls.specs.Receive.{esm_body, rsm_body}
use Rattle.calls.specs.Claims.{Carries}
use Rattle.calls.proofs.Tests.{by_test}

-- ---- what is written is read back

pub carried : (us them : Text) (b : Body) → is_name us ≡ true → is_name them ≡ true → known b ≡ true
    → legal_body b ≡ true → Carries us them b (print (record { rcv = them; org = us; body = b }))
carried us them b u t k l = read_there _ (known_legal _ k (rw (u, t) l))

-- a MAC of 32 bits
pub mac_legal : (m : ℕ) → m < 2 ^ 32 → (field MAC).legal m ≡ true
mac_legal m h = rw (lt-ltb (m / 16 ^ 4) (16 ^ 4) (omega arith), lt-ltb (m % 16 ^ 4) (16 ^ 4) (omega arith))

pub rsm_legal : (m : ℕ) → m < 2 ^ 32 → legal_body (rsm_body m) ≡ true
rsm_legal m h = rw (mac_legal m h)

-- letters without P
pub esm_legal : (n : ℕ) → within 1 511 n ≡ true → has_P n ≡ false → legal_body (esm_body n None) ≡ true
esm_legal n h p = rw (h, p)

-- letters with P, and both counts
pub counted_legal : (n x y : ℕ) → within 1 511 n ≡ true → has_P n ≡ true → within 1 limit x ≡ true
    → within 1 limit y ≡ true → legal_body (esm_body n (Some (x, y))) ≡ true
counted_legal n x y h p a b = rw (a, b, h, p)

-- a plain or enciphered IV
pub hex_run_more : (x : ℕ) → run_char 70 x ≡ true → run_char 90 x ≡ true
hex_run_more x h =
    by_test (within 48 57 x) (λ p. rw p)
    (λ p. let i = within_true 65 70 x (rw p at h) in rw (p, true_within 65 90 x i.0 (omega arith)))

pub iv_legal : (c n : ℕ) → run_char 90 c ≡ true → iv.legal (c ∷ hex_text 16 n) ≡ true
iv_legal c n h =
    let a = all_weaker (run_char 70) (run_char 90) hex_run_more (hex_text 16 n) (hex_run 16 n) in
    rw (h, a)

pub kd_legal : (k : Kd) → k.key < 2 ^ 64 → legal_name k.idk1 ≡ true → legal_name k.idk2 ≡ true
    → kd.legal k ≡ true
kd_legal k h a b = rw (lt-ltb k.key (16 ^ 16) h, a, b)

-- ---- what was read

pub kd_name : (k : Kd) → kd.legal k ≡ true → legal_name k.idk1 ≡ true
kd_name k h =
    (and_true (legal_name k.idk1) (legal_name k.idk2)
    (and_true ((hex 16).legal k.key) (legal_name k.idk1 && legal_name k.idk2) h).1).0

pub record KsmLegal (m : Ksm) : Type 0 where
  pub first : kd.legal m.kd ≡ true
  pub second : maybe_legal (field KD) m.second ≡ true
  pub count : within 1 limit m.ctp ≡ true

pub ksm_parts : (m : Ksm) → legal_body (ksm m) ≡ true → KsmLegal m
ksm_parts m h =
    let n = and_true (maybe_legal (field NOS) (flagged m.nos)) _ h in
    let a = and_true (kd.legal m.kd) _ n.1 in
    let b = and_true (maybe_legal (field KD) m.second) _ a.1 in
    let c = and_true (maybe_legal (field IV) m.iv) _ b.1 in
    let d = and_true (maybe_legal (field EDK) m.edk) _ c.1 in
    record { first = a.0; second = b.0; count = (and_true (within 1 limit m.ctp) _ d.1).0 }

-- the CTP of an ESM is a count
pub esm_count : (m : Esm) → legal_body (esm m) ≡ true → maybe_legal (field CTP) m.ctp ≡ true
esm_count m h =
    let a = and_true ((closed esm_row).legal (esm_values m)) (counts_with_P m) h in
    (and_true (maybe_legal (field CTP) m.ctp) _ a.0).0
