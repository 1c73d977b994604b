-- How long the text of each reading can be.
use Rattle.std.specs.Prelude.{Option}
use mathlib.Core.Path.{◌≡◌}
use mathlib.Core.Bool.{true, ◌&&◌}
use mathlib.Core.List.{[], ◌∷◌, ◌++◌}
use Prim.Native.Nat.{ℕ, ◌+◌, ◌≤◌}
use native.Mathlib.Omega.{arith}
use lib.ListN.{length, length-append}
use Rattle.octets.specs.Text.{Text, ascii, blank}
use Rattle.octets.proofs.Comparing.{both as and_true}
use Rattle.csm.specs.Format.{maybe_legal, maybe_print}
use Rattle.csm.specs.Fields.{field, erf, SVR, CTP, CTR, ERF}
use Rattle.csm.specs.Message.{Reading, head_row, head, head_of, message, fits, legal, legal_body, print, print_body}
use Rattle.csm.proofs.LengthLaws.{row_length, field_length, maybe_length, message_length, known}
use Rattle.messages.specs.declared.Counts.{Counts}
use Rattle.messages.specs.Readings.{rsi_reading, rsm_reading, esm_reading, ctp_of, ctr_of}

-- a message is as long as its head, at most 54, and its body
pub print_short : (r : Reading) (n : ℕ) → legal r ≡ true
    → (legal_body r.body ≡ true → length (print_body r.body) ≤ n)
    → length (print r) ≤ 54 + n
unfolding legal print
print_short r n k f =
    let m = and_true (message.legal r) (fits (print r)) k in
    let h = and_true (head.legal (head_of r)) (legal_body r.body) m.0 in
    let a = row_length head_row (head_of r) h.0 in
    let b = f h.1 in
    omega (arith, length-append (head.print (head_of r)) (print_body r.body))

pub rsi_short : (rcv org : Text) (s : ℕ) → legal (rsi_reading rcv org s) ≡ true
    → length (print (rsi_reading rcv org s)) ≤ 69
unfolding rsi_reading
rsi_short rcv org s k =
    print_short (rsi_reading rcv org s) 15 k
    (λ b.
    let a = field_length SVR s (and_true ((field SVR).legal s) true b).0 in
    omega (arith, length-append ((field SVR).print s) (ascii ")")))

pub rsm_short : (rcv org : Text) (key : ℕ) → legal (rsm_reading rcv org key) ≡ true
    → length (print (rsm_reading rcv org key)) ≤ 69
unfolding rsm_reading
rsm_short rcv org key k = print_short (rsm_reading rcv org key) 15 k (λ b. omega arith)

-- an ESM whose ERF has at most m bytes
esm_within : (rcv org : Text) (n : ℕ) (c : Option Counts) (m : ℕ) → (erf.legal n ≡ true → length ((field ERF).print n) ≤ m)
    → legal (esm_reading rcv org n c) ≡ true → length (print (esm_reading rcv org n c)) ≤ 54 + (26 + (m + 1))
unfolding esm_reading
esm_within rcv org n c m f k =
    print_short (esm_reading rcv org n c) (26 + (m + 1)) k
    (λ b.
    let p = maybe_legal (field CTP) (ctp_of c) in
    let r = maybe_legal (field CTR) (ctr_of c) in
    let e = erf.legal n in
    let x = maybe_print (field CTP) (ctp_of c) in
    let y = maybe_print (field CTR) (ctr_of c) in
    let z = (field ERF).print n in
    let h = and_true (p && (r && (e && true))) _ b in
    let i = and_true p (r && (e && true)) h.0 in
    let j = and_true r (e && true) i.1 in
    let g = f (and_true e true j.1).0 in
    let u = maybe_length CTP (ctp_of c) i.0 in
    let v = maybe_length CTR (ctr_of c) j.0 in
    omega (
      arith,
      length-append x (y ++ (z ++ ascii ")")),
      length-append y (z ++ ascii ")"),
      length-append z (ascii ")"),
    ))

pub esm_short : (rcv org : Text) (n : ℕ) (c : Option Counts) → legal (esm_reading rcv org n c) ≡ true
    → length (print (esm_reading rcv org n c)) ≤ 95
esm_short rcv org n c k = esm_within rcv org n c 14 (λ e. field_length ERF n e) k

pub esm_three : (rcv org : Text) (n : ℕ) (c : Option Counts) → length (erf.text n) ≤ 3
    → legal (esm_reading rcv org n c) ≡ true
    → length (print (esm_reading rcv org n c)) ≤ 89
esm_three rcv org n c h k =
    esm_within rcv org n c 8 (λ e. omega (arith, length-append (erf.text n) (blank ∷ []))) k

pub known_short : (r : Reading) → known r.body ≡ true → legal r ≡ true → length (print r) ≤ 237
unfolding legal print
known_short r e k = message_length r e (and_true (message.legal r) (fits (print r)) k).0
