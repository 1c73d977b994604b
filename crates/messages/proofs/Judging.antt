-- What is legal, part by part, and what that says of the answer and the buffer.
use Rattle.std.specs.Prelude.{Option, None, Some}
use mathlib.Core.Path.{◌≡◌, sym, ap, ◌∙◌}
use mathlib.Core.Bool.{Bool, true, false, ◌&&◌, and_assoc}
use Prim.Native.Nat.{ℕ, ◌/◌, ◌%◌, ◌≤◌, ◌<◌, min}
use native.Mathlib.Omega.{arith}
use lib.Dec.{leb, eqb}
use lib.ListN.{length}
use borrow.Author.Tests.{leb-true}
use Rattle.octets.specs.Text.{Text, within, is_name}
use Rattle.octets.proofs.Comparing.{both as and-true, iff}
use Rattle.octets.specs.Wrote.{over}
use Rattle.octets.proofs.Writing.{over_fits}
use Rattle.messages.proofs.Lengths.{known_short}
use Rattle.csm.specs.Message.{Reading, legal, legal_body, print}
use Rattle.csm.proofs.TextLaws.{within_true}
use Rattle.csm.proofs.MessageLaws.{legal_parts}
use Rattle.csm.proofs.LengthLaws.{known, known_legal}
use Rattle.messages.specs.declared.Counts.{Counts}
use Rattle.messages.specs.declared.Ksm.{Ksm}
use Rattle.messages.specs.Answers.{writes, answer, buffer}
use Rattle.messages.specs.Parts.{counts_legal, counts_agree, error_legal, ksm_legal}

-- ---- counts

-- counts have at most eight digits
pub counts_below : {counts : Option Counts} (c : Counts) → counts ≡ Some c → counts_legal counts ≡ true
    → (c.ctp < 100_000_000) × (c.ctr < 100_000_000)
unfolding counts_legal
counts_below c e k =
    let h = and-true (within 1 99_999_999 c.ctp) (within 1 99_999_999 c.ctr) (ap counts_legal (sym e) ∙ k) in
    let i = within_true 1 99_999_999 c.ctp h.0 in
    let j = within_true 1 99_999_999 c.ctr h.1 in
    (omega arith, omega arith)

pub error_counts : (n : ℕ) (c : Option Counts) → error_legal n c ≡ true → counts_legal c ≡ true
unfolding error_legal
error_counts n c k =
    let p = eqb (n / 128 % 2) 1 in
    let h = and-true (within 1 511 n) (counts_agree c p && counts_legal c) k in
    (and-true (counts_agree c p) (counts_legal c) h.1).1

pub ksm_count : (k : Ksm) → ksm_legal k ≡ true → k.ctp < 100_000_000
unfolding ksm_legal
ksm_count k h =
    let i = within_true 1 99_999_999 k.ctp (and-true _ (within 1 99_999_999 k.ctp) h).1 in
    omega arith

-- ---- the answer

-- its body is legal; there is room, and both identities are legal too
unfoldable pub body_legal : Reading → Bool
body_legal r = legal_body r.body

abbrev pub writable : Reading → Text → Bool
writable r l = (leb 256 (length l) && (is_name r.rcv && is_name r.org)) && body_legal r

legal_known : (r : Reading) → known r.body ≡ true → legal r ≡ (is_name r.rcv && is_name r.org) && body_legal r
unfolding body_legal
legal_known r e =
    iff (legal r) ((is_name r.rcv && is_name r.org) && legal_body r.body)
    (λ k. let p = legal_parts r k in rw (p.rcv, p.org) p.body)
    (λ k.
    let h = and-true (is_name r.rcv && is_name r.org) (legal_body r.body) k in
    let i = and-true (is_name r.rcv) (is_name r.org) h.0 in
    known_legal r e (rw (i.0, i.1) h.1))

module _ (r : Reading) (l : Text) (e : known r.body ≡ true) where
  writes_is : writes r l ≡ writable r l
  unfolding writes
  writes_is =
      ap (λ (b : Bool). leb 256 (length l) && b) (legal_known r e)
      ∙ sym (and_assoc (leb 256 (length l)) (is_name r.rcv && is_name r.org) (body_legal r))

  -- what is not written
  pub answers_none : writable r l ≡ false → answer r l ≡ None
  unfolding answer
  answers_none k = rw (writes_is ∙ k)

  pub leaves_all : writable r l ≡ false → buffer r l ≡ l
  unfolding buffer
  leaves_all k = rw (writes_is ∙ k)

  -- what is written fits
  pub fits : writable r l ≡ true → length (print r) ≤ length l
  unfolding writes
  fits k =
      let w = and-true (leb 256 (length l)) (legal r) (writes_is ∙ k) in
      let room = leb-true 256 (length l) w.0 in
      let short = known_short r e w.1 in
      omega arith

  pub answers_length : writable r l ≡ true → answer r l ≡ Some (min (length (print r)) (length l))
  unfolding answer
  answers_length k = let h = fits k in rw (writes_is ∙ k) (ap Some (omega arith))

  pub leaves_text : writable r l ≡ true → buffer r l ≡ over (print r) l
  unfolding buffer
  leaves_text k = rw (writes_is ∙ k) (sym (over_fits (print r) l (fits k)))

pub ruleset written = (answers_none, leaves_all, fits, answers_length, leaves_text)
