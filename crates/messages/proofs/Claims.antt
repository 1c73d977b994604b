-- The claims of specs/Claims.antt, proved.
use Rattle.std.specs.Prelude.{None, Some}
use mathlib.Core.Path.{◌≡◌, refl, sym, ap, ◌∙◌}
use mathlib.Core.Bool.{Bool, true, false, cond}
use mathlib.Core.List.{◌++◌}
use Prim.Native.Nat.{ℕ, ◌≤◌}
use native.Mathlib.Omega.{arith}
use lib.Dec.{leb}
use lib.ListN.{length, take, drop, length-append, length-drop}
use lib.Seq.{take_at, drop_at}
use borrow.Author.Tests.{le-leb, leb-true}
use Rattle.octets.specs.Text.{Text}
use Rattle.octets.proofs.Comparing.{both as and_true}
use Rattle.keying.specs.Mac.{mac}
use Rattle.csm.specs.Message.{Reading, legal, print, read}
use Rattle.csm.specs.Covered.{covered, covered_part, mac_of}
use Rattle.csm.proofs.MessageLaws.{read_there}
use Rattle.csm.proofs.CoveredLaws.{covered_agrees}
use Rattle.messages.specs.Readings.{sealed, unsealed_rsm, unsealed_ksm}
use Rattle.messages.specs.Readings.{rsi_reading, rsm_reading, esm_reading, ksm_reading}
use Rattle.messages.specs.Answers.{writes, answer, buffer}
use Rattle.messages.specs.Claims.{Left, Claims}
use Rattle.messages.proofs.Lengths.{rsi_short, rsm_short, esm_short, esm_three, known_short}

pub written : (r : Reading) (l : Text) → 256 ≤ length l → legal r ≡ true → answer r l ≡ Some (length (print r))
unfolding answer writes
written r l h k = rw (le-leb 256 (length l) h, k)

pub untouched : (r : Reading) (l : Text) → answer r l ≡ None → buffer r l ≡ l
unfolding answer buffer
untouched r l e = go (writes r l) refl e
  where
    go : (b : Bool) → writes r l ≡ b → cond b (Some (length (print r))) None ≡ None
        → cond b (print r ++ drop (length (print r)) l) l ≡ l
    go true q e = cc
    go false q e = refl

-- where the answer is a length, room, legality and the length
pub record Writes (r : Reading) (l : Text) (n : ℕ) : Type 0 where
  pub room : 256 ≤ length l
  pub is_legal : legal r ≡ true
  pub count : n ≡ length (print r)
  pub text : buffer r l ≡ print r ++ drop (length (print r)) l

pub answered : (r : Reading) (l : Text) (n : ℕ) → answer r l ≡ Some n → Writes r l n
unfolding answer buffer writes
answered r l n e = go (writes r l) refl e
  where
    go : (b : Bool) → writes r l ≡ b → cond b (Some (length (print r))) None ≡ Some n → Writes r l n
    go true q e =
        let h = and_true (leb 256 (length l)) (legal r) q in
        record { room = leb-true 256 (length l) h.0; is_legal = h.1; count = cc; text = rw q }
    go false q e = let z : ◌≡◌ {A = ℕ} 0 1 = cc in absurd (omega arith)

pub left : (r : Reading) (l : Text) (n longest : ℕ) → answer r l ≡ Some n
    → (legal r ≡ true → length (print r) ≤ longest)
    → longest ≤ 256
    → Left r l n longest
left r l n longest e f h =
    let w = answered r l n e in
    let t = print r in
    let k : length t ≡ n = sym w.count in
    let short = f w.is_legal in
    let room = w.room in
    let front : take n (buffer r l) ≡ t = ap (take n) w.text ∙ take_at t (drop (length t) l) n k in
    record {
      room = w.room;
      is_legal = w.is_legal;
      text = front;
      count = w.count;
      behind = ap (drop n) w.text ∙ drop_at t (drop (length t) l) n k ∙ ap (λ (m : ℕ). drop m l) k;
      size = ap length w.text ∙ length-append t (drop (length t) l) ∙ omega (arith, length-drop (length t) l);
      back = ap read front ∙ read_there r w.is_legal;
      bound = omega arith;
    }

sealed_over : (q : ℕ → Reading) (key : ℕ) → ((k : ℕ) → mac_of (q k).body ≡ Some k)
    → ((k : ℕ) → covered_part (q k) ≡ covered_part (q 0)) → legal (sealed key q) ≡ true
    → mac_of (sealed key q).body ≡ Some (mac key (covered (print (sealed key q))))
sealed_over q key h g k =
    let m = mac key (covered_part (q 0)) in
    let c = covered_agrees (print (q m)) (q m) m (read_there (q m) k) (h m) in
    h m ∙ ap (λ (t : Text). Some (mac key t)) (sym (c ∙ g m))

pub claims : Claims
unfolding rsm_reading ksm_reading covered_part covered print
claims = record {
  written = written;
  untouched = untouched;
  rsi_left = λ rcv org l s n e. left (rsi_reading rcv org s) l n 69 e (rsi_short rcv org s) (omega arith);
  rsm_left = λ rcv org l key n e. left (rsm_reading rcv org key) l n 69 e (rsm_short rcv org key) (omega arith);
  esm_left = λ rcv org l x c n e. left (esm_reading rcv org x c) l n 95 e (esm_short rcv org x c) (omega arith);
  esm_of_three = λ rcv org l x c n h e. left (esm_reading rcv org x c) l n 89 e (esm_three rcv org x c h) (omega arith);
  ksm_left = λ rcv org k key l n e.
      let r = ksm_reading rcv org k key in
      left r l n 237 e (known_short r refl) (omega arith);
  rsm_mac = λ rcv org key k. sealed_over (unsealed_rsm rcv org) key (λ m. refl) (λ m. refl) k;
  ksm_mac = λ rcv org k key h. sealed_over (unsealed_ksm rcv org k) key (λ m. refl) (λ m. refl) h;
  mill_to_harbor = λ key. refl;
  mill_to_harbor_covered = λ key. refl;
  longest_ksm = λ a b v key. refl;
  longest_without_nos = λ a b v key. refl;
}
