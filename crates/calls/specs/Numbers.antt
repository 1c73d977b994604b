-- Document 01, "Numbers to hold it to": those marked *, under one claim; and the numbers of phases and letters. Proved as
-- `numbers` in proofs/Numbers.antt.
use Rattle.std.specs.Prelude.{◌≡◌, ℕ, None, Some}
use Rattle.octets.specs.Text.{Text, ascii}
use Rattle.dates.specs.Numbers as dates
use Rattle.keying.specs.Numbers as keying
use Rattle.csm.specs.Format.{value}
use Rattle.csm.specs.Fields.{svr, error_letters, letters_of}
use Rattle.csm.specs.Message.{Ksm}
use Rattle.partner.specs.declared.Entry.{Entry}
use Rattle.partner.specs.Entry.{idle, waiting, confirmed, broken}
use Rattle.calls.specs.Outcome.{F, I, K, M, O, P, Turn}
use Rattle.calls.specs.Receive.{receive_ksm}
use Rattle.calls.specs.Good.{GoodButItsCount}

-- what a KSM that is good but for its count, of this count, does where this one is expected
abbrev pub ComesTo : ℕ → ℕ → (Turn → Type 0) → Type 0
ComesTo expected count result =
    (own : Text) (e : Entry) (text : Text) (m : Ksm) → e.receiving.expected ≡ expected → m.ctp ≡ count
    → GoodButItsCount own e text m → result (receive_ksm own e text m)

-- it is accepted and leaves this expected count
pub record Leaves (expected : ℕ) (t : Turn) : Type 0 where
  pub accepted : t.outcome.answer ≡ 0
  pub expects : t.entry.receiving.expected ≡ expected

-- 4 with P alone, and the expected count stays
pub record IsP (expected : ℕ) (t : Turn) : Type 0 where
  pub answered : t.outcome.answer ≡ 4
  pub spelled : letters_of error_letters t.outcome.letters ≡ ascii "P"
  pub expects : t.entry.receiving.expected ≡ expected

pub record Numbers : Type 0 where
  -- parity, offset by 258
  pub of_keys : keying.Numbers
  -- the two dates
  pub of_dates : dates.Numbers
  pub count_5_leaves_6 : ComesTo 5 5 (Leaves 6)
  pub count_7_leaves_8 : ComesTo 5 7 (Leaves 8)
  pub count_4_is_P : ComesTo 5 4 (IsP 5)
  pub last_but_one_leaves_the_last : ComesTo 99_999_998 99_999_998 (Leaves 99_999_999)
  pub last_is_P : (n : ℕ) → ComesTo n 99_999_999 (IsP n)
  pub kd_iv_is_a_service : value svr (ascii "KD.IV") ≡ Some 3
  pub iv_kd_is_not : value svr (ascii "IV.KD") ≡ None
  -- phase (0 idle, 1 waiting, 2 confirmed, 3 broken)
  pub phases : (idle ≡ 0) × (waiting ≡ 1) × (confirmed ≡ 2) × (broken ≡ 3)
  -- the letters that we send, as ERF spells them
  pub spelled_F : letters_of error_letters F ≡ ascii "F"
  pub spelled_I : letters_of error_letters I ≡ ascii "I"
  pub spelled_K : letters_of error_letters K ≡ ascii "K"
  pub spelled_M : letters_of error_letters M ≡ ascii "M"
  pub spelled_O : letters_of error_letters O ≡ ascii "O"
  pub spelled_P : letters_of error_letters P ≡ ascii "P"
