-- What a call gives: its answer, and what goes with it (document 01, "Answers").
use Rattle.std.specs.Prelude.{[], ℕ, Option}
use Rattle.octets.specs.Text.{Text}
use Rattle.partner.specs.declared.Entry.{Entry}

-- the letters of an error, as ERF has them: A the lowest of nine bits, in alphabetical order
abbrev pub F : ℕ
F = 4

abbrev pub I : ℕ
I = 8

abbrev pub K : ℕ
K = 16

abbrev pub M : ℕ
M = 32

abbrev pub O : ℕ
O = 64

abbrev pub P : ℕ
P = 128

-- what is told besides: of an RSI the service wanted, of a KSM IV and date, of an ESM its letters
pub data Told : Type 0 where
  nothing : Told
  service : ℕ → Told
  keys : Option ℕ → Option Text → Told
  confirmation : Told
  failure : ℕ → Told

pub record Outcome : Type 0 where
  pub answer : ℕ
  pub letters : ℕ
  pub reply : Text
  pub told : Told

-- with a refusal every other part of the result is zero or empty
abbrev pub refusal : ℕ → Outcome
refusal n = record { answer = n; letters = 0; reply = []; told = nothing }

-- 4: the letters are reported, the reply is an ESM
abbrev pub complaint : ℕ → Text → Outcome
complaint letters reply = record { answer = 4; letters = letters; reply = reply; told = nothing }

-- 0, with a reply or none
abbrev pub success : Text → Told → Outcome
success reply told = record { answer = 0; letters = 0; reply = reply; told = told }

-- what a call makes of one partner's entry
pub record Turn : Type 0 where
  pub outcome : Outcome
  pub entry : Entry

-- the answer n, the entry as it was
abbrev pub refused : Entry → ℕ → Turn
refused e n = record { outcome = refusal n; entry = e }

-- 0, the entry as it is now
abbrev pub done : Entry → Text → Told → Turn
done e reply told = record { outcome = success reply told; entry = e }
