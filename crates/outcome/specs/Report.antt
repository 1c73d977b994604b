-- What the code gives of an outcome, as one flat report: the paper's number of the answer, the letters, the reply's length
-- and what is told, part by part (document 01, "Answers").
use Rattle.std.specs.Prelude.{false, cond, ◌++◌, ℕ, ◌+◌, ltb, length, drop, Option, None, Some, unwrap_or, Result, Ok, Err}
use Rattle.octets.specs.Text.{Text}
use Rattle.octets.specs.Number.{copies}
use Rattle.octets.specs.Part.{found}
use Rattle.calls.specs.declared.Date.{Date}
use Rattle.partner.specs.declared.Entry.{Entry}
use Rattle.calls.specs.declared.Refusal.{Refusal}
use Rattle.calls.specs.Refusal.{number}
use Rattle.calls.specs.Outcome.{Outcome, Turn, Told, nothing, service, keys, confirmation, failure}
use Rattle.outcome.specs.declared.Report.{Report}
use Rattle.outcome.specs.declared.Told as code
use Rattle.outcome.specs.declared.Told.TheVariants.{Nothing, Service, Keys, Confirmation, Failure}
use Rattle.outcome.specs.declared.Given.{Given}
use Rattle.outcome.specs.declared.Given.TheVariants.{Done, Complaint}
use Rattle.outcome.specs.declared.Turned as whole

-- ---- what is told, part by part

-- the class of the message read: 0 none, 1 RSI, 2 KSM, 3 RSM, 4 ESM
abbrev pub class_told : Told → ℕ
class_told nothing = 0
class_told (service place) = 1
class_told (keys iv edk) = 2
class_told confirmation = 3
class_told (failure letters) = 4

-- the service wanted: the twelve contents of SVR from 1 on, 0 none
abbrev pub service_number : ℕ → ℕ
service_number place = cond (ltb place 12) (place + 1) 0

abbrev pub service_told : Told → ℕ
service_told nothing = 0
service_told (service place) = service_number place
service_told (keys iv edk) = 0
service_told confirmation = 0
service_told (failure letters) = 0

-- the letters of an error: ours, or those of an ESM that was taken
abbrev pub letters_told : ℕ → Told → ℕ
letters_told ours nothing = ours
letters_told ours (service place) = ours
letters_told ours (keys iv edk) = ours
letters_told ours confirmation = ours
letters_told ours (failure letters) = letters

-- the IV and the date of a KSM, each with a presence of its own
abbrev pub iv_told : Told → Option ℕ
iv_told nothing = None
iv_told (service place) = None
iv_told (keys iv edk) = iv
iv_told confirmation = None
iv_told (failure letters) = None

abbrev pub date_told : Told → Option Text
date_told nothing = None
date_told (service place) = None
date_told (keys iv edk) = edk
date_told confirmation = None
date_told (failure letters) = None

-- a number, or zero where there is none
abbrev pub or_zero : Option ℕ → ℕ
or_zero None = 0
or_zero (Some n) = n

-- the digits of a date, or zeros where there is none
abbrev pub no_date : Date
no_date = record { digits = copies 12 0 }

abbrev pub date_of : Option Text → Date
date_of None = no_date
date_of (Some w) = record { digits = w }

-- ---- the whole

unfoldable pub report : Outcome → Report
report o = record {
  answer = o.answer;
  letters = letters_told o.letters o.told;
  length = length o.reply;
  class = class_told o.told;
  service = service_told o.told;
  vector = found (iv_told o.told);
  iv = or_zero (iv_told o.told);
  dated = found (date_told o.told);
  date = date_of (date_told o.told);
}

-- one partner's entry after a call, and the report of it
pub record Turned : Type 0 where
  pub entry : Entry
  pub report : Report

unfoldable pub turned : Turn → Turned
turned t = record { entry = t.entry; report = report t.outcome }

-- the reply's bytes at the front of the buffer; behind them the bytes that were there
unfoldable pub replied : Outcome → Text → Text
replied o l = o.reply ++ drop (length o.reply) l

-- ---- what the code gives: it has of a reply its length

-- nothing is told: the answer, our letters, the length
abbrev pub plain : ℕ → ℕ → ℕ → Report
plain answer letters n = record {
  answer = answer;
  letters = letters;
  length = n;
  class = 0;
  service = 0;
  vector = false;
  iv = 0;
  dated = false;
  date = no_date;
}

-- 0: the letters of an ESM, the length of the reply, the class, the service, IV and date
abbrev pub telling : ℕ → ℕ → ℕ → ℕ → Option ℕ → Option Date → Report
telling letters n class wanted iv date = record {
  answer = 0;
  letters = letters;
  length = n;
  class = class;
  service = wanted;
  vector = found iv;
  iv = or_zero iv;
  dated = found date;
  date = unwrap_or date no_date;
}

-- 0, the length of the reply, and what is told
abbrev pub told_of : ℕ → code.Told → Report
told_of n Nothing = plain 0 0 n
told_of n (Service number) = telling 0 n 1 number None None
told_of n (Keys iv date) = telling 0 n 2 0 iv date
told_of n Confirmation = telling 0 n 3 0 None None
told_of n (Failure letters) = telling letters n 4 0 None None

-- a refusal: every other part is zero or empty; 4: the letters, and the length of the ESM; 0, and what is told
abbrev pub report_of : Result Given Refusal → Report
report_of (Err r) = plain (number r) 0 0
report_of (Ok (Complaint letters n)) = plain 4 letters n
report_of (Ok (Done n told)) = told_of n told

-- with a refusal the entry is as it was
abbrev pub turned_of : Entry → Result whole.Turned Refusal → Turned
turned_of e (Err r) = record { entry = e; report = report_of (Err r) }
turned_of e (Ok t) = record { entry = t.entry; report = report_of (Ok t.given) }
