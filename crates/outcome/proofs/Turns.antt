-- What the code gives is what it gives of a turn.
use mathlib.Core.Path.{refl}
use Rattle.std.specs.Prelude.{◌≡◌, ℕ, length, Option, None, Some, option_map, Ok, Err}
use Rattle.octets.specs.Text.{Text}
use Rattle.partner.specs.declared.Entry.{Entry}
use Rattle.calls.specs.declared.Date.{Date}
use Rattle.calls.specs.declared.Refusal.{Refusal}
use Rattle.calls.specs.Refusal.{number}
use Rattle.calls.specs.Outcome.{Told, nothing, service, keys, confirmation, failure, complaint, refused, done}
use Rattle.outcome.specs.declared.Told as code
use Rattle.outcome.specs.declared.Told.TheVariants.{Nothing, Service, Keys, Confirmation, Failure}
use Rattle.outcome.specs.declared.Given.TheVariants.{Done, Complaint}
use Rattle.outcome.specs.Report.{service_number, report, turned, turned_of}

-- a refusal: the entry as it was
pub refuses : (e : Entry) (r : Refusal) → turned_of e (Err r) ≡ turned (refused e (number r))
unfolding turned report
refuses e r = refl

-- 4, and an ESM
pub complains : (e f : Entry) (letters n : ℕ) (reply : Text) → n ≡ length reply
    → turned_of e (Ok (record { entry = f; given = Complaint letters n }))
    ≡ turned (record { outcome = complaint letters reply; entry = f })
unfolding turned report
complains e f letters n reply h = rw h

-- what the code tells, as the paper has it
pub data Tells : code.Told → Told → Type 0 where
  a_nothing : Tells Nothing nothing
  a_service : (place : ℕ) → Tells (Service (service_number place)) (service place)
  some_keys : (iv : Option ℕ) (date : Option Date) → Tells (Keys iv date) (keys iv (option_map (λ (d : Date). d.digits) date))
  a_confirmation : Tells Confirmation confirmation
  a_failure : (letters : ℕ) → Tells (Failure letters) (failure letters)

-- 0, with a reply or none
pub does : (e f : Entry) (n : ℕ) (reply : Text) {told : code.Told} {t : Told} → n ≡ length reply → Tells told t
    → turned_of e (Ok (record { entry = f; given = Done n told })) ≡ turned (done f reply t)
unfolding turned report
does e f n reply h a_nothing = rw h
does e f n reply h (a_service place) = rw h
does e f n reply h (some_keys None None) = rw h
does e f n reply h (some_keys None (Some d)) = rw h
does e f n reply h (some_keys (Some v) None) = rw h
does e f n reply h (some_keys (Some v) (Some d)) = rw h
does e f n reply h a_confirmation = rw h
does e f n reply h (a_failure letters) = rw h
