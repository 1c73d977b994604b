-- The stages of receive, in the code's values: what each hands on, or the refusal or the error that it finds.
use Rattle.std.specs.Prelude.{Bool, not, ◌||◌, ◌&&◌, if◌then◌else◌, List, [], ◌∷◌, ◌++◌, ℕ, ◌+◌, ◌-◌, eqb, ◌≡◌, length, drop}
use Rattle.std.specs.Prelude.{Option, None, Some, option_map, option_and_then, unwrap_or, Result, Ok, Err}
use Rattle.std.specs.Option.{option_zip}
use Rattle.std.specs.Bool.{then_some}
use Prim.Native.Char.{code}
use Rattle.octets.specs.Text.{Text}
use Rattle.octets.specs.Part.{bare, found, part}
use Rattle.octets.specs.declared.Span.{Span}
use Rattle.keying.specs.declared.Top.{Top}
use Rattle.keying.specs.declared.Blocks.{Blocks}
use Rattle.keying.specs.Keys.{each, unseal}
use Rattle.keying.specs.Working.{working}
use Rattle.keying.specs.Mac.{mac_key, mac}
use Rattle.keying.specs.Parity.{odd}
use Rattle.keying.specs.Iv.{reveal}
use Rattle.dates.specs.Date.{is_date}
use Rattle.csm.specs.Format.{value}
use Rattle.csm.specs.Fields.{named, hex}
use Rattle.fields.specs.declared.Kd.{Kd}
use Rattle.fields.specs.declared.Numeral.{Numeral}
use Rattle.reader.specs.Seen.{covered_span}
use Rattle.reader.specs.declared.Ksm.{Ksm}
use Rattle.reader.specs.declared.Rsm.{Rsm}
use Rattle.reader.specs.declared.Esm.{Esm}
use Rattle.reader.specs.declared.Message.{Message}
use Rattle.reader.specs.declared.Message.TheVariants as message
use Rattle.messages.specs.declared.Counts.{Counts}
use Rattle.partner.specs.declared.DataKey.{DataKey}
use Rattle.partner.specs.declared.KeySet.{KeySet}
use Rattle.partner.specs.declared.Entry.{Entry}
use Rattle.partner.specs.Entry.{name_of, top_of, keys_in, one_key, two_keys}
use Rattle.partner.specs.Changes.{with_receiving, with_sending, accepted, settled, given_up, failed}
use Rattle.calls.specs.declared.Date.{Date}
use Rattle.calls.specs.declared.Refusal.{Refusal}
use Rattle.calls.specs.declared.Refusal.TheVariants.{NoMessage, NothingWaiting}
use Rattle.calls.specs.Refusal.{number}
use Rattle.calls.specs.Words.{any}
use Rattle.calls.specs.Outcome.{F, I, K, M, O, P, Turn, refused, done, Told, nothing, service, keys, confirmation, failure}
use Rattle.calls.specs.Receive.{kds, foreign, when, bad_count, is_waiting, error, rsm_text}
use Rattle.outcome.specs.declared.Told as code
use Rattle.outcome.specs.declared.Told.TheVariants.{Nothing, Service, Keys, Confirmation, Failure}
use Rattle.outcome.specs.Report.{service_number}
use Rattle.receiving.specs.declared.Taken.{Taken}
use Rattle.receiving.specs.declared.fault.Fault.{Fault}
use Rattle.receiving.specs.declared.fault.Fault.TheVariants.{Refused, Error}
use Rattle.receiving.specs.Texts.{ksm_in}

-- one stage, and where it finds nothing, the next
abbrev pub stage : {A B E : Type 0} → Result A E → (A → Result B E) → Result B E
stage (Ok a) next = next a
stage (Err x) next = Err x

-- an error of this letter alone
abbrev pub alone : ℕ → Fault
alone letter = Error letter None

-- ---- I and K

-- the key name in force: a KD's own IDK2 or, without one, the name in the table entry
abbrev pub name_in_force : Option Text → Text → Text
name_in_force idk2 name = unwrap_or idk2 name

-- the working key of what was read
abbrev pub working_key : Text → Entry → Ksm → Top
working_key own e m = working m.nos (bare e.identity.bytes) own (top_of e.top) m.ctp.value

-- its keys, and those deciphered
abbrev pub sealed_keys : Ksm → Blocks
sealed_keys m = record { first = m.first.key; second = option_map (λ (k : Kd). k.key) m.second }

abbrev pub plain_keys : Text → Entry → Ksm → Blocks
plain_keys own e m = each (unseal (working_key own e m)) (sealed_keys m)

-- a deciphered key under the name that its KD gives it; or K
abbrev pub data_key : Text → Kd → ℕ → Result DataKey Fault
data_key t k key =
    if k.p && not (odd key) then Err (alone K)
    else Ok (record { key = key; name = name_of (named (option_map (part t) k.idk1)) })

-- one key, or two
abbrev pub with_second : DataKey → Option (Result DataKey Fault) → Result KeySet Fault
with_second first None = Ok (one_key first)
with_second first (Some second) = stage second (λ l. Ok (two_keys first l))

unfoldable pub key_set : Text → Ksm → Blocks → Result KeySet Fault
key_set t m plain =
    stage (data_key t m.first plain.first)
    (λ first. with_second first (option_map (λ (k : Kd × ℕ). data_key t k.0 k.1) (option_zip m.second plain.second)))

-- I alone, then K alone; else the keys and names that it brings
unfoldable pub opened : Text → Entry → Text → Ksm → Result KeySet Fault
opened own e t m =
    if any (foreign e) (kds (ksm_in m t)) then Err (alone I) else key_set t m (plain_keys own e m)

-- ---- F, M and P

-- the value of an IV: after P as it stands, after E deciphered; none where it is not E or P and 16 hex digits
abbrev pub iv_value : List ℕ → Text → Option ℕ
iv_value ks [] = None
iv_value ks (c ∷ w) =
    option_and_then (λ n. if eqb c (code "P") then Some n else if eqb c (code "E") then Some (reveal ks n) else None)
    (value (hex 16) w)

-- the date of an EDK; none where it is no date
abbrev pub date_value : Text → Option Date
date_value w = if is_date w then Some (record { digits = w }) else None

-- those of a KSM
abbrev pub iv_in : List ℕ → Text → Ksm → Option ℕ
iv_in ks t m = option_and_then (λ (p : Span). iv_value ks (part t p)) m.iv

abbrev pub date_in : Text → Ksm → Option Date
date_in t m = option_and_then (λ (p : Span). date_value (part t p)) m.edk

-- F: one that is there has no value
abbrev pub bad_format : Ksm → Option ℕ → Option Date → Bool
bad_format m iv date = found m.iv && not (found iv) || found m.edk && not (found date)

-- M: under these keys the MAC over what stands before it differs
abbrev pub bad_mac : List ℕ → Text → Numeral → Bool
bad_mac ks t m = not (eqb (mac (mac_key ks) (part t (covered_span m.span))) m.value)

-- the letters of those that hold
abbrev pub letters_of : Bool → Bool → Bool → ℕ
letters_of format mac late = when format F + (when mac M + when late P)

-- with P the counts, ours and that received
abbrev pub told_if : Bool → ℕ → ℕ → Option Counts
told_if late expected count = then_some late (record { ctp = expected; ctr = count })

-- all that hold
abbrev pub found_by : ℕ → Option Counts → Result (Unit {0}) Fault
found_by letters counts = if eqb letters 0 then Ok tt else Err (Error letters counts)

abbrev pub faults : Entry → Ksm → Bool → Bool → Result (Unit {0}) Fault
faults e m format mac =
    let late = bad_count e.receiving.expected m.ctp.value in
    found_by (letters_of format mac late) (told_if late e.receiving.expected m.ctp.value)

unfoldable pub judged : Entry → KeySet → Text → Ksm → Result code.Told Fault
judged e set t m =
    let iv = iv_in (keys_in set) t m in
    let date = date_in t m in
    stage (faults e m (bad_format m iv date) (bad_mac (keys_in set) t m.mac)) (λ u. Ok (Keys iv date))

-- ---- by class

unfoldable pub take_ksm : Text → Entry → Text → Ksm → Result Taken Fault
take_ksm own e t m =
    stage (opened own e t m) (λ set. stage (judged e set t m) (λ told.
    Ok (record { entry = with_receiving e (accepted m.ctp.value set); told = told })))

-- 5 where no key message waits
abbrev pub awaited : Entry → Result (Unit {0}) Refusal
awaited e = if is_waiting e.sending then Ok tt else Err NothingWaiting

unfoldable pub take_rsm : Entry → Text → Rsm → Result Taken Fault
take_rsm e t m =
    if not (is_waiting e.sending) then Err (Refused NothingWaiting) else
    if bad_mac (keys_in e.sending.outgoing) t m.mac then Err (alone M) else
    Ok (record { entry = with_sending e (settled e.sending); told = Confirmation })

-- after an ESM with that CTP, or without one
abbrev pub broken : Entry → Option Numeral → Entry
broken e None = with_sending e (given_up e.sending)
broken e (Some n) = with_sending e (failed e.sending n.value)

unfoldable pub take_esm : Entry → Esm → Result Taken Fault
take_esm e m =
    if not (is_waiting e.sending) then Err (Refused NothingWaiting) else
    Ok (record { entry = broken e m.ctp; told = Failure m.erf.value })

unfoldable pub take : Text → Entry → Text → Option Message → Result Taken Fault
take own e t None = Err (Refused NoMessage)
take own e t (Some (message.Rsi m)) = Ok (record { entry = e; told = Service (service_number m.service) })
take own e t (Some (message.Ksm m)) = take_ksm own e t m
take own e t (Some (message.Rsm m)) = take_rsm e t m
take own e t (Some (message.Esm m)) = take_esm e m
take own e t (Some (message.Option m)) = Err (alone O)

-- ---- the turn that it stands for

-- the counts of an ESM
abbrev pub counts_in : Option Counts → Option (ℕ × ℕ)
counts_in counts = option_map (λ (c : Counts). (c.ctp, c.ctr)) counts

-- what is told, as the steps have it
abbrev pub told_in : code.Told → Told
told_in Nothing = nothing
told_in (Service number) = service (number - 1)
told_in (Keys iv date) = keys iv (option_map (λ (d : Date). d.digits) date)
told_in Confirmation = confirmation
told_in (Failure letters) = failure letters

-- the reply to a message that is taken: to a KSM an RSM under its keys, the incoming ones now; to others none
abbrev pub reply_to : Text → Entry → Taken → Text
reply_to own e t = elim t.told [
  | Nothing ↦ []
  | Service number ↦ []
  | Keys iv date ↦ rsm_text own e t.entry.receiving.incoming
  | Confirmation ↦ []
  | Failure letters ↦ []
]

-- a reply that is written over the front of the buffer, and its length
pub record Replies (w old new : Text) (n : ℕ) : Type 0 where
  pub count : n ≡ length w
  pub text : new ≡ w ++ drop (length w) old

abbrev pub turn_of : Text → Entry → Result Taken Fault → Turn
turn_of own e (Ok t) = done t.entry (reply_to own e t) (told_in t.told)
turn_of own e (Err (Refused r)) = refused e (number r)
turn_of own e (Err (Error letters counts)) = error own e letters (counts_in counts)
