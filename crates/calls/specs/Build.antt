-- Build a KSM, build an RSI, give up, once the partner's entry is found (document 01, "Build a KSM" and on).
use Rattle.std.specs.Prelude.{Bool, true, cond, not, ◌&&◌, ◌||◌, List, [], ◌∷◌, ◌++◌, ℕ, ◌/◌, ◌%◌, eqb, ltb, Option, None, Some}
use Rattle.octets.specs.Text.{Text, ascii}
use Rattle.octets.specs.Part.{bare}
use Rattle.keying.specs.Parity.{odd}
use Rattle.keying.specs.declared.Top.{Top}
use Rattle.keying.specs.Keys.{seal}
use Rattle.keying.specs.Working.{working}
use Rattle.keying.specs.Mac.{mac_key, mac}
use Rattle.keying.specs.Iv.{conceal}
use Rattle.dates.specs.Date.{is_date}
use Rattle.csm.specs.Format.{value}
use Rattle.csm.specs.Fields.{Kd, hex_text, svr}
use Rattle.csm.specs.Message.{Body, rsi, ksm, print}
use Rattle.csm.specs.Covered.{covered_part}
use Rattle.partner.specs.declared.DataKey.{DataKey}
use Rattle.partner.specs.declared.KeySet.{KeySet}
use Rattle.partner.specs.declared.Entry.{Entry}
use Rattle.partner.specs.Entry.{limit, name_of, top_of, keys_in, one_key, two_keys}
use Rattle.partner.specs.Legal.{is_filled}
use Rattle.partner.specs.Changes.{with_sending, issued, given_up}
use Rattle.calls.specs.declared.KeyRequest.{KeyRequest}
use Rattle.calls.specs.declared.Request.{Request}
use Rattle.calls.specs.Words.{in_case◌then◌else◌, any}
use Rattle.calls.specs.Outcome.{nothing, Turn, refused, done}
use Rattle.calls.specs.Receive.{to_partner, is_waiting}

-- ---- the request

-- what a key's flags ask for: marked P, IDK1 written, IDK2 written
abbrev pub wants_p : KeyRequest → Bool
wants_p k = eqb (k.flags % 2) 1

abbrev pub wants_idk1 : KeyRequest → Bool
wants_idk1 k = eqb (k.flags / 2 % 2) 1

abbrev pub wants_idk2 : KeyRequest → Bool
wants_idk2 k = eqb (k.flags / 4 % 2) 1

-- whether its keys are to be notarized
abbrev pub wants_nos : Request → Bool
wants_nos q = eqb q.notarized 1

-- the keys; of more than two none is used
unfoldable pub used : Request → List KeyRequest
used q =
    in_case eqb q.count 1 then q.first ∷ [] else
    in_case eqb q.count 2 then q.first ∷ q.second ∷ [] else []

-- 11: a used key to be marked P is not of odd parity
unfoldable pub not_odd : KeyRequest → Bool
not_odd k = wants_p k && not (odd k.key)

-- a bad flag, or a bad name that would be written
unfoldable pub bad_key : KeyRequest → Bool
bad_key k = not (ltb k.flags 8) || wants_idk1 k && not (is_filled k.name.bytes)

-- no key, more than two, two equal keys, bad name or flag
unfoldable pub bad_keys : List KeyRequest → Bool
bad_keys [] = true
bad_keys (k ∷ []) = bad_key k
bad_keys (k ∷ l ∷ more) = eqb k.key l.key || bad_key k || bad_key l

-- 12: no key, more than two, two equal keys, bad name, date or flag
unfoldable pub malformed : Request → Bool
malformed q =
    bad_keys (used q) || not (ltb q.kind 3) || not (ltb q.dated 2) || not (ltb q.notarized 2)
    || eqb q.dated 1 && not (is_date q.date.digits)

-- ---- the message

-- the name that a key is given: its IDK1 where that is written
abbrev pub given_name : KeyRequest → Text
given_name k = cond (wants_idk1 k) (bare k.name.bytes) []

-- outgoing keys, named by the IDK1 written
abbrev pub outgoing_key : KeyRequest → DataKey
outgoing_key k = record { key = k.key; name = name_of (given_name k) }

unfoldable pub outgoing_of : Request → KeySet
outgoing_of q =
    in_case eqb q.count 2 then two_keys (outgoing_key q.first) (outgoing_key q.second) else
    one_key (outgoing_key q.first)

-- what a flag asks for
abbrev pub asked : {A : Type 0} → Bool → A → Option A
asked b a = cond b (Some a) None

-- the key that its keys go under: the top key offset by the next send count or, notarized, the notarizing key of us as
-- originator, of the partner as receiver and of that count
abbrev pub working_for : Text → Entry → Request → Top
working_for own e q = working (wants_nos q) own (bare e.identity.bytes) (top_of e.top) e.sending.next

-- a key as it is written: under that key; P, IDK1 and IDK2 (always the entry's key name) where asked for
abbrev pub kd_for : Text → Entry → Request → KeyRequest → Kd
kd_for own e q k = record {
  key = seal (working_for own e q) k.key;
  p = wants_p k;
  idk1 = asked (wants_idk1 k) (bare k.name.bytes);
  idk2 = asked (wants_idk2 k) (bare e.top.name.bytes);
}

-- the IV: P and the value, or E and the value enciphered
unfoldable pub iv_for : Request → Option Text
iv_for q =
    in_case eqb q.kind 1 then Some (ascii "P" ++ hex_text 16 q.iv) else
    in_case eqb q.kind 2 then Some (ascii "E" ++ hex_text 16 (conceal (keys_in (outgoing_of q)) q.iv)) else None

-- the message with the next send count and a MAC
unfoldable pub ksm_body : Text → Entry → Request → ℕ → Body
ksm_body own e q m = ksm (record {
  nos = wants_nos q;
  kd = kd_for own e q q.first;
  second = asked (eqb q.count 2) (kd_for own e q q.second);
  iv = iv_for q;
  edk = asked (eqb q.dated 1) q.date.digits;
  ctp = e.sending.next;
  mac = m;
})

-- its MAC is under its own keys, over its own text before it
unfoldable pub ksm_text : Text → Entry → Request → Text
ksm_text own e q =
    print (to_partner own e
    (ksm_body own e q (mac (mac_key (keys_in (outgoing_of q))) (covered_part (to_partner own e (ksm_body own e q 0))))))

-- ---- the steps

-- build a KSM: 7 (a key message is already waiting), 8, 11, 12; then 0: message with the next send count, which rises
-- by one; outgoing keys set; phase 1
unfoldable pub build_ksm : Text → Entry → Request → Turn
build_ksm own e q =
    in_case is_waiting e.sending then refused e 7 else
    in_case eqb e.sending.next limit then refused e 8 else
    in_case any not_odd (used q) then refused e 11 else
    in_case malformed q then refused e 12 else
    done (with_sending e (issued e.sending (outgoing_of q))) (ksm_text own e q) nothing

-- build an RSI: 12 (no legal SVR); it changes nothing
unfoldable pub build_rsi : Text → Entry → Text → Turn
build_rsi own e contents =
    elim (value svr contents) [
      | None ↦ refused e 12
      | Some s ↦ done e (print (to_partner own e (rsi (record { svr = s; edc = None })))) nothing
    ]

-- give up: 5, else phase 3 and keys wiped
unfoldable pub give_up : Entry → Turn
give_up e = in_case not (is_waiting e.sending) then refused e 5 else done (with_sending e (given_up e.sending)) [] nothing
