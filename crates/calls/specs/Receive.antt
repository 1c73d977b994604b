-- Receive, once the partner's entry is found: by class (document 01, "Receive").
use Rattle.std.specs.Prelude.{Bool, cond, not, ◌&&◌, ◌||◌, List, [], ◌∷◌, ℕ, ◌+◌, eqb, ltb, Option, None, Some}
use Prim.Native.Char.{code}
use Rattle.octets.specs.Text.{Text, same, is_run}
use Rattle.octets.specs.Part.{bare, found}
use Rattle.keying.specs.Parity.{odd}
use Rattle.keying.specs.Keys.{unseal}
use Rattle.keying.specs.Working.{working}
use Rattle.keying.specs.Mac.{mac_key, mac}
use Rattle.keying.specs.Iv.{reveal}
use Rattle.dates.specs.Date.{is_date}
use Rattle.csm.specs.Fields.{Kd, named, numeral}
use Rattle.csm.specs.Message.{Ksm, Rsm, Esm, Body, rsi, ksm, rsm, esm, option, Reading, print}
use Rattle.csm.specs.Covered.{covered, covered_part}
use Rattle.partner.specs.declared.DataKey.{DataKey}
use Rattle.partner.specs.declared.KeySet.{KeySet}
use Rattle.partner.specs.declared.Sending.{Sending}
use Rattle.partner.specs.declared.Entry.{Entry}
use Rattle.partner.specs.Entry.{limit, waiting, name_of, top_of, keys_in, one_key, two_keys}
use Rattle.partner.specs.Changes.{with_receiving, with_sending, accepted, settled, given_up, failed}
use Rattle.calls.specs.Words.{in_case◌then◌else◌, some_has, any}
use Rattle.calls.specs.Outcome.{F, I, K, M, O, P, service, keys, confirmation, failure}
use Rattle.calls.specs.Outcome.{Turn, complaint, refused, done}

-- ---- what we answer

-- a message to the partner
abbrev pub to_partner : Text → Entry → Body → Reading
to_partner own e body = record { rcv = bare e.identity.bytes; org = own; body = body }

-- the ESM for P carries CTP (ours, expected) and CTR (received)
abbrev pub esm_body : ℕ → Option (ℕ × ℕ) → Body
esm_body letters None = esm (record { ctp = None; ctr = None; erf = letters; edc = None })
esm_body letters (Some (ctp, ctr)) = esm (record { ctp = Some ctp; ctr = Some ctr; erf = letters; edc = None })

-- 4, the entry as it was
abbrev pub error : Text → Entry → ℕ → Option (ℕ × ℕ) → Turn
error own e letters counts = record {
  outcome = complaint letters (print (to_partner own e (esm_body letters counts)));
  entry = e;
}

-- an RSM under these keys: its MAC is over its own text before it
abbrev pub rsm_body : ℕ → Body
rsm_body m = rsm (record { mac = m })

unfoldable pub rsm_text : Text → Entry → KeySet → Text
rsm_text own e set =
    print (to_partner own e (rsm_body (mac (mac_key (keys_in set)) (covered_part (to_partner own e (rsm_body 0))))))

-- ---- a KSM

-- the key name in force for a KD: its own IDK2 or, without one, the name in the table entry
abbrev pub name_in_force : Entry → Kd → Text
name_in_force e k = elim k.idk2 [ None ↦ bare e.top.name.bytes | Some n ↦ n ]

-- I: an IDK2 that is not the entry's name
unfoldable pub foreign : Entry → Kd → Bool
foreign e k = not (same (name_in_force e k) (bare e.top.name.bytes))

-- a KD's key deciphered under the top key offset by the message's CTP or, with NOS, under the notarizing key of the
-- partner as originator, of us as receiver and of the CTP
abbrev pub deciphered : Text → Entry → Ksm → Kd → ℕ
deciphered own e m k = unseal (working m.nos (bare e.identity.bytes) own (top_of e.top) m.ctp) k.key

-- K: a KD marked P and not of odd parity once deciphered
unfoldable pub uneven : Text → Entry → Ksm → Kd → Bool
uneven own e m k = k.p && not (odd (deciphered own e m k))

-- its KDs
abbrev pub kds : Ksm → List Kd
kds m = m.kd ∷ elim m.second [ None ↦ [] | Some k ↦ k ∷ [] ]

-- the keys and names that it brings
abbrev pub brought_key : Text → Entry → Ksm → Kd → DataKey
brought_key own e m k = record { key = deciphered own e m k; name = name_of (named k.idk1) }

unfoldable pub brought : Text → Entry → Ksm → KeySet
brought own e m =
    elim m.second [
      | None ↦ one_key (brought_key own e m m.kd)
      | Some k ↦ two_keys (brought_key own e m m.kd) (brought_key own e m k)
    ]

-- the value of an IV: after P as it stands, after E deciphered; none where it is not E or P and 16 hex digits
unfoldable pub iv_value : List ℕ → Text → Option ℕ
iv_value ks [] = None
iv_value ks (c ∷ w) =
    in_case not (is_run (code "F") 16 16 w) then None else
    in_case eqb c (code "P") then Some (numeral 16 0 w) else
    in_case eqb c (code "E") then Some (reveal ks (numeral 16 0 w)) else None

-- F: IV not E or P and 16 hex digits, or EDK no date
unfoldable pub bad_format : KeySet → Ksm → Bool
bad_format set m =
    some_has (λ w. not (found (iv_value (keys_in set) w))) m.iv || some_has (λ w. not (is_date w)) m.edk

-- M: the MAC differs
unfoldable pub bad_mac : KeySet → Text → ℕ → Bool
bad_mac set text m = not (eqb (mac (mac_key (keys_in set)) (covered text)) m)

-- P: count below the expected one, or 99,999,999
unfoldable pub bad_count : ℕ → ℕ → Bool
bad_count expected count = ltb count expected || eqb count limit

-- a letter where its error holds
abbrev pub when : Bool → ℕ → ℕ
when b letter = cond b letter 0

-- F, M and P are all judged: all that hold
unfoldable pub faults : Entry → KeySet → Text → Ksm → ℕ
faults e set text m =
    when (bad_format set m) F + (when (bad_mac set text m.mac) M + when (bad_count e.receiving.expected m.ctp) P)

-- the counts of an ESM for P
abbrev pub counts_for : Entry → Ksm → Option (ℕ × ℕ)
counts_for e m = cond (bad_count e.receiving.expected m.ctp) (Some (e.receiving.expected, m.ctp)) None

-- the IV, if there is one
abbrev pub iv_of : KeySet → Ksm → Option ℕ
iv_of set m = elim m.iv [ None ↦ None | Some w ↦ iv_value (keys_in set) w ]

-- if any of F, M, P holds, 4 with all that hold; otherwise 0: the keys and names replace the incoming ones, expected
-- becomes count + 1, IV and date are returned, the reply is an RSM
unfoldable pub judged : Text → Entry → Text → Ksm → KeySet → Turn
judged own e text m set =
    in_case not (eqb (faults e set text m) 0) then error own e (faults e set text m) (counts_for e m) else
    done (with_receiving e (accepted m.ctp set)) (rsm_text own e set) (keys (iv_of set m) m.edk)

-- I alone, K alone, then F, M and P together
unfoldable pub receive_ksm : Text → Entry → Text → Ksm → Turn
receive_ksm own e text m =
    in_case any (foreign e) (kds m) then error own e I None else
    in_case any (uneven own e m) (kds m) then error own e K None else
    judged own e text m (brought own e m)

-- ---- an RSM: not waiting, 5; MAC differs under the outgoing keys, 4 with M, still waiting; otherwise 0, phase 2

unfoldable pub is_waiting : Sending → Bool
is_waiting s = eqb s.phase waiting

unfoldable pub receive_rsm : Text → Entry → Text → Rsm → Turn
receive_rsm own e text m =
    in_case not (is_waiting e.sending) then refused e 5 else
    in_case bad_mac e.sending.outgoing text m.mac then error own e M None else
    done (with_sending e (settled e.sending)) [] confirmation

-- ---- an ESM: not waiting, 5; otherwise 0: phase 3, keys wiped, next send the larger of itself and CTP

abbrev pub after_esm : Sending → Esm → Sending
after_esm s m = elim m.ctp [ None ↦ given_up s | Some x ↦ failed s x ]

unfoldable pub receive_esm : Entry → Esm → Turn
receive_esm e m =
    in_case not (is_waiting e.sending) then refused e 5 else
    done (with_sending e (after_esm e.sending m)) [] (failure m.erf)

-- ---- by class; an RSI: 0, the service wanted is returned; an option: 4 with O

unfoldable pub receive : Text → Entry → Text → Body → Turn
receive own e text (rsi m) = done e [] (service m.svr)
receive own e text (ksm m) = receive_ksm own e text m
receive own e text (rsm m) = receive_rsm own e text m
receive own e text (esm m) = receive_esm e m
receive own e text (option c w) = error own e O None
