-- What a turn leaves of an entry whose fields fit their types fits them too, is legal and has the same identity.
use Rattle.std.specs.Prelude.{Option, None, Some}
use mathlib.Core.Path.{◌≡◌, refl}
use mathlib.Core.Bool.{Bool, true, false, cond, ◌||◌}
use mathlib.Core.List.{[]}
use Prim.Native.Nat.{ℕ, ◌^◌, ◌<◌}
use Prim.Native.Char.{code}
use native.Mathlib.Omega.{arith}
use lib.Dec.{ltb}
use lib.ListN.{length}
use borrow.Author.Tests.{lt-ltb}
use Rattle.octets.specs.Text.{Text, all, within, run_char, is_name}
use Rattle.octets.specs.Part.{bare, all_octets}
use Rattle.octets.proofs.Comparing.{both as and_true}
use Rattle.keying.proofs.Laws.{unseal_lt}
use Rattle.csm.specs.Format.{value, maybe_legal}
use Rattle.csm.specs.Fields.{KD, CTP, field, Kd, kd, svr, named, legal_name}
use Rattle.csm.specs.Message.{Body, Ksm, rsi, ksm, rsm, esm, option, legal_body, Reading, read, print}
use Rattle.csm.proofs.TextLaws.{within_true, all_weaker}
use Rattle.csm.proofs.MessageLaws.{read_back, legal_parts as reading_parts}
use Rattle.partner.specs.declared.KeySet.{KeySet}
use Rattle.partner.specs.declared.Sending.{Sending}
use Rattle.partner.specs.declared.Entry.{Entry}
use Rattle.partner.specs.Entry.{limit, name_of, one_key, two_keys}
use Rattle.partner.specs.Legal as partner
use Rattle.partner.specs.Changes.{given_up, failed}
use Rattle.partner.specs.Held.{HeldKey, HeldSet, HeldSending, Held}
use Rattle.partner.proofs.Holding.{held_name_of, held_one, held_two, held_accepted, held_issued, held_settled}
use Rattle.partner.proofs.Holding.{held_given_up, held_failed, held_with_sending, held_with_receiving}
use Rattle.calls.specs.declared.KeyRequest.{KeyRequest}
use Rattle.calls.specs.declared.Request.{Request}
use Rattle.calls.specs.Words.{in_case◌then◌else◌}
use Rattle.calls.specs.Outcome.{Turn, nothing, refused, done}
use Rattle.calls.specs.Receive as by_class
use Rattle.calls.specs.Receive.{to_partner, brought_key, brought, judged, receive_ksm, receive_rsm, receive_esm}
use Rattle.calls.specs.Build as building
use Rattle.calls.specs.Build.{outgoing_key, outgoing_of, asked, wants_idk1, bad_key}
use Rattle.calls.specs.Claims.{Sized}
use Rattle.calls.proofs.Tests.{by_case}
use Rattle.calls.proofs.Readings.{kd_name, ksm_parts, esm_count}
use Rattle.calls.proofs.Requests.{Keyed, one, two, formed, not_two, idk1_legal}
use Rattle.calls.proofs.Turns.{Does, does_change, change_legal, change_identity}
use Rattle.calls.proofs.Turns.{receive_does, build_ksm_does, build_rsi_does, give_up_does}

-- the entry that a turn leaves fits its types
abbrev Fits : Turn → Type 0
Fits r = Held r.entry

-- ---- names

-- the characters of a name are bytes
char_octet : (x : ℕ) → run_char (code "Z") x ≡ true → ltb x 256 ≡ true
char_octet x h = go (within 48 57 x) refl h
  where
    go : (b : Bool) → within 48 57 x ≡ b → b || within 65 90 x ≡ true → ltb x 256 ≡ true
    go true p h = let k = within_true 48 57 x p in lt-ltb x 256 (omega (arith, k.1))
    go false p h = let k = within_true 65 90 x h in lt-ltb x 256 (omega (arith, k.1))

pub name_octets : (w : Text) → is_name w ≡ true → all_octets w ≡ true
name_octets w h =
    all_weaker (run_char (code "Z")) (λ b. ltb b 256) char_octet w
    (and_true (all (run_char (code "Z")) w) (within 1 16 (length w)) h).0

named_octets : (o : Option Text) → legal_name o ≡ true → all_octets (named o) ≡ true
named_octets None h = refl
named_octets (Some w) h = name_octets w h

-- ---- receive

brought_held : (us : Text) (e : Entry) (m : Ksm) → legal_body (ksm m) ≡ true → HeldSet (brought us e m)
unfolding brought
brought_held us e m h = let p = ksm_parts m h in go m.second p.first p.second
  where
    held : (k : Kd) → kd.legal k ≡ true → HeldKey (brought_key us e m k)
    held k l = record {
      key = unseal_lt _ k.key;
      name = held_name_of (named k.idk1) (named_octets k.idk1 (kd_name k l));
    }

    go : (o : Option Kd) → kd.legal m.kd ≡ true → maybe_legal (field KD) o ≡ true
        → HeldSet (elim o as (λ x. KeySet) [
          | None ↦ one_key (brought_key us e m m.kd)
          | Some k ↦ two_keys (brought_key us e m m.kd) (brought_key us e m k)
        ])
    go None a b = held_one (brought_key us e m m.kd) (held m.kd a)
    go (Some k) a b = held_two (brought_key us e m m.kd) (brought_key us e m k) (held m.kd a) (held k b)

module _ (us : Text) (e : Entry) (h : Held e) where
  receive_held : (text : Text) (b : Body) → legal_body b ≡ true → Fits (by_class.receive us e text b)
  unfolding by_class.receive receive_ksm judged receive_rsm receive_esm
  receive_held text (rsi m) l = h
  receive_held text (ksm m) l =
      by_case Fits _ _ _ (λ _. h) λ _. by_case Fits _ _ _ (λ _. h) λ _. by_case Fits _ _ _ (λ _. h) λ _.
      held_with_receiving e _ h (held_accepted m.ctp (brought us e m) (brought_held us e m l))
  receive_held text (rsm m) l =
      by_case Fits _ _ _ (λ _. h) λ _. by_case Fits _ _ _ (λ _. h) λ _. held_with_sending e _ h (held_settled e.sending h.sending)
  receive_held text (esm m) l = by_case Fits _ _ _ (λ _. h) λ _.
      held_with_sending e _ h (go m.ctp (esm_count m l))
    where
      go : (o : Option ℕ) → maybe_legal (field CTP) o ≡ true
          → HeldSending (elim o as (λ x. Sending) [ None ↦ given_up e.sending | Some x ↦ failed e.sending x ])
      go None b = held_given_up e.sending h.sending
      go (Some x) b =
          let k = within_true 1 limit x b in held_failed e.sending x h.sending (omega (arith, k.1))
  receive_held text (option c w) l = h

-- ---- build a KSM, build an RSI, give up

outgoing_key_held : (k : KeyRequest) → k.key < 2 ^ 64 → bad_key k ≡ false → HeldKey (outgoing_key k)
outgoing_key_held k f b = go (wants_idk1 k) (idk1_legal k b)
  where
    go : (w : Bool) → legal_name (asked w (bare k.name.bytes)) ≡ true
        → HeldKey (record { key = k.key; name = name_of (cond w (bare k.name.bytes) []) })
    go true l = record { key = f; name = held_name_of _ (name_octets (bare k.name.bytes) l) }
    go false l = record { key = f; name = held_name_of [] refl }

outgoing_held : (q : Request) → Sized q → Keyed q → HeldSet (outgoing_of q)
unfolding outgoing_of in_case◌then◌else◌
outgoing_held q s (one p a) =
    rw (not_two q p) (held_one (outgoing_key q.first) (outgoing_key_held q.first s.first a))
outgoing_held q s (two p r a b) =
    rw r (held_two (outgoing_key q.first) (outgoing_key q.second) (outgoing_key_held q.first s.first a)
    (outgoing_key_held q.second s.second b))

module _ (us : Text) (e : Entry) (h : Held e) where
  build_ksm_held : (q : Request) → Sized q → Fits (building.build_ksm us e q)
  unfolding building.build_ksm
  build_ksm_held q s =
      by_case Fits _ _ _ (λ _. h) λ _. by_case Fits _ _ _ (λ _. h) λ _.
      by_case Fits _ _ _ (λ _. h) λ _. by_case Fits _ _ _ (λ _. h) λ f.
      held_with_sending e _ h (held_issued e.sending (outgoing_of q) (outgoing_held q s (formed q f).keys))

  build_rsi_held : (contents : Text) → Fits (building.build_rsi us e contents)
  unfolding building.build_rsi
  build_rsi_held contents = go (value svr contents)
    where
      go : (o : Option ℕ) → Fits (elim o [
        | None ↦ refused e 12
        | Some s ↦ done e (print (to_partner us e (rsi (record { svr = s; edc = None })))) nothing
      ])
      go None = h
      go (Some s) = h

  give_up_held : Fits (building.give_up e)
  unfolding building.give_up
  give_up_held = by_case Fits _ _ _ (λ _. h) (λ _. held_with_sending e _ h (held_given_up e.sending h.sending))

-- ---- together

-- an entry that may be put back
pub record Keeps (e f : Entry) : Type 0 where
  pub lawful : partner.legal f ≡ true
  pub held : Held f
  pub identity : f.identity ≡ e.identity

does_keeps : {us : Text} {e : Entry} {R : Text → Type 0} (r : Turn) → Does us e R r → partner.legal e ≡ true
    → Fits r → Keeps e r.entry
does_keeps {us} {e} {R} r d l f =
    let k = does_change r d in
    record { lawful = change_legal e r.entry k l; held = f; identity = change_identity e r.entry k }

-- each turn of a partner's entry, where our own identity is a name
module _ (us : Text) (name : is_name us ≡ true) (e : Entry) (l : partner.legal e ≡ true) (h : Held e) where
  pub receive_keeps : (text : Text) (q : Reading) → read text ≡ Some q
      → Keeps e (by_class.receive us e text q.body).entry
  receive_keeps text q r =
      let b = (reading_parts q (read_back text q r).0).body in
      does_keeps _ (receive_does us e name l text q.body b) l (receive_held us e h text q.body b)

  pub build_ksm_keeps : (q : Request) → Sized q → Keeps e (building.build_ksm us e q).entry
  build_ksm_keeps q s = does_keeps _ (build_ksm_does us e name l q) l (build_ksm_held us e h q s)

  pub build_rsi_keeps : (contents : Text) → Keeps e (building.build_rsi us e contents).entry
  build_rsi_keeps contents = does_keeps _ (build_rsi_does us e name l contents) l (build_rsi_held us e h contents)

  pub give_up_keeps : Keeps e (building.give_up e).entry
  give_up_keeps = does_keeps _ (give_up_does us e) l (give_up_held us e h)
