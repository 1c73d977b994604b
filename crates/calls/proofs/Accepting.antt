-- What the steps test of a KSM and of a request, and what they make of a good one, by their own definitions: what is
-- good is accepted, a KSM, a request, an RSM. What this means in the paper's terms is in Meaning.
use Rattle.std.specs.Prelude.{Some}
use mathlib.Core.List.{[]}
use mathlib.Core.Path.{◌≡◌, refl, sym, ◌∙◌, subst}
use mathlib.Core.Bool.{true, false}
use Prim.Native.Nat.{ℕ, ◌≤◌, ◌<◌}
use native.Mathlib.Omega.{arith}
use borrow.Author.Tests.{le-ltb, ne_eqb, eq-eqb}
use Rattle.octets.specs.Text.{Text}
use Rattle.octets.specs.Part.{bare}
use Rattle.octets.proofs.Comparing.{same_self as same_refl}
use Rattle.keying.specs.Mac.{mac_key, mac}
use Rattle.csm.specs.Message.{Body, Ksm, Rsm, Esm, ksm, rsm, esm}
use Rattle.csm.specs.Covered.{covered}
use Rattle.partner.specs.declared.Entry.{Entry}
use Rattle.partner.specs.Entry.{limit, keys_in}
use Rattle.partner.specs.Changes.{with_receiving, with_sending, accepted, issued, settled}
use Rattle.partner.specs.Table.{Table, legal}
use Rattle.calls.specs.declared.Request.{Request}
use Rattle.calls.specs.Words.{in_case◌then◌else◌, any}
use Rattle.calls.specs.Outcome.{nothing, keys, confirmation, failure, success, done}
use Rattle.calls.specs.Receive as by_class
use Rattle.calls.specs.Receive.{rsm_text, brought, faults, foreign, uneven, kds, bad_format}
use Rattle.calls.specs.Receive.{bad_mac}
use Rattle.calls.specs.Receive.{bad_count, iv_of, judged, receive_ksm, is_waiting, receive_rsm, after_esm}
use Rattle.calls.specs.Receive.{receive_esm}
use Rattle.calls.specs.Build as building
use Rattle.calls.specs.Build.{outgoing_of, ksm_text, used, not_odd, malformed}
use Rattle.calls.specs.Calls.{receive, about, build_ksm, entry_of, at_partner, receiving, After}
use Rattle.calls.specs.Calls.{perform, run}
use Rattle.calls.specs.Claims.{Carries}
use Rattle.calls.proofs.Written.{rsm_written}
use Rattle.calls.proofs.Tables.{own_name, put_back, entry_held, held_legal, turned_after}

-- a KSM passes every test
pub record Passes (us : Text) (e : Entry) (text : Text) (m : Ksm) : Type 0 where
  pub names : any (foreign e) (kds m) ≡ false
  pub parity : any (uneven us e m) (kds m) ≡ false
  pub format : bad_format (brought us e m) m ≡ false
  pub sealed : m.mac ≡ mac (mac_key (keys_in (brought us e m))) (covered text)
  pub fresh : e.receiving.expected ≤ m.ctp
  pub not_last : m.ctp < limit

-- and is accepted
pub record TakenIn (us id : Text) (e : Entry) (m : Ksm) (a : After) : Type 0 where
  pub answered : a.outcome.answer ≡ 0
  pub returned : a.outcome.told ≡ keys (iv_of (brought us e m) m) m.edk
  pub entry : entry_of id a.table ≡ Some (with_receiving e (accepted m.ctp (brought us e m)))
  pub message : Rsm
  pub written : Carries us id (rsm message) a.outcome.reply
  pub sealed : message.mac ≡ mac (mac_key (keys_in (brought us e m))) (covered a.outcome.reply)

-- a request passes every test
pub record Fit (e : Entry) (q : Request) : Type 0 where
  pub free : is_waiting e.sending ≡ false
  pub not_last : e.sending.next < limit
  pub parity : any not_odd (used q) ≡ false
  pub formed : malformed q ≡ false

-- ---- the way of a call to the entry

module _ (t : Table) (lawful : legal t ≡ true) (room : ℕ) (roomy : 256 ≤ room) (id : Text) (e : Entry)
    (known : entry_of id t ≡ Some e) where
  pub receive_turns : (text : Text) (b : Body) → Carries id (bare t.own) b text
      → run t (receive room text) ≡ put_back t id (by_class.receive (bare t.own) e text b)
  unfolding run perform receiving at_partner in_case◌then◌else◌
  receive_turns text b h = rw (lawful, le-ltb room 256 roomy, h, same_refl (bare t.own), known)

  pub build_turns : (q : Request)
      → run t (about id (build_ksm room q)) ≡ put_back t id (building.build_ksm (bare t.own) e q)
  unfolding run perform at_partner in_case◌then◌else◌
  build_turns q = rw (lawful, le-ltb room 256 roomy, known)

-- ---- a KSM

pub ksm_turn : (us : Text) (e : Entry) (text : Text) (m : Ksm) → Passes us e text m → by_class.receive us e text (ksm m)
    ≡ done (with_receiving e (accepted m.ctp (brought us e m))) (rsm_text us e (brought us e m)) (keys (iv_of (brought us e m) m) m.edk)
unfolding by_class.receive receive_ksm judged in_case◌then◌else◌ faults bad_mac bad_count
ksm_turn us e text m good =
    let k = good.not_last in
    rw (
      good.names,
      good.parity,
      good.format,
      eq-eqb (mac (mac_key (keys_in (brought us e m))) (covered text)) m.mac (sym good.sealed),
      le-ltb m.ctp e.receiving.expected good.fresh,
      ne_eqb m.ctp limit (λ i. omega arith),
    )

pub ksm_accepted : (t : Table) (room : ℕ) (text id : Text) (m : Ksm) (e : Entry) → legal t ≡ true → 256 ≤ room
    → Carries id (bare t.own) (ksm m) text → entry_of id t ≡ Some e → Passes (bare t.own) e text m
    → TakenIn (bare t.own) id e m (run t (receive room text))
ksm_accepted t room text id m e l r c k g =
    let us = bare t.own in
    let set = brought us e m in
    let h = entry_held t id e k in
    let x = rsm_written us e (own_name t l) (held_legal t id e l h) set in
    rw (receive_turns t l room r id e k text (ksm m) c, ksm_turn us e text m g) (record {
      answered = refl;
      returned = refl;
      entry = turned_after t id e (with_receiving e (accepted m.ctp set)) h refl;
      message = x.0;
      written = subst (λ (n : Text). Carries us n (rsm x.0) (rsm_text us e set)) h.bare_identity x.1;
      sealed = x.2;
    })

-- ---- an RSM

pub rsm_taken : (t : Table) (room : ℕ) (text id : Text) (m : Rsm) (e : Entry) → legal t ≡ true → 256 ≤ room
    → Carries id (bare t.own) (rsm m) text → entry_of id t ≡ Some e
    → is_waiting e.sending ≡ true → m.mac ≡ mac (mac_key (keys_in e.sending.outgoing)) (covered text)
    → ((run t (receive room text)).outcome ≡ success [] confirmation)
    × (entry_of id (run t (receive room text)).table ≡ Some (with_sending e (settled e.sending)))
unfolding by_class.receive receive_rsm bad_mac in_case◌then◌else◌
rsm_taken t room text id m e l r c k w s =
    rw (
      receive_turns t l room r id e k text (rsm m) c,
      w,
      eq-eqb (mac (mac_key (keys_in e.sending.outgoing)) (covered text)) m.mac (sym s),
    ) (refl, turned_after t id e (with_sending e (settled e.sending)) (entry_held t id e k) refl)

-- ---- an ESM

pub esm_breaking : (t : Table) (room : ℕ) (text id : Text) (m : Esm) (e : Entry) → legal t ≡ true → 256 ≤ room
    → Carries id (bare t.own) (esm m) text → entry_of id t ≡ Some e → is_waiting e.sending ≡ true
    → ((run t (receive room text)).outcome ≡ success [] (failure m.erf))
    × (entry_of id (run t (receive room text)).table ≡ Some (with_sending e (after_esm e.sending m)))
unfolding by_class.receive receive_esm in_case◌then◌else◌
esm_breaking t room text id m e l r c k w =
    rw (receive_turns t l room r id e k text (esm m) c, w)
    (refl, turned_after t id e (with_sending e (after_esm e.sending m)) (entry_held t id e k) refl)

-- ---- a request

pub request_built : (t : Table) (room : ℕ) (id : Text) (q : Request) (e : Entry) → legal t ≡ true → 256 ≤ room
    → entry_of id t ≡ Some e → Fit e q
    → run t (about id (build_ksm room q))
    ≡ put_back t id (done (with_sending e (issued e.sending (outgoing_of q))) (ksm_text (bare t.own) e q) nothing)
unfolding building.build_ksm in_case◌then◌else◌
request_built t room id q e l r k g =
    let n = g.not_last in
    build_turns t l room r id e k q
    ∙ rw (g.free, ne_eqb e.sending.next limit (λ i. omega arith), g.parity, g.formed)
