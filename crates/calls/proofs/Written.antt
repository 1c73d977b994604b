-- The messages that a card writes to a partner are read back, and their MACs are right.
use mathlib.Core.Path.{◌≡◌, refl, sym, ap}
use mathlib.Core.Bool.{true}
use lib.Dec.{eqb}
use Rattle.octets.specs.Text.{Text, is_name}
use Rattle.octets.specs.Part.{bare}
use Rattle.keying.specs.Mac.{mac_key, mac}
use Rattle.keying.proofs.Laws.{mac_lt}
use Rattle.csm.specs.Message.{Body, Ksm, Rsm, ksm, rsm, legal_body, print}
use Rattle.csm.specs.Covered.{covered, covered_part}
use Rattle.csm.proofs.LengthLaws.{known}
use Rattle.csm.proofs.CoveredLaws.{covered_agrees}
use Rattle.partner.specs.declared.KeySet.{KeySet}
use Rattle.partner.specs.declared.Entry.{Entry}
use Rattle.partner.specs.Entry.{keys_in}
use Rattle.partner.specs.Legal.{legal}
use Rattle.partner.proofs.Naming.{filled_name}
use Rattle.partner.proofs.Keeping.{rules}
use Rattle.calls.specs.declared.Request.{Request}
use Rattle.calls.specs.Receive.{to_partner, rsm_body, rsm_text}
use Rattle.calls.specs.Build.{wants_nos, outgoing_of, asked, kd_for, iv_for, ksm_body, ksm_text}
use Rattle.calls.specs.Claims.{Carries}
use Rattle.calls.proofs.Readings.{carried, rsm_legal}
use Rattle.calls.proofs.Requests.{Formed, ksm_legal}

-- the message of a request with its MAC
unfoldable pub sent : Text → Entry → Request → Ksm
sent us e q = record {
  nos = wants_nos q;
  kd = kd_for us e q q.first;
  second = asked (eqb q.count 2) (kd_for us e q q.second);
  iv = iv_for q;
  edk = asked (eqb q.dated 1) q.date.digits;
  ctp = e.sending.next;
  mac = mac (mac_key (keys_in (outgoing_of q))) (covered_part (to_partner us e (ksm_body us e q 0)));
}

module _ (us : Text) (e : Entry) (named : is_name us ≡ true) (lawful : legal e ≡ true) where
  pub to_them : (b : Body) → known b ≡ true → legal_body b ≡ true
      → Carries us (bare e.identity.bytes) b (print (to_partner us e b))
  to_them b k l =
      carried us (bare e.identity.bytes) b named
      (filled_name e.identity.bytes (rules e lawful).identity_filled) k l

  -- an RSM under these keys
  pub rsm_written : (set : KeySet)
      → (x : Rsm) × (Carries us (bare e.identity.bytes) (rsm x) (rsm_text us e set))
      × (x.mac ≡ mac (mac_key (keys_in set)) (covered (rsm_text us e set)))
  unfolding rsm_text covered_part
  rsm_written set =
      let m = mac (mac_key (keys_in set)) (covered_part (to_partner us e (rsm_body 0))) in
      let c = to_them (rsm_body m) refl (rsm_legal m (mac_lt _ _)) in
      let s = sym (covered_agrees _ (to_partner us e (rsm_body m)) m c refl) in
      (record { mac = m }, c, ap (mac (mac_key (keys_in set))) s)

  -- the KSM of a request
  module _ (q : Request) (formed : Formed q) where
    pub sent_written : Carries us (bare e.identity.bytes) (ksm (sent us e q)) (ksm_text us e q)
    unfolding ksm_text ksm_body sent
    sent_written =
        to_them (ksm (sent us e q)) refl (ksm_legal us e q (sent us e q).mac lawful formed (mac_lt _ _))

    pub sent_sealed : (sent us e q).mac ≡ mac (mac_key (keys_in (outgoing_of q))) (covered (ksm_text us e q))
    unfolding sent ksm_body covered_part
    sent_sealed =
        let r = to_partner us e (ksm (sent us e q)) in
        ap (mac (mac_key (keys_in (outgoing_of q))))
        (sym (covered_agrees (ksm_text us e q) r (sent us e q).mac sent_written refl))
