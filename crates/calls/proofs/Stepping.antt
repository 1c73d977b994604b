-- Each step's result in the paper's terms.
use Rattle.std.specs.Prelude.{Some}
use mathlib.Core.List.{[]}
use mathlib.Core.Path.{◌≡◌, refl, sym, ap, ◌∙◌, subst}
use mathlib.Core.Bool.{true, false}
use Prim.Native.Nat.{ℕ, ◌≤◌}
use borrow.Author.Tests.{eqb-true, eq-eqb, ne_eqb, le-ltb, ltb-false, not-false}
use Rattle.octets.specs.Text.{Text}
use Rattle.octets.specs.Part.{bare}
use Rattle.octets.specs.First.{first}
use Rattle.octets.proofs.Comparing.{same_self as same_refl}
use Rattle.csm.specs.Message.{Body, Ksm, Rsm, Esm, Rsi, rsi, ksm, rsm, esm}
use Rattle.csm.proofs.MessageLaws.{read_back, legal_parts as reading_parts}
use Rattle.partner.specs.declared.KeySet.{KeySet}
use Rattle.partner.specs.declared.Sending.{Sending}
use Rattle.partner.specs.declared.Entry.{Entry}
use Rattle.partner.specs.Entry.{limit, waiting, broken, no_keys}
use Rattle.partner.specs.Changes.{with_receiving, with_sending, accepted, issued, settled, given_up, failed}
use Rattle.partner.proofs.Keeping.{rules, risen_below}
use Rattle.partner.specs.Table.{Table, legal}
use Rattle.calls.specs.declared.Request.{Request}
use Rattle.calls.specs.Words.{in_case◌then◌else◌, any}
use Rattle.calls.specs.Orders.{by_class as order_of, by_act}
use Rattle.calls.specs.Outcome.{success, refusal, done, keys, confirmation, service, failure}
use Rattle.calls.specs.Receive as by_class
use Rattle.calls.specs.Receive.{brought, faults, bad_format, bad_mac, bad_count, iv_of, is_waiting, after_esm}
use Rattle.calls.specs.Build as building
use Rattle.calls.specs.Build.{used, not_odd, malformed, outgoing_of, ksm_text}
use Rattle.calls.specs.Calls.{receive, about, build_ksm, give_up, After, entry_of, at_partner, perform, run}
use Rattle.calls.specs.Claims.{Carries, Sized}
use Rattle.calls.specs.Good.{GoodKsm, Sealed, OddWhereMarked, FormedRequest, GoodRequest}
use Rattle.calls.specs.Results.{Accepts, Confirms, Breaks, raised_to, Builds}
use Rattle.calls.specs.Steps.{Comes, Partners, after_built, after_taken, after_confirmed, Exchanged}
use Rattle.calls.proofs.Tests.{or_split, by_part, not_failing}
use Rattle.calls.proofs.Readings.{ksm_parts}
use Rattle.calls.proofs.Turns.{refusing, none_holds, short_of_last}
use Rattle.calls.proofs.Refusals.{is_refused, same_table}
use Rattle.calls.proofs.Tables.{own_name, entry_held, held_legal, turned_after}
use Rattle.calls.proofs.Meaning.{of_each, of_all, ours, not_foreign, even_unmarked, not_uneven, brought_brings}
use Rattle.calls.proofs.Meaning.{brings_only, ksm_formed, formed_ksm, iv_returned}
use Rattle.calls.proofs.Asking.{none_even, odd_where_marked, request_formed, fit, good}
use Rattle.calls.proofs.Making.{kept, fields_written}
use Rattle.calls.proofs.Requests.{formed}
use Rattle.calls.proofs.Written.{sent, sent_written, sent_sealed}
use Rattle.calls.proofs.Accepting.{Passes, ksm_accepted, rsm_taken, esm_breaking, request_built}
use Rattle.calls.proofs.Orders.{done_passes}
use Rattle.calls.proofs.Complaining.{received}
use Rattle.calls.proofs.Claims.{claims}
use Rattle.calls.proofs.Exchange.{accepts, met, keys_back, iv_arrives}

-- ---- a KSM

pub passes : (us : Text) (e : Entry) (text : Text) (m : Ksm) → GoodKsm us e text m → Passes us e text m
passes us e text m g =
    let r = g.rest in
    let i = brings_only us e m r.set r.brings in
    record {
      names = of_all (by_class.foreign e) m (λ k p. not_foreign e k (r.names k p));
      parity = of_all (by_class.uneven us e m) m (λ k p. not_uneven us e m k (r.parity k p));
      format = subst (λ (s : KeySet). by_class.bad_format s m ≡ false) i (formed_ksm r.set m r.format);
      sealed = subst (λ (s : KeySet). Sealed s text m.mac) i r.sealed;
      fresh = g.count.fresh;
      not_last = g.count.not_last;
    }

pub passed : (us : Text) (e : Entry) (text : Text) (m : Ksm) → Passes us e text m → GoodKsm us e text m
passed us e text m g = record {
  rest = record {
    names = λ k p. ours e k (of_each (by_class.foreign e) m g.names k p);
    parity = λ k p. even_unmarked us e m k (of_each (by_class.uneven us e m) m g.parity k p);
    set = brought us e m;
    brings = brought_brings us e m;
    format = ksm_formed (brought us e m) m g.format;
    sealed = g.sealed;
  };
  count = record { fresh = g.fresh; not_last = g.not_last };
}

pub good_ksm : (t : Table) (room : ℕ) (text id : Text) (m : Ksm) (e : Entry) → Comes t room id e
    → Carries id (bare t.own) (ksm m) text → GoodKsm (bare t.own) e text m
    → Accepts (bare t.own) id e m (run t (receive room text))
unfolding accepted
good_ksm t room text id m e c k g =
    let us = bare t.own in
    let p = passes us e text m g in
    let x = ksm_accepted t room text id m e c.lawful c.roomy k c.known p in
    record {
      answered = x.answered;
      later = with_receiving e (accepted m.ctp (brought us e m));
      entry = x.entry;
      expected = risen_below m.ctp p.not_last;
      incoming = brought_brings us e m;
      key_stays = record { identity = refl; top = refl };
      sending_stays = refl;
      iv = iv_of (brought us e m) m;
      returned = x.returned;
      value = iv_returned (brought us e m) m (ksm_formed (brought us e m) m p.format);
      message = x.message;
      written = x.written;
      sealed = x.sealed;
    }

pub accepted_good : (t : Table) (room : ℕ) (text id : Text) (m : Ksm) (e : Entry)
    → Carries id (bare t.own) (ksm m) text → entry_of id t ≡ Some e
    → (run t (receive room text)).outcome.answer ≡ 0 → GoodKsm (bare t.own) e text m
unfolding faults bad_mac bad_count
accepted_good t room text id m e c k z =
    let p = rw (c, k) at (done_passes t (receive room text) z) in
    let us = bare t.own in
    let f = p.1.1.1 in
    let h = none_holds (bad_format (brought us e m) m) (bad_mac (brought us e m) text m.mac)
    (bad_count e.receiving.expected m.ctp) (not-false _ f.1.1.0) in
    let i = or_split _ _ h.2 in
    passed us e text m (record {
      names = f.0;
      parity = f.1.0;
      format = h.0;
      sealed = sym (eqb-true _ _ (not-false _ h.1));
      fresh = ltb-false m.ctp e.receiving.expected i.0;
      not_last = short_of_last m.ctp (ksm_parts m (reading_parts _ (read_back text _ c).0).body).count i.1;
    })

-- ---- an RSM

waits : (e : Entry) → e.sending.phase ≡ waiting → is_waiting e.sending ≡ true
unfolding is_waiting
waits e h = eq-eqb e.sending.phase waiting h

waits_not : (e : Entry) → (e.sending.phase ≡ waiting → ⊥) → is_waiting e.sending ≡ false
unfolding is_waiting
waits_not e h = ne_eqb e.sending.phase waiting h

-- a message that is answered 5
in_vain : (t : Table) (room : ℕ) (text id : Text) (b : Body) (e : Entry) → Comes t room id e
    → Carries id (bare t.own) b text → first (order_of (bare t.own) e text b) ≡ 5 → (run t (receive room text)).outcome ≡ refusal 5
in_vain t room text id b e g c p =
    ap (λ (a : After). a.outcome) (is_refused t (receive room text) 5 refl
    (rw (g.lawful, le-ltb room 256 g.roomy, c, same_refl (bare t.own), g.known) p))

module _ (t : Table) (room : ℕ) (text id : Text) (m : Rsm) (e : Entry) (g : Comes t room id e)
    (c : Carries id (bare t.own) (rsm m) text) where
  pub rsm_vain : (e.sending.phase ≡ waiting → ⊥) → (run t (receive room text)).outcome ≡ refusal 5
  rsm_vain h = in_vain t room text id (rsm m) e g c (rw (waits_not e h))

  pub confirms : e.sending.phase ≡ waiting → Sealed e.sending.outgoing text m.mac
      → Confirms id e (run t (receive room text))
  unfolding settled
  confirms w s =
      let r = rsm_taken t room text id m e g.lawful g.roomy c g.known (waits e w) s in
      record {
        answered = ap (λ o. o.answer) r.0;
        silent = ap (λ o. o.reply) r.0;
        told = ap (λ o. o.told) r.0;
        later = with_sending e (settled e.sending);
        entry = r.1;
        phase = refl;
        next = refl;
        outgoing = refl;
        key_stays = record { identity = refl; top = refl };
        receiving_stays = refl;
      }

pub taken_good : (t : Table) (room : ℕ) (text id : Text) (m : Rsm) (e : Entry)
    → Carries id (bare t.own) (rsm m) text → entry_of id t ≡ Some e
    → (run t (receive room text)).outcome.answer ≡ 0
    → (e.sending.phase ≡ waiting) × Sealed e.sending.outgoing text m.mac
unfolding is_waiting bad_mac
taken_good t room text id m e c k z =
    let p = rw (c, k) at (done_passes t (receive room text) z) in
    let f = p.1.1.1 in
    (eqb-true e.sending.phase waiting (not-false _ f.0), sym (eqb-true _ _ (not-false _ f.1.0)))

-- ---- an ESM, and giving up

-- the sending unit broken, with this next send count
broken_at : ℕ → Sending
broken_at n = record { next = n; phase = broken; outgoing = no_keys }

broken_with : (id : Text) (e : Entry) (n : ℕ) (a : After) → a.outcome.answer ≡ 0 → a.outcome.reply ≡ []
    → entry_of id a.table ≡ Some (with_sending e (broken_at n)) → Breaks id e n a
unfolding broken_at
broken_with id e n a z r k = record {
  answered = z;
  silent = r;
  later = with_sending e (broken_at n);
  entry = k;
  phase = refl;
  outgoing = refl;
  next = refl;
  key_stays = record { identity = refl; top = refl };
  receiving_stays = refl;
}

-- what an ESM leaves
after_so : (s : Sending) (m : Esm) → after_esm s m ≡ broken_at (raised_to s.next m.ctp)
unfolding given_up failed broken_at
after_so s m = by_part m.ctp (λ p. rw p) (λ x p. rw p)

module _ (t : Table) (room : ℕ) (text id : Text) (m : Esm) (e : Entry) (g : Comes t room id e)
    (c : Carries id (bare t.own) (esm m) text) where
  pub esm_vain : (e.sending.phase ≡ waiting → ⊥) → (run t (receive room text)).outcome ≡ refusal 5
  esm_vain h = in_vain t room text id (esm m) e g c (rw (waits_not e h))

  module _ (w : e.sending.phase ≡ waiting) where
    pub esm_so : Breaks id e (raised_to e.sending.next m.ctp) (run t (receive room text))
    esm_so =
        let r = esm_breaking t room text id m e g.lawful g.roomy c g.known (waits e w) in
        broken_with id e (raised_to e.sending.next m.ctp) (run t (receive room text)) (ap (λ o. o.answer) r.0)
        (ap (λ o. o.reply) r.0) (rw (← after_so e.sending m) r.1)

    pub esm_told : (run t (receive room text)).outcome.told ≡ failure m.erf
    esm_told =
        ap (λ o. o.told) (esm_breaking t room text id m e g.lawful g.roomy c g.known (waits e w)).0

module _ (t : Table) (id : Text) (e : Entry) (l : legal t ≡ true) (k : entry_of id t ≡ Some e) where
  pub give_up_vain : (e.sending.phase ≡ waiting → ⊥) → (run t (about id give_up)).outcome ≡ refusal 5
  give_up_vain h =
      ap (λ (a : After). a.outcome) (is_refused t (about id give_up) 5 refl (rw (l, k, waits_not e h)))

  pub give_up_so : e.sending.phase ≡ waiting → Breaks id e e.sending.next (run t (about id give_up))
  unfolding run perform at_partner building.give_up given_up broken_at in_case◌then◌else◌
  give_up_so w =
      rw (l, k, waits e w) (broken_with id e e.sending.next _ refl refl
      (turned_after t id e (with_sending e (given_up e.sending)) (entry_held t id e k) refl))

-- ---- an RSI

pub rsi_told : (t : Table) (room : ℕ) (text id : Text) (m : Rsi) (e : Entry) → Comes t room id e
    → Carries id (bare t.own) (rsi m) text
    → run t (receive room text) ≡ record { outcome = success [] (service m.svr); table = t }
unfolding by_class.receive
rsi_told t room text id m e g c =
    received t room text id (rsi m) e (done e [] (service m.svr)) g c refl
    ∙ ap (λ (u : Table). record { outcome = success [] (service m.svr); table = u }) (same_table t id e g.known)

-- ---- build a KSM

module _ (t : Table) (room : ℕ) (id : Text) (q : Request) (e : Entry) (g : Comes t room id e) where
  says : (n : ℕ) → refusing n ≡ true → first (by_act (build_ksm room q) e) ≡ n
      → (run t (about id (build_ksm room q))).outcome ≡ refusal n
  says n k p =
      ap (λ (a : After). a.outcome) (is_refused t (about id (build_ksm room q)) n k
      (rw (g.lawful, le-ltb room 256 g.roomy, g.known) p))

  pub is_7 : e.sending.phase ≡ waiting → (run t (about id (build_ksm room q))).outcome ≡ refusal 7
  is_7 w = says 7 refl (rw (waits e w))

  module _ (w : e.sending.phase ≡ waiting → ⊥) where
    pub is_8 : e.sending.next ≡ limit → (run t (about id (build_ksm room q))).outcome ≡ refusal 8
    is_8 n = says 8 refl (rw (waits_not e w, eq-eqb e.sending.next limit n))

    module _ (n : e.sending.next ≡ limit → ⊥) where
      pub is_11 : (OddWhereMarked q → ⊥) → (run t (about id (build_ksm room q))).outcome ≡ refusal 11
      is_11 o =
          let p = not_failing (any not_odd (used q)) (λ p. o (odd_where_marked q p)) in
          says 11 refl (rw (waits_not e w, ne_eqb e.sending.next limit n, p))

      pub is_12 : OddWhereMarked q → (FormedRequest q → ⊥)
          → (run t (about id (build_ksm room q))).outcome ≡ refusal 12
      is_12 o f =
          let p = not_failing (malformed q) (λ p. f (request_formed q p)) in
          says 12 refl (rw (waits_not e w, ne_eqb e.sending.next limit n, none_even q o, p))

  pub built_entry : GoodRequest e q → entry_of id (run t (about id (build_ksm room q))).table ≡ Some (with_sending e (issued e.sending (outgoing_of q)))
  built_entry h =
      rw (request_built t room id q e g.lawful g.roomy g.known (fit e q h))
      (turned_after t id e (with_sending e (issued e.sending (outgoing_of q))) (entry_held t id e g.known) refl)

  pub builds : GoodRequest e q → Builds (bare t.own) id e q (run t (about id (build_ksm room q)))
  unfolding issued
  builds h =
      let us = bare t.own in
      let f = fit e q h in
      let k = entry_held t id e g.known in
      let n = own_name t g.lawful in
      let l = held_legal t id e g.lawful k in
      let d = formed q f.formed in
      rw (request_built t room id q e g.lawful g.roomy g.known f) (record {
        answered = refl;
        told = refl;
        later = with_sending e (issued e.sending (outgoing_of q));
        entry = turned_after t id e (with_sending e (issued e.sending (outgoing_of q))) k refl;
        next = risen_below e.sending.next h.not_last;
        phase = refl;
        outgoing = kept q h.formed;
        key_stays = record { identity = refl; top = refl };
        receiving_stays = refl;
        message = sent us e q;
        written =
            subst (λ (x : Text). Carries us x (ksm (sent us e q)) (ksm_text us e q)) k.bare_identity
            (sent_written us e n l q d);
        fields = fields_written us e q h.formed;
        sealed = sent_sealed us e n l q d;
      })

pub built_good : (t : Table) (room : ℕ) (id : Text) (q : Request) (e : Entry) → entry_of id t ≡ Some e
    → (run t (about id (build_ksm room q))).outcome.answer ≡ 0 → GoodRequest e q
built_good t room id q e k z =
    let p = rw k at (done_passes t (about id (build_ksm room q)) z) in
    let f = p.1.1 in
    let l = (rules e (held_legal t id e (not-false _ p.0) (entry_held t id e k))).next_right in
    good e q (record {
      free = f.0;
      not_last = short_of_last e.sending.next l f.1.0;
      parity = f.1.1.0;
      formed = f.1.1.1.0;
    })

-- ---- a whole exchange

module _ (t u : Table) (e f : Entry) (q : Request) (room : ℕ) (p : Partners t u e f) (g : GoodRequest e q)
    (sized : Sized q) (roomy : 256 ≤ room) where
  -- the entry that waits, and its confirmation
  confirmed_so : ((after_confirmed t u q room).outcome ≡ success [] confirmation)
      × (entry_of (bare u.own) (after_confirmed t u q room).table ≡ Some (with_sending e (settled (issued e.sending (outgoing_of q)))))
  unfolding issued is_waiting
  confirmed_so =
      let them = bare u.own in
      let set = outgoing_of q in
      let x = fit e q g in
      let a = accepts t u e f q room p x sized roomy in
      let k = keys_back (bare t.own) them e f q (met t u e f p) sized.first sized.second in
      rsm_taken (after_built t u q room).table room (after_taken t u q room).outcome.reply them a.message
      (with_sending e (issued e.sending set)) (claims.stays_legal t (about them (build_ksm room q)) p.ours) roomy
      (subst (λ (own : Text). Carries them (bare own) (rsm a.message) (after_taken t u q room).outcome.reply)
      (sym (claims.own_stays t (about them (build_ksm room q)))) a.written)
      (built_entry t room them q e (record { lawful = p.ours; roomy = roomy; known = p.our_entry }) g)
      refl (subst (λ (s : KeySet). Sealed s (after_taken t u q room).outcome.reply a.message.mac) k a.sealed)

  pub exchanged : Exchanged t u e q room
  unfolding accepted issued settled sent
  exchanged =
      let us = bare t.own in
      let m = sent us e q in
      let set = outgoing_of q in
      let x = fit e q g in
      let a = accepts t u e f q room p x sized roomy in
      let k = keys_back us (bare u.own) e f q (met t u e f p) sized.first sized.second in
      record {
        built = (builds t room (bare u.own) q e (record { lawful = p.ours; roomy = roomy; known = p.our_entry }) g
            ).answered;
        taken = a.answered;
        returned = a.returned ∙ ap (λ (s : KeySet). keys (iv_of s m) m.edk) k
            ∙ (λ j. keys (iv_arrives us e q sized j) m.edk);
        confirmation = confirmed_so.0;
        ours = with_sending e (settled (issued e.sending set));
        theirs = with_receiving f (accepted m.ctp (brought (bare u.own) f m));
        our_entry = confirmed_so.1;
        their_entry = a.entry;
        phase = refl;
        keys = kept q g.formed;
        same_keys = k;
        sent = risen_below e.sending.next g.not_last;
        accepted = risen_below e.sending.next g.not_last;
      }
