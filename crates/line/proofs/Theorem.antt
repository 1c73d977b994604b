-- The theorem about two cards on a bad line: `claims` proves the demand of specs/Line.antt.
use Rattle.std.specs.Prelude.{Option, None, Some}
use mathlib.Core.Path.{◌≡◌, refl, sym, ap, ◌∙◌, subst}
use mathlib.Core.List.Memᴰ
use mathlib.Core.List.{List, ◌++◌}
use mathlib.Core.Logic.{◌⊎◌, ◌≢◌, ⊎_elim}
use Prim.Native.Nat.{ℕ, suc, ◌+◌, ◌≤◌}
use native.Mathlib.Omega.{arith}
use Rattle.octets.specs.Text.{Text}
use Rattle.keying.specs.declared.Top.{Top}
use Rattle.csm.specs.Message.{Ksm, ksm, read}
use Rattle.csm.proofs.TextLaws.{within_true}
use Rattle.csm.proofs.MessageLaws.{read_back, legal_parts}
use Rattle.partner.specs.declared.KeySet.{KeySet}
use Rattle.partner.specs.declared.Sending.{Sending}
use Rattle.partner.specs.declared.Receiving.{Receiving}
use Rattle.partner.specs.declared.Entry.{Entry}
use Rattle.partner.specs.Entry.{confirmed, limit}
use Rattle.partner.specs.Changes.{loaded}
use Rattle.partner.specs.Table.{Table}
use Rattle.calls.specs.Calls.{receive, load, entry_of, run}
use Rattle.calls.proofs.Readings.{ksm_parts}
use Rattle.line.specs.Line.{◌∈◌, State, texts, counted, Allowed, entry_for, Reach, begin}
use Rattle.line.specs.Line.{step_a, step_b, Afresh, a_to_b, called_for, Distinct, Agreed, LateError, Claims}
use Rattle.line.proofs.CoreEnds
use Rattle.line.proofs.CoreEnds.{Carried, key_message, no_key_message, answer, Pair}
use Rattle.line.proofs.CoreSent
use Rattle.line.proofs.CoreTaken
use Rattle.line.proofs.Core
use Rattle.line.proofs.CoreRising
use Rattle.line.proofs.CardEnds.{carried_by, called_by, mac_under, ReadAs, read_as}
use Rattle.line.proofs.CardKept.{Good, good_fresh, good_run, there_still, seen, see, E, makes, takes}
use Rattle.line.proofs.CardFresh.{started, just_loaded, loaded_once}

module _ (a b name : Text) (top : Top) where
  -- the two units of a state
  abbrev pub view : State → Pair Sending Receiving Text
  view s = record {
    a = (see name top b s.a).sending;
    b = (see name top a s.b).receiving;
    from_a = s.from_a;
    from_b = s.from_b;
    accepted = s.accepted;
  }

  -- what holds of both cards along a run
  pub record Cards (s : State) : Type 0 where
    pub card_a : Good name top a b s.a
    pub card_b : Good name top b a s.b

  -- ---- the premise on MACs

  -- a text that calls for an answer with this MAC is a key message
  calls_as : (t : Text) (m : ℕ) → called_by a b name top (carried_by a b name top (read t)) ≡ answer m
      → (k : Ksm) × (read t ≡ Some (a_to_b a b name top (ksm k))) × (called_for a b name top k ≡ m)
  unfolding called_by called_for
  calls_as t m h = go (carried_by a b name top (read t)) refl h
    where
      go : (c : Carried KeySet) → carried_by a b name top (read t) ≡ c → called_by a b name top c ≡ answer m
          → (k : Ksm) × (read t ≡ Some (a_to_b a b name top (ksm k))) × (called_for a b name top k ≡ m)
      go (key_message n set) q e =
          let r : ReadAs a b name top t n set = read_as a b name top t n set q in
          let f : mac_under a b name top set ≡ m = cc in
          (r.message, r.reading, ap (λ (k : KeySet). mac_under a b name top k) r.keys ∙ f)
      go no_key_message q e = absurd (let z : ◌≡◌ {A = ℕ} 0 1 = cc in omega arith)

  apart : (l : List Text) → Distinct a b name top l → CoreEnds.Apart (E a b name top) l
  apart l d = record {
    distinct = λ t u m ht hu ct cu.
        let p = calls_as t m ct in
        let q = calls_as u m cu in
        d t u p.0 q.0 ht hu p.1 q.1 (p.2 ∙ sym q.2);
    own = λ x t u n o j k m p hx ht hu et eu c. absurd c;
    apart = λ x t u n k m hx ht hu et c. absurd c;
  }

  fewer : (said l : List Text) → Distinct a b name top (said ++ l) → Distinct a b name top l
  fewer said l d = λ t u m n ht hu. d t u m n (Memᴰ.append_right said ht) (Memᴰ.append_right said hu)

  -- ---- the beginning

  fresh_idle : (other : Text) (o : Option Entry) → (o ≡ None) ⊎ (o ≡ Some (entry_for name top other))
      → seen name top other o ≡ entry_for name top other
  unfolding seen
  fresh_idle other o h =
      ⊎_elim (λ (p : o ≡ None). rw p) (λ (p : o ≡ Some (entry_for name top other)). rw p) h

  beginning : (s : State) → Afresh a b name top s → CoreEnds.Begins (E a b name top) (view s)
  unfolding loaded
  beginning s f =
      let at_a = fresh_idle b (entry_of b s.a) f.card_a.entry in
      let at_b = fresh_idle a (entry_of a s.b) f.card_b.entry in
      record {
        idle = ap (λ (e : Entry). e.sending.phase) at_a;
        level = omega (arith, ap (λ (e : Entry). e.receiving.expected) at_b, ap (λ (e : Entry). e.sending.next) at_a);
        none_sent = λ t h. absurd (Memᴰ.not-nil (rw f.a_silent at h));
        others = λ r m h e. absurd (Memᴰ.not-nil (rw f.b_silent at h));
        empty = λ h. omega (arith, ap (λ (e : Entry). e.receiving.expected) at_b);
        none_taken = f.none_accepted;
      }

  -- ---- every run

  pub cards : {s₀ s : State} → Afresh a b name top s₀ → Reach a b name top s₀ s → Cards s
  cards {s₀} f begin = record {
    card_a = good_fresh name top a b s₀.a f.card_a;
    card_b = good_fresh name top b a s₀.b f.card_b;
  }
  cards f (step_a {s = s} r c may) =
      let p : Cards s = cards f r in
      record { card_a = good_run name top a b s.from_b s.a c p.card_a may; card_b = p.card_b }
  cards f (step_b {s = s} r c may) =
      let p : Cards s = cards f r in
      record { card_a = p.card_a; card_b = good_run name top b a s.from_a s.b c p.card_b may }

  rises : {s₀ s : State} → Afresh a b name top s₀ → Reach a b name top s₀ s
      → CoreRising.Rises (E a b name top) (see name top a s.b).receiving s.accepted
  rises {s₀} f begin = CoreRising.beginning (E a b name top) (view s₀) (beginning s₀ f)
  rises f (step_a r c may) = rises f r
  rises f (step_b {s = s} r c may) =
      CoreRising.keep (E a b name top) (see name top a s.b).receiving (see name top a (run s.b c).table).receiving s.from_a
      (texts (run s.b c).outcome.reply) (counted a c (run s.b c).outcome.answer) s.accepted (rises f r)
      (takes a b name top s.from_a s.b c (cards f r).card_b may)

  pub along : {s₀ s : State} → Afresh a b name top s₀ → Reach a b name top s₀ s → Distinct a b name top s.from_a
      → CoreSent.Along (E a b name top) (view s)
  along {s₀} f begin d = Core.beginning (E a b name top) (view s₀) (beginning s₀ f)
  along f (step_a {s = s} r c may) d =
      let d' : Distinct a b name top s.from_a = fewer (texts (run s.a c).outcome.reply) s.from_a d in
      CoreSent.keep_a (E a b name top) (view s) (see name top b (run s.a c).table).sending
      (texts (run s.a c).outcome.reply) (along f r d') (apart s.from_a d')
      (makes a b name top s.from_b s.a c (cards f r).card_a may)
  along f (step_b {s = s} r c may) d =
      CoreTaken.keep_b (E a b name top) (view s) (see name top a (run s.b c).table).receiving
      (texts (run s.b c).outcome.reply) (counted a c (run s.b c).outcome.answer) (along f r d)
      (takes a b name top s.from_a s.b c (cards f r).card_b may)

  -- ---- the conclusions

  -- B has taken a key message, whose count is at least 1, so A is in its table
  there_at_b : (o : Option Entry) (n : ℕ) → 1 ≤ n → (seen name top a o).receiving.expected ≡ suc n → (e : Entry) × (o ≡ Some e)
  unfolding seen loaded
  there_at_b None n l h = absurd (omega arith)
  there_at_b (Some e) n l h = (e, refl)

  seen_is : (other : Text) (t : Table) (e : Entry) → entry_of other t ≡ Some e → see name top other t ≡ e
  unfolding seen
  seen_is other t e h = rw h

  counted_once : (t : Text) (k : Ksm) → read t ≡ Some (a_to_b a b name top (ksm k)) → 1 ≤ k.ctp
  counted_once t k h =
      (within_true 1 limit k.ctp (ksm_parts k (legal_parts _ (read_back t _ h).0).body).count).0

  agreed : (s : State) (for_b for_a : Entry) → see name top b s.a ≡ for_b → see name top a s.b ≡ for_a
      → entry_of a s.b ≡ Some for_a → (m : CoreEnds.Meets (E a b name top) (view s))
      → ReadAs a b name top m.message m.number (see name top b s.a).sending.outgoing → Agreed a b name top s for_b.sending
  agreed s for_b for_a mine theirs held m k = record {
    text = m.message;
    message = k.message;
    sent = m.sent;
    reading = k.reading;
    carried = k.keys ∙ ap (λ (e : Entry). e.sending.outgoing) mine;
    for_a = for_a;
    held = held;
    in_step = record {
      keys =
          ap (λ (e : Entry). e.receiving.incoming) (sym theirs) ∙ m.keys
          ∙ ap (λ (e : Entry). e.sending.outgoing) mine;
      next_send = ap (λ (e : Entry). e.sending.next) (sym mine) ∙ m.a_count ∙ number;
      expected = ap (λ (e : Entry). e.receiving.expected) (sym theirs) ∙ m.b_count ∙ number;
    };
    accepted = subst (λ (n : ℕ). n ∈ s.accepted) (sym k.count) m.took;
  }
    where
      number : suc m.number ≡ k.message.ctp + 1
      number = omega (arith, k.count)

  pub agreement : {s₀ s : State} → Afresh a b name top s₀ → Reach a b name top s₀ s
      → Distinct a b name top s.from_a → (for_b : Entry) → entry_of b s.a ≡ Some for_b
      → for_b.sending.phase ≡ confirmed → Agreed a b name top s for_b.sending
  agreement {s₀} {s} f r d for_b h ph =
      let mine : see name top b s.a ≡ for_b = seen_is b s.a for_b h in
      let m : CoreEnds.Meets (E a b name top) (view s) =
      Core.conclusion (E a b name top) (view s) (along f r d) (apart s.from_a d)
      (ap (λ (e : Entry). e.sending.phase) mine ∙ ph) in
      let k : ReadAs a b name top m.message m.number (see name top b s.a).sending.outgoing =
      read_as a b name top m.message m.number (see name top b s.a).sending.outgoing m.is in
      let low : 1 ≤ m.number = omega (arith, counted_once m.message k.message k.reading, k.count) in
      let there : (e : Entry) × (entry_of a s.b ≡ Some e) =
      there_at_b (entry_of a s.b) m.number low m.b_count in
      agreed s for_b there.0 mine (seen_is a s.b there.0 there.1) there.1 m k

  -- ---- runs after runs

  joined : {s₀ s₁ s₂ : State} → Reach a b name top s₀ s₁ → Reach a b name top s₁ s₂ → Reach a b name top s₀ s₂
  joined r begin = r
  joined r (step_a q c may) = step_a (joined r q) c may
  joined r (step_b q c may) = step_b (joined r q) c may

  -- what B has written stays written
  still_there : {s₁ s₂ : State} (t : Text) → Reach a b name top s₁ s₂ → t ∈ s₁.from_b → t ∈ s₂.from_b
  still_there t begin h = h
  still_there t (step_a q c may) h = still_there t q h
  still_there t (step_b {s = s} q c may) h =
      Memᴰ.append_right (texts (run s.b c).outcome.reply) (still_there t q h)

  late_error_run : {s₀ s : State} → LateError a b name top s₀ s → Reach a b name top s₀ s
  unfolding Allowed
  late_error_run h =
      joined
      (step_a
      (joined (step_b h.until_then (receive h.room_b h.resent) (λ r e o. h.sent)) h.meanwhile)
      (receive h.room_a h.error)
      (λ r e o.
      still_there h.error h.meanwhile
      (Memᴰ.append_right (texts (run h.before.b (receive h.room_b h.resent)).outcome.reply) h.old)))
      h.since

  pub late_error_is_harmless : {s₀ s : State} → Afresh a b name top s₀ → LateError a b name top s₀ s
      → Distinct a b name top s.from_a → (for_b : Entry) → entry_of b s.a ≡ Some for_b
      → for_b.sending.phase ≡ confirmed → Agreed a b name top s for_b.sending
  late_error_is_harmless f h d = agreement f (late_error_run h) d

  -- ---- a card that has the other in its table

  has_b : {s₀ s : State} → Reach a b name top s₀ s → (e : Entry) × (entry_of b s₀.a ≡ Some e)
      → (e : Entry) × (entry_of b s.a ≡ Some e)
  has_b begin h = h
  has_b (step_a {s = s} r c may) h =
      let p = has_b r h in there_still name top b s.from_b s.a c may p.0 p.1
  has_b (step_b r c may) h = has_b r h

  has_a : {s₀ s : State} → Reach a b name top s₀ s → (e : Entry) × (entry_of a s₀.b ≡ Some e)
      → (e : Entry) × (entry_of a s.b ≡ Some e)
  has_a begin h = h
  has_a (step_a r c may) h = has_a r h
  has_a (step_b {s = s} r c may) h =
      let p = has_a r h in there_still name top a s.from_a s.b c may p.0 p.1

  loaded_once_at_a : {s₀ s : State} → Reach a b name top s₀ s → (for_b : Entry) → entry_of b s₀.a ≡ Some for_b
      → (key_name : Text) (key : Top) → (run s.a (load b key_name key)).outcome.answer ≢ 0
  loaded_once_at_a {s = s} r for_b h key_name key =
      let p = has_b r (for_b, h) in loaded_once b key_name key s.a p.0 p.1

  loaded_once_at_b : {s₀ s : State} → Reach a b name top s₀ s → (for_a : Entry) → entry_of a s₀.b ≡ Some for_a
      → (key_name : Text) (key : Top) → (run s.b (load a key_name key)).outcome.answer ≢ 0
  loaded_once_at_b {s = s} r for_a h key_name key =
      let p = has_a r (for_a, h) in loaded_once a key_name key s.b p.0 p.1

  pub claims : Claims a b name top
  claims = record {
    agreement = agreement;
    rise = λ f r. (rises f r).rising;
    late_error_is_harmless = late_error_is_harmless;
    started = started name top;
    just_loaded = just_loaded name top;
    loaded_once_at_a = loaded_once_at_a;
    loaded_once_at_b = loaded_once_at_b;
  }
