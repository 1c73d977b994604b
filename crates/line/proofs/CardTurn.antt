-- All that a call does to one partner's entry: six events.
use Rattle.std.specs.Prelude.{None}
use mathlib.Core.Path.{◌≡◌, refl}
use mathlib.Core.Bool.{true, false}
use mathlib.Core.List.Memᴰ
use mathlib.Core.List.{List, [], ◌∷◌}
use Prim.Native.Nat.{ℕ, ◌≤◌, ◌<◌, max}
use native.Mathlib.Omega.{arith}
use lib.Dec.{eqb}
use Rattle.octets.specs.Text.{Text, is_name}
use Rattle.octets.specs.Part.{bare}
use Rattle.keying.specs.Mac.{mac_key, mac}
use Rattle.csm.specs.Format.{value}
use Rattle.csm.specs.Fields.{svr}
use Rattle.csm.specs.Message.{Rsi, Ksm, Rsm, Esm, Body, rsi, ksm, rsm, esm, legal_body}
use Rattle.csm.specs.Covered.{covered}
use Rattle.partner.specs.declared.Entry.{Entry}
use Rattle.partner.specs.Entry.{limit, waiting, broken, no_keys, keys_in}
use Rattle.partner.specs.Legal.{legal}
use Rattle.partner.specs.Changes.{with_receiving, with_sending, accepted, issued, settled, given_up, failed}
use Rattle.calls.specs.declared.Request.{Request}
use Rattle.calls.specs.Words.{in_case◌then◌else◌, any}
use Rattle.calls.specs.Outcome.{Outcome, Turn}
use Rattle.calls.specs.Receive.{rsm_text, brought}
use Rattle.calls.specs.Receive.{receive}
use Rattle.calls.specs.Build.{used, not_odd, malformed, outgoing_of, ksm_text, build_ksm, build_rsi, give_up}
use Rattle.calls.specs.Claims.{Carries}
use Rattle.calls.proofs.Turns.{short_of_last, svr_legal, error_written, receive_step}
use Rattle.calls.proofs.Turns.{Step, vain, errs, serves, accepts, confirms, breaks}
use Rattle.calls.proofs.Tests.{by_case, by_part}
use Rattle.partner.proofs.Keeping.{rules}
use Rattle.calls.proofs.Written.{to_them, rsm_written, sent, sent_written}
use Rattle.line.specs.Line.{count_in, In64Bits, ◌∈◌, texts}
use Rattle.calls.proofs.Requests.{formed}

-- the partner of an entry, bare
abbrev pub partner : Entry → Text
partner e = bare e.identity.bytes

-- bodies that are neither a key message nor an answer
pub data Plain : Body → Type 0 where
  service : (m : Rsi) → Plain (rsi m)
  fault : (m : Esm) → Plain (esm m)

-- the counts that go with an answer
abbrev pub counts : Body → Turn → List ℕ
counts body turn = in_case eqb turn.outcome.answer 0 then count_in body else []

-- `Heard` holds of the text that was received
pub data Event (us : Text) (e : Entry) (Heard : Text → Type 0) : Turn → List ℕ → Type 0 where
  -- nothing is written and nothing changes
  silent : (o : Outcome) → o.reply ≡ [] → Event us e Heard (record { outcome = o; entry = e }) []
  -- an ESM or an RSI is written to the partner and nothing changes
  speaks : (o : Outcome) (b : Body) → Plain b → Carries us (partner e) b o.reply
      → Event us e Heard (record { outcome = o; entry = e }) []
  -- a key message is accepted and answered
  takes : (o : Outcome) (t : Text) (m : Ksm) → Heard t → Carries (partner e) us (ksm m) t → e.receiving.expected ≤ m.ctp
      → m.ctp < limit → o.reply ≡ rsm_text us e (brought us e m)
      → Event us e Heard (record { outcome = o; entry = with_receiving e (accepted m.ctp (brought us e m)) }) (m.ctp ∷ [])
  -- an answer confirms
  settles : (o : Outcome) (t : Text) (m : Rsm) → Heard t → Carries (partner e) us (rsm m) t → e.sending.phase ≡ waiting
      → m.mac ≡ mac (mac_key (keys_in e.sending.outgoing)) (covered t) → o.reply ≡ []
      → Event us e Heard (record { outcome = o; entry = with_sending e (settled e.sending) }) []
  -- an error came, or the keys are given up
  fails : (o : Outcome) (n : ℕ) → e.sending.next ≤ n → o.reply ≡ []
      → Event us e Heard (record { outcome = o; entry = with_sending e (record { next = n; phase = broken; outgoing = no_keys }) }) []
  -- a key message is built
  issues : (o : Outcome) (q : Request) → any not_odd (used q) ≡ false → malformed q ≡ false → In64Bits q
      → e.sending.next < limit → o.reply ≡ ksm_text us e q
      → Event us e Heard (record { outcome = o; entry = with_sending e (issued e.sending (outgoing_of q)) }) []

-- ---- the steps are those events

module _ (us : Text) (e : Entry) (Heard : Text → Type 0) (named : is_name us ≡ true) (lawful : legal e ≡ true) where
  module _ (text : Text) (heard : Heard text) where
    step_event : {b : Body} {r : Turn} → Step us e text b r → Carries (partner e) us b text
        → Event us e Heard r (counts b r)
    unfolding count_in in_case◌then◌else◌ given_up failed
    step_event (vain b) is = silent _ refl
    step_event (errs b n c k l) is = speaks _ _ (fault _) (error_written us e named lawful n c l)
    step_event (serves m o) is = silent _ refl
    step_event (accepts m o late low) is = takes _ text m heard is late low refl
    step_event (confirms m o w s) is = settles _ text m heard is w s refl
    -- by its CTP, if it has one
    step_event (breaks m o w) is =
        by_part m.ctp (λ p. rw p (fails _ e.sending.next (omega arith) refl))
        (λ x p. rw p (fails _ (max e.sending.next x) (omega arith) refl))

    pub receive_event : (body : Body) → Carries (partner e) us body text → legal_body body ≡ true
        → Event us e Heard (receive us e text body) (counts body (receive us e text body))
    receive_event body is l = step_event (receive_step us e text lawful body l) is

  pub build_ksm_event : (q : Request) → In64Bits q → Event us e Heard (build_ksm us e q) []
  unfolding build_ksm
  build_ksm_event q small =
      by_case (λ (x : Turn). Event us e Heard x []) _ _ _ (λ h. silent _ refl) (λ h.
      by_case (λ (x : Turn). Event us e Heard x []) _ _ _ (λ i. silent _ refl) (λ i.
      by_case (λ (x : Turn). Event us e Heard x []) _ _ _ (λ j. silent _ refl) (λ j.
      by_case (λ (x : Turn). Event us e Heard x []) _ _ _ (λ k. silent _ refl) (λ k.
      issues _ q j k small (short_of_last e.sending.next (rules e lawful).next_right i) refl))))

  pub give_up_event : Event us e Heard (give_up e) []
  unfolding give_up given_up
  give_up_event =
      by_case (λ (x : Turn). Event us e Heard x []) _ _ _ (λ h. silent _ refl)
      (λ h. fails _ e.sending.next (omega arith) refl)

  -- the RSI that is built is of a legal SVR
  pub build_rsi_event : (contents : Text) → Event us e Heard (build_rsi us e contents) []
  unfolding build_rsi
  build_rsi_event contents =
      by_part (value svr contents) (λ q. rw (q, build_rsi) (silent _ refl)) (λ s q.
      rw (q, build_rsi) (speaks _ _ (service _)
      (to_them us e named lawful (rsi (record { svr = s; edc = None })) refl (rw (svr_legal contents s q)))))

-- ---- what every event keeps of an entry, and to whom it writes

-- what is among the texts of a reply is the reply
pub texts_in : (reply x : Text) → x ∈ texts reply → x ≡ reply
unfolding texts
texts_in [] x h = absurd (Memᴰ.not-nil h)
texts_in (y ∷ w) x h = Memᴰ.eq_of_singleton h

-- nothing is among the texts of no reply
pub unsaid : {A : Type 0} (reply x : Text) → reply ≡ [] → x ∈ texts reply → A
unfolding texts
unsaid reply x e h = absurd (Memᴰ.not-nil (rw e at h))

module _ {us : Text} {e : Entry} {H : Text → Type 0} where
  -- the partner and the top key with its name stay
  pub event_keeps : {x : Turn} {k : List ℕ} → Event us e H x k
      → (x.entry.identity ≡ e.identity) × (x.entry.top ≡ e.top)
  event_keeps (silent o r) = (refl, refl)
  event_keeps (speaks o b p r) = (refl, refl)
  event_keeps (takes o t m h i l u r) = (refl, refl)
  event_keeps (settles o t m h i w c r) = (refl, refl)
  event_keeps (fails o n l r) = (refl, refl)
  event_keeps (issues o q p f s l r) = (refl, refl)

  -- it writes to the partner, as us
  pub event_to : {x : Turn} {k : List ℕ} → is_name us ≡ true → legal e ≡ true → Event us e H x k
      → (t : Text) → t ∈ texts x.outcome.reply → (b : Body) × Carries us (partner e) b t
  event_to n l (silent o r) t h = unsaid o.reply t r h
  event_to n l (speaks o b p r) t h = (b, rw (texts_in o.reply t h) r)
  event_to n l (takes o u m g i a c r) t h =
      let w = rsm_written us e n l (brought us e m) in (rsm w.0, rw (texts_in o.reply t h, r) w.1)
  event_to n l (settles o u m g i w c r) t h = unsaid o.reply t r h
  event_to n l (fails o m a r) t h = unsaid o.reply t r h
  event_to n l (issues o q p f s a r) t h =
      (ksm (sent us e q), rw (texts_in o.reply t h, r) (sent_written us e n l q (formed q f)))

  -- heard in one way is heard in another
  pub event_as : {G : Text → Type 0} {x : Turn} {k : List ℕ} → ((t : Text) → H t → G t) → Event us e H x k
      → Event us e G x k
  event_as f (silent o r) = silent o r
  event_as f (speaks o b p r) = speaks o b p r
  event_as f (takes o t m h i l u r) = takes o t m (f t h) i l u r
  event_as f (settles o t m h i w c r) = settles o t m (f t h) i w c r
  event_as f (fails o n l r) = fails o n l r
  event_as f (issues o q p g s l r) = issues o q p g s l r
