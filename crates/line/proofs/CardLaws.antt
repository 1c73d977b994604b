-- The interface's laws, of the card: what any call does at A's end and at B's.
use Rattle.std.specs.Prelude.{Some}
use mathlib.Core.Path.{◌≡◌, refl, sym, ap, ◌∙◌, subst}
use mathlib.Core.Bool.{true}
use mathlib.Core.List.{List, [], ◌∷◌}
use Prim.Native.Nat.{ℕ}
use native.Mathlib.Numerals.{add-one}
use native.Mathlib.Omega.{arith}
use Rattle.octets.specs.Text.{Text, is_name}
use Rattle.keying.specs.declared.Top.{Top}
use Rattle.keying.specs.Mac.{mac_key, mac}
use Rattle.csm.specs.Message.{Rsm, Body, ksm, rsm, Reading, read}
use Rattle.csm.specs.Covered.{covered, covered_part}
use Rattle.csm.proofs.CoveredLaws.{covered_agrees}
use Rattle.partner.specs.declared.KeySet.{KeySet}
use Rattle.partner.specs.declared.Entry.{Entry}
use Rattle.partner.specs.Entry.{name_of, keys_in, top_of}
use Rattle.partner.specs.Legal.{legal}
use Rattle.partner.specs.Changes.{accepted, issued, settled}
use Rattle.calls.specs.Outcome.{Turn}
use Rattle.calls.specs.Receive.{rsm_body, rsm_text, brought}
use Rattle.calls.specs.Build.{outgoing_of}
use Rattle.calls.specs.Claims.{Carries}
use Rattle.partner.proofs.Naming.{filled_name}
use Rattle.partner.proofs.Keeping.{rules, risen_below}
use Rattle.calls.proofs.Exchange.{keys_back}
use Rattle.calls.proofs.Requests.{formed}
use Rattle.calls.proofs.Written.{rsm_written, sent, sent_written}
use Rattle.line.specs.Line.{◌∈◌, texts, entry_for}
use Rattle.line.proofs.CoreEnds
use Rattle.line.proofs.CoreEnds.{key_message, no_key_message, no_answer}
use Rattle.line.proofs.CardTurn.{partner, Event, silent, speaks, takes, settles, fails, issues, texts_in, unsaid}
use Rattle.line.proofs.CardEnds.{top_loaded, partner_loaded, brought_alike, mac_under}
use Rattle.line.proofs.CardEnds.{carried_in, called_by, answer_in, ends, carried_at, answer_at}
use Rattle.line.proofs.CardEnds.{carried_by, answer_by, carried_plain, answer_plain}

-- a text that is read is some text
pub texts_read : (reply : Text) (r : Reading) → read reply ≡ Some r → texts reply ≡ reply ∷ []
unfolding texts read
texts_read [] r h = absurd (let z : ◌≡◌ {A = ℕ} 0 1 = cc in omega arith)
texts_read (x ∷ w) r h = refl

-- what an RSM's MAC covers does not depend on the MAC
pub covered_rsm : (to from t : Text) (m : Rsm) → Carries from to (rsm m) t
    → covered t ≡ covered_part (record { rcv = to; org = from; body = rsm_body 0 })
unfolding covered_part
covered_rsm to from t m h = covered_agrees t (record { rcv = to; org = from; body = rsm m }) m.mac h refl

module _ (a b name : Text) (top : Top) (l : List Text) where
  -- ---- A's end

  pub idle_text : (t : Text) → carried_by a b name top (read t) ≡ no_key_message
      → CoreEnds.Idle (ends a b name top) t
  idle_text t h = record { key = h; close = λ k m c. c }

  module _ (e : Entry) (to_b : partner e ≡ b) (key : top_of e.top ≡ top) (called : e.top.name ≡ name_of name)
      (lawful : legal e ≡ true) (named : is_name a ≡ true) where
    -- what is written to B and is no key message
    other_text : (body : Body) → carried_in a b name top body ≡ no_key_message → (reply : Text)
        → Carries a (partner e) body reply → (t : Text) → t ∈ texts reply → CoreEnds.Idle (ends a b name top) t
    other_text body quiet reply is t h =
        idle_text t (rw (texts_in reply t h, is, to_b, carried_at a b name top body) quiet)

    pub made_of : (x : Turn) (k : List ℕ) → Event a e (λ u. u ∈ l) x k
        → CoreEnds.Made (ends a b name top) e.sending x.entry.sending l (texts x.outcome.reply)
    unfolding carried_in answer_in called_by accepted issued settled sent
    made_of x k (silent o r) =
        CoreEnds.Made.quiet (CoreEnds.lasts (ends a b name top) e.sending) (λ t h. unsaid o.reply t r h)
    made_of x k (speaks o body p r) =
        CoreEnds.Made.quiet (CoreEnds.lasts (ends a b name top) e.sending)
        (other_text body (carried_plain a b name top p) o.reply r)
    made_of x k (takes o u m h i late low r) =
        CoreEnds.Made.quiet (CoreEnds.lasts (ends a b name top) e.sending)
        (let w = rsm_written a e named lawful (brought a e m) in other_text (rsm w.0) refl o.reply (rw r w.1))
    made_of x k (settles o u m h i waits same r) =
        let mac_is : m.mac ≡ mac_under a b name top e.sending.outgoing =
        same ∙ ap (λ (w : Text). mac (mac_key (keys_in e.sending.outgoing)) w)
        (covered_rsm a b u m (subst (λ (w : Text). Carries w a (rsm m) u) to_b i)) in
        CoreEnds.Made.confirmed u m.mac h (rw (i, to_b, answer_at a b name top (rsm m)))
        (λ t n c. rw (c, mac_is)) waits refl refl refl (λ t h. unsaid o.reply t r h)
    made_of x k (fails o n up r) =
        CoreEnds.Made.broken (λ h. omega arith) (λ h. omega arith) up (λ t h. unsaid o.reply t r h)
    made_of x k (issues o q odd fine small low r) =
        let is : Carries a b (ksm (sent a e q)) o.reply =
        rw (r, ← to_b) (sent_written a e named lawful q (formed q fine)) in
        let brings : brought b (entry_for name top a) (sent a e q) ≡ outgoing_of q =
        keys_back a b e (entry_for name top a) q (record {
          theirs = to_b;
          ours = partner_loaded a name top named;
          same_top = key ∙ sym (top_loaded a name top);
        }) small.first small.second in
        CoreEnds.Made.built o.reply (texts_read o.reply _ is)
        (rw (is, carried_at a b name top (ksm (sent a e q)), brings))
        (record {
          request = q;
          entry = e;
          lawful = lawful;
          to_b = to_b;
          key = key;
          named = called;
          count = refl;
          odd_keys = odd;
          formed = fine;
          small = small;
          keys = refl;
          text = r;
        })
        (λ c d f. f) refl (risen_below e.sending.next low ∙ add-one e.sending.next)

  -- ---- B's end

  module _ (e : Entry) (to_a : partner e ≡ a) (key : top_of e.top ≡ top) (lawful : legal e ≡ true)
      (named : is_name b ≡ true) where
    no_rsm : (body : Body) → answer_in a b name top body ≡ no_answer → (reply : Text)
        → Carries b (partner e) body reply → (t : Text) → t ∈ texts reply
        → answer_by a b name top (read t) ≡ no_answer
    no_rsm body quiet reply is t h = rw (texts_in reply t h, is, to_a, answer_at a b name top body) quiet

    -- the MAC of the RSM that is written is the one called for
    rsm_mac : (set : KeySet) → (rsm_written b e named lawful set).0.mac ≡ mac_under a b name top set
    rsm_mac set =
        let w = rsm_written b e named lawful set in
        let under : Text → ℕ = λ x. mac (mac_key (keys_in set)) x in
        w.2 ∙ ap under (covered_rsm (partner e) b (rsm_text b e set) w.0 w.1)
        ∙ ap (λ (x : Text). under (covered_part (record { rcv = x; org = b; body = rsm_body 0 }))) to_a

    pub took_of : (x : Turn) (k : List ℕ) → Event b e (λ u. u ∈ l) x k
        → CoreEnds.Took (ends a b name top) e.receiving x.entry.receiving l (texts x.outcome.reply) k
    unfolding carried_in answer_in called_by accepted issued settled
    took_of x k (silent o r) =
        CoreEnds.Took.quiet (CoreEnds.keeps (ends a b name top) e.receiving) (λ t h. unsaid o.reply t r h) refl
    took_of x k (speaks o body p r) =
        CoreEnds.Took.quiet (CoreEnds.keeps (ends a b name top) e.receiving)
        (no_rsm body (answer_plain a b name top p) o.reply r) refl
    took_of x k (takes o u m h i late low r) =
        let from_a : Carries a b (ksm m) u = subst (λ (w : Text). Carries w b (ksm m) u) to_a i in
        let a-named = subst (λ (w : Text). is_name w ≡ true) to_a
        (filled_name e.identity.bytes (rules e lawful).identity_filled) in
        let brings : brought b (entry_for name top a) m ≡ brought b e m =
        brought_alike b (entry_for name top a) e m (partner_loaded a name top a-named ∙ sym to_a)
        (top_loaded a name top ∙ sym key) in
        let c : carried_by a b name top (read u) ≡ key_message m.ctp (brought b e m) =
        rw (from_a, carried_at a b name top (ksm m), brings) in
        CoreEnds.Took.installed u m.ctp (mac_under a b name top (brought b e m)) h c (rw c) late
        (risen_below m.ctp low ∙ add-one m.ctp)
        (λ t g.
        let w = rsm_written b e named lawful (brought b e m) in
        rw (texts_in o.reply t g, r, w.1, to_a, answer_at a b name top (rsm w.0), rsm_mac (brought b e m))) refl
    took_of x k (settles o u m h i waits same r) =
        CoreEnds.Took.quiet (CoreEnds.keeps (ends a b name top) e.receiving) (λ t h. unsaid o.reply t r h) refl
    took_of x k (fails o n up r) =
        CoreEnds.Took.quiet (CoreEnds.keeps (ends a b name top) e.receiving) (λ t h. unsaid o.reply t r h) refl
    took_of x k (issues o q odd fine small low r) =
        CoreEnds.Took.quiet (CoreEnds.keeps (ends a b name top) e.receiving)
        (no_rsm (ksm (sent b e q)) refl o.reply (rw r (sent_written b e named lawful q (formed q fine)))) refl
