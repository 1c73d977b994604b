-- The card's two ends as the theorem sees them: texts by their readings, units by their fields.
use Rattle.std.specs.Prelude.{Option, None, Some}
use mathlib.Core.Path.{◌≡◌, refl, ◌∙◌}
use mathlib.Core.Bool.{true, false}
use mathlib.Core.Logic.{◌≢◌}
use Prim.Native.Nat.{ℕ, ◌<◌}
use native.Mathlib.Omega.{arith}
use Rattle.octets.specs.Text.{Text, same, is_name}
use Rattle.octets.proofs.Comparing.{same_equal, differs_same, same_self as same_refl}
use Rattle.keying.specs.declared.Top.{Top}
use Rattle.keying.specs.declared.Top.TheVariants.{Single, Pair}
use Rattle.keying.specs.Keys.{unseal}
use Rattle.keying.specs.Working.{working}
use Rattle.keying.specs.Mac.{mac_key, mac}
use Rattle.csm.specs.Fields.{Kd, named}
use Rattle.csm.specs.Message.{Ksm, Body, rsi, ksm, rsm, esm, option, Reading, read}
use Rattle.csm.specs.Covered.{covered_part}
use Rattle.partner.specs.declared.DataKey.{DataKey}
use Rattle.partner.specs.declared.KeySet.{KeySet}
use Rattle.partner.specs.declared.Sending.{Sending}
use Rattle.partner.specs.declared.Receiving.{Receiving}
use Rattle.partner.specs.declared.Entry.{Entry}
use Rattle.partner.specs.Entry.{name_of, keys_in, top_of, one_key, two_keys}
use Rattle.partner.specs.Legal.{legal}
use Rattle.partner.specs.Changes.{loaded}
use Rattle.partner.proofs.Naming.{bare_filled}
use Rattle.calls.specs.declared.Request.{Request}
use Rattle.calls.specs.Words.{in_case◌then◌else◌, any}
use Rattle.calls.specs.Receive.{rsm_body, brought}
use Rattle.calls.specs.Build.{used, not_odd, malformed, outgoing_of}
use Rattle.calls.specs.Build.{ksm_text}
use Rattle.calls.proofs.Tests.{by_test, by_part}
use Rattle.line.specs.Line.{In64Bits, entry_for}
use Rattle.line.proofs.CoreEnds.{Carried, key_message, no_key_message, Answer, answer, no_answer, Ends}
use Rattle.line.proofs.CardTurn.{partner, Plain, service, fault}

-- ---- the top key of a loaded entry, and the keys that a message brings

pub top_loaded : (other name : Text) (top : Top) → top_of (entry_for name top other).top ≡ top
unfolding top_of loaded
top_loaded other name (Single key) = refl
top_loaded other name (Pair left right) = refl

pub partner_loaded : (other name : Text) (top : Top) → is_name other ≡ true → partner (entry_for name top other) ≡ other
unfolding loaded
partner_loaded other name top h = bare_filled other h

-- of the entry they depend on the partner and the top key alone
pub brought_alike : (own : Text) (e f : Entry) (m : Ksm) → partner e ≡ partner f → top_of e.top ≡ top_of f.top
    → brought own e m ≡ brought own f m
unfolding brought
brought_alike own e f m p h = λ j.
    let key : Kd → DataKey = λ k. record {
      key = unseal (working m.nos (p j) own (h j) m.ctp) k.key;
      name = name_of (named k.idk1);
    } in
    elim m.second [ None ↦ one_key (key m.kd) | Some k ↦ two_keys (key m.kd) (key k) ]

-- ---- A under the identity a, B under b

module _ (a b name : Text) (top : Top) where
  -- the MAC of the RSM from B to A under these keys
  abbrev pub mac_under : KeySet → ℕ
  mac_under set = mac (mac_key (keys_in set)) (covered_part (record { rcv = a; org = b; body = rsm_body 0 }))

  unfoldable pub carried_in : Body → Carried KeySet
  carried_in (ksm m) = key_message m.ctp (brought b (entry_for name top a) m)
  carried_in (rsi m) = no_key_message
  carried_in (rsm m) = no_key_message
  carried_in (esm m) = no_key_message
  carried_in (option c w) = no_key_message

  unfoldable pub carried_by : Option Reading → Carried KeySet
  carried_by None = no_key_message
  carried_by (Some r) =
      in_case same r.rcv b then (in_case same r.org a then carried_in r.body else no_key_message) else no_key_message

  unfoldable pub called_by : Carried KeySet → Answer
  called_by (key_message n k) = answer (mac_under k)
  called_by no_key_message = no_answer

  unfoldable pub answer_in : Body → Answer
  answer_in (ksm m) = no_answer
  answer_in (rsi m) = no_answer
  answer_in (rsm m) = answer m.mac
  answer_in (esm m) = no_answer
  answer_in (option c w) = no_answer

  unfoldable pub answer_by : Option Reading → Answer
  answer_by None = no_answer
  answer_by (Some r) =
      in_case same r.rcv a then (in_case same r.org b then answer_in r.body else no_answer) else no_answer

  -- a key message of A's to B that a request made
  pub record Genuine (t : Text) (n : ℕ) (k : KeySet) : Type 0 where
    pub request : Request
    pub entry : Entry
    pub lawful : legal entry ≡ true
    pub to_b : partner entry ≡ b
    pub key : top_of entry.top ≡ top
    pub named : entry.top.name ≡ name_of name
    pub count : entry.sending.next ≡ n
    pub odd_keys : any not_odd (used request) ≡ false
    pub formed : malformed request ≡ false
    pub small : In64Bits request
    pub keys : outgoing_of request ≡ k
    pub text : t ≡ ksm_text a entry request

  abbrev pub ends : Ends
  ends = record {
    Text = Text;
    Keys = KeySet;
    Sending = Sending;
    phase = λ s. s.phase;
    next = λ s. s.next;
    outgoing = λ s. s.outgoing;
    Receiving = Receiving;
    expected = λ r. r.expected;
    incoming = λ r. r.incoming;
    holding = λ r. 1 < r.expected;
    carries = λ t. carried_by (read t);
    calls = λ t. called_by (carried_by (read t));
    closes = λ t k m. ⊥;
    answers = λ t. answer_by (read t);
    Sound = Genuine;
  }

  -- ---- texts by their readings

  pub carried_at : (body : Body) → carried_by (Some (record { rcv = b; org = a; body = body })) ≡ carried_in body
  unfolding carried_by in_case◌then◌else◌
  carried_at body = rw (same_refl b, same_refl a)

  pub answer_at : (body : Body) → answer_by (Some (record { rcv = a; org = b; body = body })) ≡ answer_in body
  unfolding answer_by in_case◌then◌else◌
  answer_at body = rw (same_refl a, same_refl b)

  pub carried_away : (to org : Text) (body : Body) → to ≢ b
      → carried_by (Some (record { rcv = to; org = org; body = body })) ≡ no_key_message
  unfolding carried_by in_case◌then◌else◌
  carried_away to org body h = rw (differs_same to b h)

  pub answer_away : (to org : Text) (body : Body) → to ≢ a
      → answer_by (Some (record { rcv = to; org = org; body = body })) ≡ no_answer
  unfolding answer_by in_case◌then◌else◌
  answer_away to org body h = rw (differs_same to a h)

  pub carried_plain : {body : Body} → Plain body → carried_in body ≡ no_key_message
  unfolding carried_in
  carried_plain (service m) = refl
  carried_plain (fault m) = refl

  pub answer_plain : {body : Body} → Plain body → answer_in body ≡ no_answer
  unfolding answer_in
  answer_plain (service m) = refl
  answer_plain (fault m) = refl

  -- a text that carries a key message is read as one
  pub record ReadAs (t : Text) (n : ℕ) (k : KeySet) : Type 0 where
    pub message : Ksm
    pub reading : read t ≡ Some (record { rcv = b; org = a; body = ksm message })
    pub count : message.ctp ≡ n
    pub keys : brought b (entry_for name top a) message ≡ k

  pub read_as : (t : Text) (n : ℕ) (k : KeySet) → carried_by (read t) ≡ key_message n k → ReadAs t n k
  unfolding carried_by carried_in in_case◌then◌else◌
  read_as t n k h =
      by_part (read t) (λ q. contra (rw q at h)) λ r q.
      by_test (same r.rcv b)
      (λ u. by_test (same r.org a)
      (λ v. by_body r r.body refl q (same_equal r.rcv b u) (same_equal r.org a v) (rw (q, u, v) at h))
      (λ v. contra (rw (q, u, v) at h)))
      (λ u. contra (rw (q, u) at h))
    where
      contra : {A : Type 0} → no_key_message ≡ key_message n k → A
      contra e = absurd (let z : ◌≡◌ {A = ℕ} 0 1 = cc in omega arith)

      by_body : (r : Reading) (body : Body) → r.body ≡ body → read t ≡ Some r → r.rcv ≡ b → r.org ≡ a
          → carried_in body ≡ key_message n k → ReadAs t n k
      by_body r (ksm m) p q u v e = record {
        message = m;
        reading = q ∙ (λ j. Some (record { rcv = u j; org = v j; body = p j }));
        count = cc;
        keys = cc;
      }
      by_body r (rsi m) p q u v e = contra e
      by_body r (rsm m) p q u v e = contra e
      by_body r (esm m) p q u v e = contra e
      by_body r (option c w) p q u v e = contra e
