-- Errors: the letters of each, and the ESM that tells them.
use Rattle.std.specs.Prelude.{Option, None, Some}
use mathlib.Core.Path.{◌≡◌, refl, ap, ◌∙◌, subst}
use mathlib.Core.Bool.{Bool, true, false, cond, not, ◌&&◌, true≢false}
use mathlib.Core.List.{◌++◌}
use Prim.Native.Nat.{ℕ, ◌+◌}
use lib.Dec.{eqb}
use borrow.Author.Tests.{eq-eqb, not-false}
use Rattle.octets.specs.Text.{Text, ascii, within}
use Rattle.octets.specs.Part.{bare}
use Rattle.keying.specs.Parity.{odd}
use Rattle.csm.specs.Fields.{Kd, Class, erf}
use Rattle.csm.specs.Message.{Body, Ksm, Rsm, ksm, rsm, option, legal_body}
use Rattle.csm.proofs.MessageLaws.{read_back, legal_parts as reading_parts}
use Rattle.partner.specs.declared.KeySet.{KeySet}
use Rattle.partner.specs.declared.Entry.{Entry}
use Rattle.partner.specs.Entry.{limit, waiting}
use Rattle.partner.proofs.Keeping.{rules}
use Rattle.partner.specs.Table.{Table}
use Rattle.calls.specs.Words.{in_case◌then◌else◌, any}
use Rattle.calls.specs.Outcome.{F, I, K, M, O, P, Turn}
use Rattle.calls.specs.Receive as by_class
use Rattle.calls.specs.Receive.{error, esm_body, foreign, uneven, kds, brought, when, faults}
use Rattle.calls.specs.Receive.{bad_format, bad_mac, bad_count, judged, receive_ksm, is_waiting, receive_rsm}
use Rattle.calls.specs.Calls.{receive, After, run}
use Rattle.calls.specs.Claims.{Carries}
use Rattle.calls.specs.Good.{KdOf, Ours, in_clear, EvenOnlyUnmarked, Brings, FormedKsm, Sealed, InTurn}
use Rattle.calls.specs.Results.{Tells, Judged, holds, fails, unless, told_unless}
use Rattle.calls.specs.Steps.{Comes}
use Rattle.calls.proofs.Tests.{not_failing}
use Rattle.calls.proofs.Readings.{esm_legal, ksm_parts}
use Rattle.calls.proofs.Turns.{letters_legal, none_holds, first_count, second_count, error_written}
use Rattle.calls.proofs.Tables.{own_name, put_back, entry_held, held_legal}
use Rattle.calls.proofs.Accepting.{receive_turns}
use Rattle.calls.proofs.Meaning.{of_all, of_one, ours, not_foreign, not_uneven, brings_only}
use Rattle.calls.proofs.Meaning.{ksm_formed, formed_ksm, is_sealed, sealed_is, in_turn, turn_in}

-- ---- a received message's turn is the call's

pub received : (t : Table) (room : ℕ) (text id : Text) (b : Body) (e : Entry) (r : Turn) → Comes t room id e
    → Carries id (bare t.own) b text → by_class.receive (bare t.own) e text b ≡ r
    → run t (receive room text) ≡ put_back t id r
received t room text id b e r g c p =
    receive_turns t g.lawful room g.roomy id e g.known text b c ∙ ap (put_back t id) p

-- ---- an error tells its letters

-- a call whose turn is an error
pub told : (t : Table) (room : ℕ) (text id : Text) (b : Body) (e : Entry) (n : ℕ) (o : Option (ℕ × ℕ))
    → Comes t room id e → Carries id (bare t.own) b text
    → by_class.receive (bare t.own) e text b ≡ error (bare t.own) e n o → legal_body (esm_body n o) ≡ true
    → Tells (bare t.own) id (erf.text n) (first_count o) (second_count o) (run t (receive room text)).outcome
told t room text id b e n o g c p h =
    let us = bare t.own in
    let k = entry_held t id e g.known in
    rw (received t room text id b e (error us e n o) g c p)
    (subst (λ (them : Text). Tells us them (erf.text n) (first_count o) (second_count o) (error us e n o).outcome)
    k.bare_identity (record {
      answered = refl;
      spelled = refl;
      written = error_written us e (own_name t g.lawful) (held_legal t id e g.lawful k) n o h;
      no_more = refl;
    }))

-- ---- a KSM: I alone, K alone

no_foreign : (e : Entry) (m : Ksm) → ((k : Kd) → KdOf m k → Ours e k) → any (foreign e) (kds m) ≡ false
no_foreign e m h = of_all (foreign e) m (λ k i. not_foreign e k (h k i))

module _ (t : Table) (room : ℕ) (text id : Text) (m : Ksm) (e : Entry) (g : Comes t room id e)
    (c : Carries id (bare t.own) (ksm m) text) where
  pub foreign_is_I : (k : Kd) → KdOf m k → (Ours e k → ⊥)
      → Tells (bare t.own) id (ascii "I") None None (run t (receive room text)).outcome
  unfolding by_class.receive receive_ksm in_case◌then◌else◌
  foreign_is_I k i n =
      told t room text id (ksm m) e I None g c
      (rw (of_one (foreign e) m k i (not_failing (foreign e k) (λ p. n (ours e k p))))) (esm_legal I refl refl)

  pub even_is_K : ((k : Kd) → KdOf m k → Ours e k) → (k : Kd) → KdOf m k → k.p ≡ true → odd (in_clear (bare t.own) e m k) ≡ false
      → Tells (bare t.own) id (ascii "K") None None (run t (receive room text)).outcome
  unfolding by_class.receive receive_ksm uneven in_case◌then◌else◌
  even_is_K f k i p h =
      told t room text id (ksm m) e K None g c
      (rw (no_foreign e m f, of_one (uneven (bare t.own) e m) m k i (rw (p, h)))) (esm_legal K refl refl)

-- ---- then F, M and P together

-- a test fails exactly where its condition holds
judged_by : {P : Type 0} (test b : Bool) → (test ≡ false → P) → (P → test ≡ false) → Judged P b → test ≡ not b
judged_by test b f g (holds p) = g p
judged_by test b f g (fails n) = not_failing test (λ q. n (f q))

-- the letters of what fails
abbrev pub letters : Bool → Bool → Bool → ℕ
letters f s c = when (not f) F + (when (not s) M + when (not c) P)

pub spelled : (f s c : Bool) → erf.text (letters f s c) ≡ unless f (ascii "F") ++ (unless s (ascii "M") ++ unless c (ascii "P"))
spelled true true true = refl
spelled true true false = refl
spelled true false true = refl
spelled true false false = refl
spelled false true true = refl
spelled false true false = refl
spelled false false true = refl
spelled false false false = refl

some_letter : (f s c : Bool) → f && s && c ≡ false → not (eqb (letters f s c) 0) ≡ true
some_letter f s c h =
    not_failing (not (eqb (letters f s c) 0)) (λ p.
    let i = none_holds (not f) (not s) (not c) (not-false _ p) in
    true≢false (rw (not-false f i.0, not-false s i.1, not-false c i.2) at h))

-- the counts where the count is wrong
abbrev pub counts : Bool → ℕ → ℕ → Option (ℕ × ℕ)
counts c x y = cond (not c) (Some (x, y)) None

counts_told : (us id w : Text) (x y : ℕ) (a : After) (c : Bool)
    → Tells us id w (first_count (counts c x y)) (second_count (counts c x y)) a.outcome
    → Tells us id w (told_unless c x) (told_unless c y) a.outcome
counts_told us id w x y a true h = h
counts_told us id w x y a false h = h

-- what is judged so, of a KSM with good names and parity
module _ (us : Text) (e : Entry) (text : Text) (m : Ksm) (set : KeySet) (f s c : Bool) (l : within 1 limit m.ctp ≡ true)
    (n : (k : Kd) → KdOf m k → Ours e k) (u : (k : Kd) → KdOf m k → EvenOnlyUnmarked us e m k) (b : Brings us e m set)
    (jf : Judged (FormedKsm set m) f) (js : Judged (Sealed set text m.mac) s)
    (jc : Judged (InTurn e.receiving.expected m.ctp) c) where
  pub judged_turn : f && s && c ≡ false
      → by_class.receive us e text (ksm m) ≡ error us e (letters f s c) (counts c e.receiving.expected m.ctp)
  unfolding by_class.receive receive_ksm judged faults in_case◌then◌else◌
  judged_turn h =
      let i = brings_only us e m set b in
      let p : bad_format (brought us e m) m ≡ not f =
      subst (λ (k : KeySet). bad_format k m ≡ not f) i
      (judged_by (bad_format set m) f (ksm_formed set m) (formed_ksm set m) jf) in
      let q : bad_mac (brought us e m) text m.mac ≡ not s =
      subst (λ (k : KeySet). bad_mac k text m.mac ≡ not s) i
      (judged_by (bad_mac set text m.mac) s (is_sealed set text m.mac) (sealed_is set text m.mac) js) in
      let r = judged_by (bad_count e.receiving.expected m.ctp) c (in_turn e.receiving.expected m.ctp l)
      (turn_in e.receiving.expected m.ctp) jc in
      let v = of_all (uneven us e m) m (λ k j. not_uneven us e m k (u k j)) in
      rw (no_foreign e m n, v, p, q, r, some_letter f s c h)

pub faults_told : (t : Table) (room : ℕ) (text id : Text) (m : Ksm) (e : Entry) (set : KeySet) (f s c : Bool)
    → Comes t room id e → Carries id (bare t.own) (ksm m) text
    → ((k : Kd) → KdOf m k → Ours e k) → ((k : Kd) → KdOf m k → EvenOnlyUnmarked (bare t.own) e m k) → Brings (bare t.own) e m set
    → Judged (FormedKsm set m) f → Judged (Sealed set text m.mac) s → Judged (InTurn e.receiving.expected m.ctp) c
    → f && s && c ≡ false
    → Tells (bare t.own) id (unless f (ascii "F") ++ (unless s (ascii "M") ++ unless c (ascii "P")))
    (told_unless c e.receiving.expected) (told_unless c m.ctp) (run t (receive room text)).outcome
faults_told t room text id m e set f s c g x n u b jf js jc h =
    let us = bare t.own in
    let l = (ksm_parts m (reading_parts _ (read_back text _ x).0).body).count in
    let v = (rules e (held_legal t id e g.lawful (entry_held t id e g.known))).expected_right in
    let z = told t room text id (ksm m) e (letters f s c) (counts c e.receiving.expected m.ctp) g x
    (judged_turn us e text m set f s c l n u b jf js jc h)
    (letters_legal (not f) (not s) (not c) e.receiving.expected m.ctp v l (some_letter f s c h)) in
    counts_told us id _ e.receiving.expected m.ctp (run t (receive room text)) c
    (subst (λ (w : Text). Tells us id w (first_count (counts c e.receiving.expected m.ctp))
    (second_count (counts c e.receiving.expected m.ctp)) (run t (receive room text)).outcome) (spelled f s c) z)

-- ---- an RSM whose MAC differs: M; an option: O

pub bad_rsm : (t : Table) (room : ℕ) (text id : Text) (m : Rsm) (e : Entry) → Comes t room id e
    → Carries id (bare t.own) (rsm m) text → e.sending.phase ≡ waiting → (Sealed e.sending.outgoing text m.mac → ⊥)
    → Tells (bare t.own) id (ascii "M") None None (run t (receive room text)).outcome
unfolding by_class.receive receive_rsm is_waiting in_case◌then◌else◌
bad_rsm t room text id m e g c w n =
    let b = not_failing (bad_mac e.sending.outgoing text m.mac)
    (λ p. n (is_sealed e.sending.outgoing text m.mac p)) in
    told t room text id (rsm m) e M None g c (rw (eq-eqb e.sending.phase waiting w, b)) (esm_legal M refl refl)

pub option_told : (t : Table) (room : ℕ) (text id : Text) (c : Class) (w : Text) (e : Entry) → Comes t room id e
    → Carries id (bare t.own) (option c w) text
    → Tells (bare t.own) id (ascii "O") None None (run t (receive room text)).outcome
unfolding by_class.receive
option_told t room text id c w e g x = told t room text id (option c w) e O None g x refl (esm_legal O refl refl)
