-- All that a turn can do to an entry: it refuses, complains, or makes one of the changes.
use Rattle.std.specs.Prelude.{Option, None, Some}
use mathlib.Core.Path.{◌≡◌, refl, sym, ap, ◌∙◌}
use mathlib.Core.Bool.{Bool, true, false, cond, not, ◌&&◌, true≢false}
use mathlib.Core.List.{[]}
use Prim.Native.Nat.{ℕ, ◌+◌, ◌≤◌, ◌<◌}
use native.Mathlib.Nat.{le-max_left}
use native.Mathlib.Omega.{arith}
use lib.Dec.{eqb}
use borrow.Author.Tests.{eqb-true, eqb-false, not-true, not-false, ltb-false}
use Rattle.octets.specs.Text.{Text, same, within, is_name}
use Rattle.octets.specs.Part.{bare}
use Rattle.octets.proofs.Comparing.{both as and_true}
use Rattle.keying.specs.Mac.{mac_key, mac}
use Rattle.csm.specs.Format.{value}
use Rattle.csm.specs.Fields.{Kd, kd, svr}
use Rattle.csm.specs.Message.{Body, Rsi, Ksm, Rsm, Esm, rsi, ksm, rsm, esm, option, legal_body, print}
use Rattle.csm.specs.Covered.{covered}
use Rattle.csm.proofs.TextLaws.{within_true, some_inj, none_some}
use Rattle.partner.specs.declared.KeySet.{KeySet}
use Rattle.partner.specs.declared.Entry.{Entry}
use Rattle.partner.specs.Entry.{limit, waiting, keys_in}
use Rattle.partner.specs.Legal.{is_named, keys_formed, legal}
use Rattle.partner.specs.Changes.{with_receiving, with_sending, accepted, issued, settled, given_up, failed}
use Rattle.partner.proofs.Keeping.{rules}
use Rattle.partner.proofs.Claims.{claims}
use Rattle.calls.specs.declared.Request.{Request}
use Rattle.calls.specs.Outcome.{F, I, K, M, O, P, Told, Turn, refusal, refused, done}
use Rattle.calls.specs.Receive.{to_partner, rsm_text, esm_body, error, brought_key, brought, when, faults}
use Rattle.calls.specs.Receive.{bad_format, bad_mac, bad_count, counts_for, judged, receive_ksm, is_waiting}
use Rattle.calls.specs.Receive.{receive_rsm, after_esm, receive_esm, receive}
use Rattle.calls.specs.Build.{outgoing_of, build_ksm, build_rsi, give_up}
use Rattle.calls.specs.Claims.{Carries, Answers, Complains}
use Rattle.calls.proofs.Tests.{or_split, by_case, by_test, by_part}
use Rattle.calls.proofs.Readings.{esm_legal, counted_legal, kd_name, ksm_parts, esm_count}
use Rattle.calls.proofs.Requests.{named_is_named, formed, outgoing_formed}
use Rattle.calls.proofs.Written.{to_them, rsm_written, sent, sent_written}

-- ---- the changes

pub data Change (e : Entry) : Entry → Type 0 where
  stays : Change e e
  takes : (n : ℕ) (set : KeySet) → keys_formed set ≡ true → 1 ≤ n → n < limit → e.receiving.expected ≤ n
      → Change e (with_receiving e (accepted n set))
  issues : (set : KeySet) → keys_formed set ≡ true → e.sending.next < limit → Change e (with_sending e (issued e.sending set))
  settles : e.sending.phase ≡ waiting → Change e (with_sending e (settled e.sending))
  gives_up : e.sending.phase ≡ waiting → Change e (with_sending e (given_up e.sending))
  fails : (x : ℕ) → e.sending.phase ≡ waiting → 1 ≤ x → x ≤ limit → Change e (with_sending e (failed e.sending x))

pub change_legal : (e f : Entry) → Change e f → legal e ≡ true → legal f ≡ true
change_legal e f stays h = h
change_legal e f (takes n set g c k l) h = claims.accepted_is_legal e n set h c k g
change_legal e f (issues set g k) h = claims.issued_is_legal e set h k g
change_legal e f (settles w) h = claims.settled_is_legal e h w
change_legal e f (gives_up w) h = claims.given_up_is_legal e h w
change_legal e f (fails x w j l) h = claims.failed_is_legal e x h w j l

pub change_identity : (e f : Entry) → Change e f → f.identity ≡ e.identity
change_identity e f stays = refl
change_identity e f (takes n set g c k l) = refl
change_identity e f (issues set g k) = refl
change_identity e f (settles w) = refl
change_identity e f (gives_up w) = refl
change_identity e f (fails x w j l) = refl

-- counts do not fall
pub change_counts : (e f : Entry) → Change e f → (e.sending.next ≤ f.sending.next) × (e.receiving.expected ≤ f.receiving.expected)
unfolding accepted issued settled given_up failed
change_counts e f stays = (omega arith, omega arith)
change_counts e f (takes n set g c k l) = let r = claims.rises_by_one n k in (omega arith, omega arith)
change_counts e f (issues set g k) = let r = claims.rises_by_one e.sending.next k in (omega arith, omega arith)
change_counts e f (settles w) = (omega arith, omega arith)
change_counts e f (gives_up w) = (omega arith, omega arith)
change_counts e f (fails x w j l) = (le-max_left e.sending.next x, omega arith)

-- ---- what a turn does

-- the numbers of refusals: neither done nor an error
abbrev pub refusing : ℕ → Bool
refusing n = not (eqb n 0) && not (eqb n 4)

pub refusing_not_0 : (n : ℕ) → refusing n ≡ true → n ≡ 0 → ⊥
refusing_not_0 n k = eqb-false n 0 (not-true (eqb n 0) (and_true (not (eqb n 0)) (not (eqb n 4)) k).0)

pub refusing_not_4 : (n : ℕ) → refusing n ≡ true → n ≡ 4 → ⊥
refusing_not_4 n k = eqb-false n 4 (not-true (eqb n 4) (and_true (not (eqb n 0)) (not (eqb n 4)) k).1)

pub data Does (us : Text) (e : Entry) (R : Text → Type 0) : Turn → Type 0 where
  refuses : (n : ℕ) → refusing n ≡ true → Does us e R (refused e n)
  complains : (l : ℕ) (c : Option (ℕ × ℕ)) → (l ≡ 0 → ⊥) → legal_body (esm_body l c) ≡ true
      → Does us e R (error us e l c)
  does : (f : Entry) (s : Text) (o : Told) → Change e f → R s → Does us e R (done f s o)

-- ---- the counts of an ESM, and the ESM that is written

abbrev pub first_count : Option (ℕ × ℕ) → Option ℕ
first_count None = None
first_count (Some (x, y)) = Some x

abbrev pub second_count : Option (ℕ × ℕ) → Option ℕ
second_count None = None
second_count (Some (x, y)) = Some y

pub error_written : (us : Text) (e : Entry) → is_name us ≡ true → legal e ≡ true → (n : ℕ) (o : Option (ℕ × ℕ))
    → legal_body (esm_body n o) ≡ true
    → Carries us (bare e.identity.bytes)
    (esm (record { ctp = first_count o; ctr = second_count o; erf = n; edc = None })) (print (to_partner us e (esm_body n o)))
error_written us e u l n None h = to_them us e u l (esm_body n None) refl h
error_written us e u l n (Some (x, y)) h = to_them us e u l (esm_body n (Some (x, y))) refl h

-- ---- receive

-- a value is legal
pub svr_legal : (w : Text) (s : ℕ) → value svr w ≡ Some s → svr.legal s ≡ true
svr_legal w s h =
    by_test (svr.legal (svr.guess w) && same (svr.text (svr.guess w)) w)
    (λ p. let i : Some (svr.guess w) ≡ Some s = rw p at h in
    ap svr.legal (sym (some_inj i)) ∙ (and_true (svr.legal (svr.guess w)) _ p).0)
    (λ p. absurd (none_some s (rw p at h)))

brought_formed : (us : Text) (e : Entry) (m : Ksm) → legal_body (ksm m) ≡ true → keys_formed (brought us e m) ≡ true
unfolding brought
brought_formed us e m h =
    let p = ksm_parts m h in
    by_part m.second (λ q. rw q (claims.one_key_is_formed (brought_key us e m m.kd) (named m.kd p.first)))
    (λ k q. rw q (claims.two_keys_are_formed (brought_key us e m m.kd) (brought_key us e m k) (named m.kd p.first)
    (named k (rw q at p.second))))
  where
    named : (k : Kd) → kd.legal k ≡ true → is_named (brought_key us e m k) ≡ true
    named k l = named_is_named _ k.idk1 (kd_name k l)

-- the letters of F, M and P that hold, with counts where P does
pub letters_legal : (a b c : Bool) (x y : ℕ) → within 1 limit x ≡ true → within 1 limit y ≡ true
    → not (eqb (when a F + (when b M + when c P)) 0) ≡ true
    → legal_body (esm_body (when a F + (when b M + when c P)) (cond c (Some (x, y)) None)) ≡ true
letters_legal true true true x y h i k = counted_legal 164 x y refl refl h i
letters_legal true true false x y h i k = esm_legal 36 refl refl
letters_legal true false true x y h i k = counted_legal 132 x y refl refl h i
letters_legal true false false x y h i k = esm_legal 4 refl refl
letters_legal false true true x y h i k = counted_legal 160 x y refl refl h i
letters_legal false true false x y h i k = esm_legal 32 refl refl
letters_legal false false true x y h i k = counted_legal 128 x y refl refl h i
letters_legal false false false x y h i k = absurd (true≢false (sym k))

-- where no letter stands, none of F, M, P holds
unless_0 : (b : Bool) (n : ℕ) → eqb n 0 ≡ false → when b n ≡ 0 → b ≡ false
unless_0 true n z h = absurd (eqb-false n 0 z h)
unless_0 false n z h = refl

pub none_holds : (a b c : Bool) → eqb (when a F + (when b M + when c P)) 0 ≡ true
    → (a ≡ false) × (b ≡ false) × (c ≡ false)
none_holds a b c h =
    let i = eqb-true (when a F + (when b M + when c P)) 0 h in
    (unless_0 a F refl (omega arith), unless_0 b M refl (omega arith), unless_0 c P refl (omega arith))

-- a count that is not the last is below it
pub short_of_last : (n : ℕ) → within 1 limit n ≡ true → eqb n limit ≡ false → n < limit
short_of_last n h k = omega (arith, (within_true 1 limit n h).1, eqb-false n limit k)

-- waiting is phase 1
in_wait : (e : Entry) → not (is_waiting e.sending) ≡ false → e.sending.phase ≡ waiting
unfolding is_waiting
in_wait e h = eqb-true e.sending.phase waiting (not-false (eqb e.sending.phase waiting) h)

-- what a message that is received comes to, by its class
pub data Step (us : Text) (e : Entry) (text : Text) : Body → Turn → Type 0 where
  vain : (b : Body) → Step us e text b (refused e 5)
  errs : (b : Body) (l : ℕ) (c : Option (ℕ × ℕ)) → (l ≡ 0 → ⊥) → legal_body (esm_body l c) ≡ true
      → Step us e text b (error us e l c)
  serves : (m : Rsi) (o : Told) → Step us e text (rsi m) (done e [] o)
  accepts : (m : Ksm) (o : Told) → e.receiving.expected ≤ m.ctp → m.ctp < limit → Step us e text (ksm m)
      (done (with_receiving e (accepted m.ctp (brought us e m))) (rsm_text us e (brought us e m)) o)
  confirms : (m : Rsm) (o : Told) → e.sending.phase ≡ waiting
      → m.mac ≡ mac (mac_key (keys_in e.sending.outgoing)) (covered text)
      → Step us e text (rsm m) (done (with_sending e (settled e.sending)) [] o)
  breaks : (m : Esm) (o : Told) → e.sending.phase ≡ waiting
      → Step us e text (esm m) (done (with_sending e (after_esm e.sending m)) [] o)

pub receive_step : (us : Text) (e : Entry) (text : Text) → legal e ≡ true → (b : Body) → legal_body b ≡ true
    → Step us e text b (receive us e text b)
unfolding receive receive_ksm judged faults bad_count receive_rsm bad_mac receive_esm
receive_step us e text lawful (rsi m) h = serves m _
receive_step us e text lawful (ksm m) h =
    let set = brought us e m in
    let c = (ksm_parts m h).count in
    by_case (Step us e text (ksm m)) _ _ _ (λ q. errs _ I None (eqb-false I 0 refl) (esm_legal I refl refl)) λ q.
    by_case (Step us e text (ksm m)) _ _ _ (λ q. errs _ K None (eqb-false K 0 refl) (esm_legal K refl refl)) λ q.
    by_case (Step us e text (ksm m)) _ _ _
    (λ q. errs _ (faults e set text m) (counts_for e m) (eqb-false _ 0 (not-true _ q))
    (letters_legal (bad_format set m) (bad_mac set text m.mac) (bad_count e.receiving.expected m.ctp)
    e.receiving.expected m.ctp (rules e lawful).expected_right c q)) λ q.
    let k = or_split _ _ (none_holds (bad_format set m) (bad_mac set text m.mac) _ (not-false _ q)).2 in
    accepts m _ (ltb-false m.ctp e.receiving.expected k.0) (short_of_last m.ctp c k.1)
receive_step us e text lawful (rsm m) h =
    by_case (Step us e text (rsm m)) _ _ _ (λ q. vain _) λ w.
    by_case (Step us e text (rsm m)) _ _ _ (λ q. errs _ M None (eqb-false M 0 refl) (esm_legal M refl refl)) λ q.
    confirms m _ (in_wait e w) (sym (eqb-true _ m.mac (not-false _ q)))
receive_step us e text lawful (esm m) h =
    by_case (Step us e text (esm m)) _ _ _ (λ q. vain _) (λ w. breaks m _ (in_wait e w))
receive_step us e text lawful (option c w) h = errs _ O None (eqb-false O 0 refl) (esm_legal O refl refl)

module _ (us : Text) (e : Entry) (named : is_name us ≡ true) (lawful : legal e ≡ true) where
  abbrev Replies : Body → Turn → Type 0
  Replies b = Does us e (Answers us (bare e.identity.bytes) b)

  step_does : {text : Text} {b : Body} {r : Turn} → Step us e text b r → legal_body b ≡ true → Replies b r
  step_does (vain b) h = refuses 5 refl
  step_does (errs b l c k i) h = complains l c k i
  step_does (serves m o) h = does _ _ _ stays refl
  step_does (accepts m o v u) h =
      let x = rsm_written us e named lawful (brought us e m) in
      does _ _ _ (takes m.ctp (brought us e m) (brought_formed us e m h)
      (within_true 1 limit m.ctp (ksm_parts m h).count).0 u v) (x.0, x.1)
  step_does (confirms m o w s) h = does _ _ _ (settles w) refl
  step_does (breaks m o w) h =
      by_part m.ctp (λ q. does (with_sending e (after_esm e.sending m)) [] o (rw q (gives_up w)) refl) λ x q.
      let b = within_true 1 limit x (rw q at (esm_count m h)) in
      does (with_sending e (after_esm e.sending m)) [] o (rw q (fails x w b.0 b.1)) refl

  pub receive_does : (text : Text) (b : Body) → legal_body b ≡ true → Replies b (receive us e text b)
  receive_does text b h = step_does (receive_step us e text lawful b h) h

  -- ---- build, give up

  pub build_ksm_does : (q : Request)
      → Does us e (λ s. (x : Ksm) × Carries us (bare e.identity.bytes) (ksm x) s) (build_ksm us e q)
  unfolding build_ksm
  build_ksm_does q =
      by_case (Does us e _) _ _ _ (λ h. refuses 7 refl) λ h.
      by_case (Does us e _) _ _ _ (λ h. refuses 8 refl) λ last.
      by_case (Does us e _) _ _ _ (λ h. refuses 11 refl) λ h.
      by_case (Does us e _) _ _ _ (λ h. refuses 12 refl) λ f.
      does _ _ _ (issues (outgoing_of q) (outgoing_formed q (formed q f).keys)
      (short_of_last e.sending.next (rules e lawful).next_right last))
      (sent us e q, sent_written us e named lawful q (formed q f))

  -- an RSI for that service
  abbrev BuildsRsi : Text → Text → Type 0
  BuildsRsi contents reply =
      (s : ℕ) × (value svr contents ≡ Some s)
      × Carries us (bare e.identity.bytes) (rsi (record { svr = s; edc = None })) reply

  pub build_rsi_does : (contents : Text)
      → Does us e (BuildsRsi contents) (build_rsi us e contents)
  unfolding build_rsi
  build_rsi_does contents =
      by_part (value svr contents) (λ q. rw (q, build_rsi) (refuses 12 refl)) λ s q.
      rw (q, build_rsi) (does _ _ _ stays
      (s, q, to_them us e named lawful (rsi (record { svr = s; edc = None })) refl (rw (svr_legal contents s q))))

pub give_up_does : (us : Text) (e : Entry) → Does us e (λ s. s ≡ []) (give_up e)
unfolding give_up
give_up_does us e =
    by_case (Does us e (λ s. s ≡ [])) _ _ _ (λ h. refuses 5 refl) λ w.
    does _ _ _ (gives_up (in_wait e w)) refl

-- ---- what follows

module _ {us : Text} {e : Entry} {R : Text → Type 0} where
  pub does_change : (t : Turn) → Does us e R t → Change e t.entry
  does_change t (refuses n k) = stays
  does_change t (complains l c k b) = stays
  does_change t (does f s o c r) = c

  -- unless it is done, the entry is as it was
  pub does_keep : (t : Turn) → Does us e R t → (t.outcome.answer ≡ 0 → ⊥) → t.entry ≡ e
  does_keep t (refuses n k) h = refl
  does_keep t (complains l c k b) h = refl
  does_keep t (does f s o c r) h = absurd (h refl)

  -- a refusal is bare
  pub does_bare : (t : Turn) → Does us e R t → (t.outcome.answer ≡ 0 → ⊥) → (t.outcome.answer ≡ 4 → ⊥)
      → t.outcome ≡ refusal t.outcome.answer
  does_bare t (refuses n k) h g = refl
  does_bare t (complains l c k b) h g = absurd (g refl)
  does_bare t (does f s o c r) h g = absurd (h refl)

  -- what is done has its reply
  pub does_reply : (t : Turn) → Does us e R t → t.outcome.answer ≡ 0 → R t.outcome.reply
  does_reply t (refuses n k) h =
      absurd (refusing_not_0 n k h)
  does_reply t (complains l c k b) h = absurd (eqb-false 4 0 refl h)
  does_reply t (does f s o c r) h = r

  -- an error has its ESM
  pub does_complain : (t : Turn) → is_name us ≡ true → legal e ≡ true → Does us e R t → t.outcome.answer ≡ 4
      → Complains us (bare e.identity.bytes) t.outcome
  does_complain t u l (refuses n k) h =
      absurd (refusing_not_4 n k h)
  does_complain t u l (complains n o k b) h = record {
    message = record { ctp = first_count o; ctr = second_count o; erf = n; edc = None };
    written = error_written us e u l n o b;
    same_letters = refl;
    some_letter = k;
    no_edc = refl;
    no_more = refl;
  }
  does_complain t u l (does f s o c r) h = absurd (eqb-false 0 4 refl h)
