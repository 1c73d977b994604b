-- The late error, with real keys and texts: HARBOR has taken MILL's key message and is handed it again and again; the
-- first ESM reaches MILL last. MILL builds anew and is confirmed, in the keys that HARBOR holds.
use Rattle.std.specs.Prelude.{None, Some}
use mathlib.Core.Path.{◌≡◌, refl, sym, ap, ◌∙◌, subst}
use mathlib.Core.List.Memᴰ
use mathlib.Core.List.{List, [], ◌∷◌}
use mathlib.Core.Logic.{⊎_elim}
use Prim.Native.Nat.{ℕ, zero, suc}
use native.Mathlib.Omega.{arith}
use Rattle.octets.specs.Text.{Text, ascii}
use Rattle.csm.specs.Message.{Ksm, Esm, ksm, esm, read}
use Rattle.partner.specs.declared.KeySet.{KeySet}
use Rattle.partner.specs.declared.Entry.{Entry}
use Rattle.partner.specs.Entry.{waiting, confirmed, broken, no_keys, one_key}
use Rattle.partner.specs.Changes.{failed}
use Rattle.calls.specs.declared.Request.{Request}
use Rattle.calls.specs.Words.{in_case◌then◌else◌}
use Rattle.calls.specs.Outcome.{P, success, complaint, nothing, keys, confirmation, failure}
use Rattle.calls.specs.Receive as by_class
use Rattle.calls.specs.Calls.{receive, about, build_ksm, After, entry_of, run}
use Rattle.line.specs.Line.{◌∈◌, State, texts, count_in, count_from, counted, Allowed}
use Rattle.line.specs.Line.{a_to_b, called_for, Distinct, Agreed, begin, LateError}
use Rattle.worked.specs.Worked.{MILL, HARBOR, key_name, pair, first_ksm, third_ksm}
use Rattle.line.proofs.CoreEnds.{Answer, answer}
use Rattle.line.proofs.CardEnds.{carried_in, carried_by, called_by, carried_at}
use Rattle.line.proofs.Theorem.{late_error_is_harmless}
use Rattle.worked.proofs.Cards.{computes, asked, data_key, first_keys}
use Rattle.worked.proofs.Cards.{answering_rsm, mill_entry, mill, harbor}
use Rattle.worked.proofs.Runs.{state, both_started, afresh, answered, answered_run, Run}
use Rattle.worked.proofs.Runs.{after_mill, after_harbor, at_mill, at_harbor}

-- ---- texts and calls

abbrev new_request : Request
new_request = record {
  count = 1;
  first = asked 0x0F1E2D3C4B5A6978 2 (ascii "TWO");
  second = asked 0 0 [];
  kind = 0;
  iv = 0;
  dated = 0;
  date = record { digits = ascii "000000000000" };
  notarized = 1;
}

abbrev new_keys : KeySet
new_keys = one_key (data_key 0x0F1E2D3C4B5A6978 (ascii "TWO"))

abbrev new_rsm : Text
new_rsm = ascii "CSM(MCL/RSM RCV/MILL ORG/HARBOR MAC/E7B9 DD5F )"

abbrev the_esm : Text
the_esm = ascii "CSM(MCL/ESM RCV/MILL ORG/HARBOR CTP/2 CTR/1 ERF/P )"

harbor_complains : run (harbor 2 first_keys) (receive 256 first_ksm)
    ≡ record { outcome = complaint P the_esm; table = harbor 2 first_keys }
unfolding computes
harbor_complains = refl

mill_breaks : run (mill 2 waiting first_keys) (receive 256 the_esm)
    ≡ record { outcome = success [] (failure P); table = mill 2 broken no_keys }
unfolding computes by_class.receive_esm failed
mill_breaks = refl

mill_builds_new : run (mill 2 broken no_keys) (about HARBOR (build_ksm 256 new_request))
    ≡ record { outcome = success third_ksm nothing; table = mill 3 waiting new_keys }
unfolding computes
mill_builds_new = refl

harbor_takes_new : run (harbor 2 first_keys) (receive 256 third_ksm)
    ≡ record { outcome = success new_rsm (keys None None); table = harbor 3 new_keys }
unfolding computes
harbor_takes_new = refl

mill_confirms_new : run (mill 3 waiting new_keys) (receive 256 new_rsm)
    ≡ record { outcome = success [] confirmation; table = mill 3 confirmed new_keys }
unfolding computes
mill_confirms_new = refl

abbrev the_error : Esm
the_error = record { ctp = Some 2; ctr = Some 1; erf = P; edc = None }

esm_reads : read the_esm ≡ Some (record { rcv = MILL; org = HARBOR; body = esm the_error })
unfolding computes
esm_reads = refl

-- ---- the run

counted_new : count_from MILL (read third_ksm) ≡ 2 ∷ []
unfolding computes count_from count_in
counted_new = refl

abbrev complained : ℕ → List Text
complained zero = answering_rsm ∷ []
complained (suc n) = the_esm ∷ complained n

-- HARBOR was handed the key message n times more than once
abbrev again : ℕ → State
again n = state (mill 2 waiting first_keys) (harbor 2 first_keys) (first_ksm ∷ []) (complained n) (1 ∷ [])

abbrev broken_off : State
broken_off = state (mill 2 broken no_keys) (harbor 2 first_keys) (first_ksm ∷ []) (complained 2) (1 ∷ [])

abbrev two_sent : List Text
two_sent = third_ksm ∷ first_ksm ∷ []

abbrev agreed_anew : State
agreed_anew =
    state (mill 3 confirmed new_keys) (harbor 3 new_keys) two_sent (new_rsm ∷ complained 2) (2 ∷ 1 ∷ [])

-- MILL builds anew, HARBOR takes it and answers
anew : Run broken_off agreed_anew
unfolding texts counted Allowed in_case◌then◌else◌
anew =
    at_mill
    (state (mill 3 waiting new_keys) (harbor 3 new_keys) two_sent (new_rsm ∷ complained 2) (2 ∷ 1 ∷ []))
    (receive 256 new_rsm) _ mill_confirms_new (λ r e o. Memᴰ.head refl)
    (rw counted_new at
    (at_harbor (state (mill 3 waiting new_keys) (harbor 2 first_keys) two_sent (complained 2) (1 ∷ []))
    (receive 256 third_ksm) _ harbor_takes_new (λ r e o. Memᴰ.head refl)
    (at_mill broken_off (about HARBOR (build_ksm 256 new_request)) _ mill_builds_new
    (record { first = omega arith; second = omega arith }) begin)))

pub late : LateError MILL HARBOR key_name pair both_started agreed_anew
unfolding texts counted Allowed in_case◌then◌else◌
late = record {
  before = again 1;
  until_then =
      at_harbor answered (receive 256 first_ksm) _ harbor_complains (λ r e o. Memᴰ.head refl) answered_run;
  resent = first_ksm;
  sent = Memᴰ.head refl;
  room_b = 256;
  later = again 2;
  meanwhile = subst (λ (y : After). Run (after_harbor (again 1) (receive 256 first_ksm) y) (again 2))
      (sym harbor_complains) begin;
  error = the_esm;
  message = the_error;
  reading = esm_reads;
  old = Memᴰ.head refl;
  room_a = 256;
  since = subst (λ (y : After). Run (after_mill (again 2) y) agreed_anew) (sym mill_breaks) anew;
}

-- ---- the two key messages call for different MACs

abbrev called : Text → Answer
called t = called_by MILL HARBOR key_name pair (carried_by MILL HARBOR key_name pair (read t))

abbrev mac_for : Ksm → ℕ
mac_for m = called_for MILL HARBOR key_name pair m

abbrev Reads : Text → Ksm → Type 0
Reads t m = read t ≡ Some (a_to_b MILL HARBOR key_name pair (ksm m))

first_calls : called first_ksm ≡ answer 0x96359AC3
unfolding computes called_by carried_by carried_in
first_calls = refl

new_calls : called third_ksm ≡ answer 0xE7B9DD5F
unfolding computes called_by carried_by carried_in
new_calls = refl

calls_of : (t : Text) (m : Ksm) (n : ℕ) → Reads t m → called t ≡ answer n → mac_for m ≡ n
unfolding called_for called_by carried_in
calls_of t m n r c =
    let e : answer (mac_for m) ≡ answer n =
    rw (r, carried_at MILL HARBOR key_name pair (ksm m)) at c in
    cc

pub distinct : Distinct MILL HARBOR key_name pair agreed_anew.from_a
distinct t u m n ht hu rt ru e =
    ⊎_elim
    (λ (p : t ≡ third_ksm).
    ⊎_elim (λ (q : u ≡ third_ksm). p ∙ sym q)
    (λ (q : u ∈ (first_ksm ∷ [])). apart u t n m (Memᴰ.eq_of_singleton q) p ru rt (sym e))
    (Memᴰ.cases_cons hu))
    (λ (p : t ∈ (first_ksm ∷ [])).
    let f : t ≡ first_ksm = Memᴰ.eq_of_singleton p in
    ⊎_elim (λ (q : u ≡ third_ksm). apart t u m n f q rt ru e)
    (λ (q : u ∈ (first_ksm ∷ [])). f ∙ sym (Memᴰ.eq_of_singleton q)) (Memᴰ.cases_cons hu))
    (Memᴰ.cases_cons ht)
  where
    apart : {A : Type 0} (v w : Text) (j k : Ksm) → v ≡ first_ksm → w ≡ third_ksm
        → Reads v j → Reads w k → mac_for j ≡ mac_for k → A
    apart v w j k p q rv rw' h =
        let x : mac_for j ≡ 0x96359AC3 =
        calls_of first_ksm j 0x96359AC3 (ap read (sym p) ∙ rv) first_calls in
        let y : mac_for k ≡ 0xE7B9DD5F =
        calls_of third_ksm k 0xE7B9DD5F (ap read (sym q) ∙ rw') new_calls in
        absurd (omega (arith, x, y, h))

-- ---- confirmed, and what the theorem then says

abbrev mill_anew : Entry
mill_anew = mill_entry 3 confirmed new_keys

pub anew_confirmed : (entry_of HARBOR agreed_anew.a ≡ Some mill_anew) × (mill_anew.sending.phase ≡ confirmed)
unfolding computes
anew_confirmed = (refl, refl)

pub late_agreed : Agreed MILL HARBOR key_name pair agreed_anew mill_anew.sending
late_agreed =
    late_error_is_harmless MILL HARBOR key_name pair afresh late distinct mill_anew anew_confirmed.0
    anew_confirmed.1
