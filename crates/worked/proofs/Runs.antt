-- The theorem says something: a run that meets its premises and ends confirmed. And it needs the premise on MACs: a run
-- that meets all the others ends with A confirmed in keys that B does not hold.
use Rattle.std.specs.Prelude.{Some}
use mathlib.Core.Path.{◌≡◌, refl, sym, ap, ◌∙◌, subst}
use mathlib.Core.List.Memᴰ
use mathlib.Core.List.{List, [], ◌∷◌, ◌++◌}
use Prim.Native.Nat.{ℕ}
use native.Mathlib.Omega.{arith}
use Rattle.octets.specs.Text.{Text}
use Rattle.csm.specs.Message.{read}
use Rattle.partner.specs.declared.KeySet.{KeySet}
use Rattle.partner.specs.declared.Entry.{Entry}
use Rattle.partner.specs.Entry.{waiting, confirmed, broken, no_keys}
use Rattle.partner.specs.Table.{Table}
use Rattle.calls.specs.Words.{in_case◌then◌else◌}
use Rattle.calls.specs.Calls.{Call, receive, about, build_ksm, give_up, load, remove, After, entry_of, run, start}
use Rattle.line.specs.Line.{State, texts, count_in, count_from, counted, Allowed}
use Rattle.line.specs.Line.{Reach, begin, step_a, step_b, Afresh, Distinct, Agreed}
use Rattle.worked.specs.Worked.{MILL, HARBOR, key_name, pair, other_name, other_key, mistyped}
use Rattle.worked.specs.Worked.{first_ksm, second_ksm}
use Rattle.line.proofs.CardFresh as fresh
use Rattle.line.proofs.Theorem.{agreement}
use Rattle.worked.proofs.Cards.{computes, first_request, second_request}
use Rattle.worked.proofs.Cards.{first_keys, second_keys, answering_rsm, started}
use Rattle.worked.proofs.Cards.{mill_entry, harbor_entry, mill, harbor, mill_removes_nobody, mill_mistypes, mill_loads}
use Rattle.worked.proofs.Cards.{mill_loads_again, harbor_loads, mill_builds, harbor_takes}
use Rattle.worked.proofs.Cards.{mill_confirms, mill_gives_up, mill_builds_again, mill_confirms_others}

-- ---- the beginning: both cards are started

abbrev pub state : Table → Table → List Text → List Text → List ℕ → State
state a b from_a from_b taken = record { a = a; b = b; from_a = from_a; from_b = from_b; accepted = taken }

abbrev pub both_started : State
both_started = state (started MILL) (started HARBOR) [] [] []

pub afresh : Afresh MILL HARBOR key_name pair both_started
unfolding start in_case◌then◌else◌
afresh = record {
  card_a = fresh.started key_name pair MILL HARBOR (started MILL) refl;
  card_b = fresh.started key_name pair HARBOR MILL (started HARBOR) refl;
  a_silent = refl;
  b_silent = refl;
  none_accepted = refl;
}

-- ---- a step whose call was computed

abbrev pub Run : State → State → Type 0
Run s₀ s = Reach MILL HARBOR key_name pair s₀ s

abbrev pub after_mill : State → After → State
after_mill s y = state y.table s.b (texts y.outcome.reply ++ s.from_a) s.from_b s.accepted

abbrev pub after_harbor : State → Call → After → State
after_harbor s c y =
    state s.a y.table s.from_a (texts y.outcome.reply ++ s.from_b)
    (counted MILL c y.outcome.answer ++ s.accepted)

pub at_mill : {s₀ : State} (s : State) (c : Call) (y : After) → run s.a c ≡ y
    → Allowed key_name pair HARBOR s.from_b c y.outcome.answer → Run s₀ s → Run s₀ (after_mill s y)
at_mill {s₀} s c y e may r =
    subst (λ (x : After). Run s₀ (after_mill s x)) e
    (step_a r c (subst (λ (x : After). Allowed key_name pair HARBOR s.from_b c x.outcome.answer) (sym e) may))

pub at_harbor : {s₀ : State} (s : State) (c : Call) (y : After) → run s.b c ≡ y
    → Allowed key_name pair MILL s.from_a c y.outcome.answer → Run s₀ s → Run s₀ (after_harbor s c y)
at_harbor {s₀} s c y e may r =
    subst (λ (x : After). Run s₀ (after_harbor s c x)) e
    (step_b r c (subst (λ (x : After). Allowed key_name pair MILL s.from_a c x.outcome.answer) (sym e) may))

-- ---- both load, MILL not without mistakes; MILL builds, HARBOR takes and answers

count_of_first : count_from MILL (read first_ksm) ≡ 1 ∷ []
unfolding computes count_from count_in
count_of_first = refl

abbrev pub answered : State
answered = state (mill 2 waiting first_keys) (harbor 2 first_keys) (first_ksm ∷ []) (answering_rsm ∷ []) (1 ∷ [])

-- MILL removes HARBOR, whom it does not have, and loads it mistyped, rightly, and once more with another key
mistaken_run : Run both_started (state (mill 1 0 no_keys) (started HARBOR) [] [] [])
unfolding texts Allowed
mistaken_run =
    at_mill (state (mill 1 0 no_keys) (started HARBOR) [] [] []) (load HARBOR other_name other_key) _ mill_loads_again
    (λ z o. absurd (omega arith))
    (at_mill both_started (load HARBOR key_name pair) _ mill_loads (λ z o. (refl, refl))
    (at_mill both_started (load HARBOR key_name mistyped) _ mill_mistypes (λ z o. absurd (omega arith))
    (at_mill both_started (about HARBOR remove) _ mill_removes_nobody (λ z o. absurd (omega arith)) begin)))

loaded_run : Run both_started (state (mill 1 0 no_keys) (harbor 1 no_keys) [] [] [])
unfolding texts counted Allowed
loaded_run =
    at_harbor (state (mill 1 0 no_keys) (started HARBOR) [] [] []) (load MILL key_name pair) _ harbor_loads
    (λ z o. (refl, refl)) mistaken_run

built_run : Run both_started (state (mill 2 waiting first_keys) (harbor 1 no_keys) (first_ksm ∷ []) [] [])
unfolding texts Allowed
built_run =
    at_mill (state (mill 1 0 no_keys) (harbor 1 no_keys) [] [] []) (about HARBOR (build_ksm 256 first_request)) _ mill_builds
    (record { first = omega arith; second = omega arith }) loaded_run

pub answered_run : Run both_started answered
unfolding texts counted Allowed in_case◌then◌else◌
answered_run =
    rw count_of_first at
    (at_harbor (state (mill 2 waiting first_keys) (harbor 1 no_keys) (first_ksm ∷ []) [] []) (receive 256 first_ksm) _
    harbor_takes (λ r e o. Memᴰ.head refl) built_run)

-- ---- the answer comes: confirmed, under every premise

abbrev pub agreed : State
agreed = state (mill 2 confirmed first_keys) (harbor 2 first_keys) (first_ksm ∷ []) (answering_rsm ∷ []) (1 ∷ [])

pub agreed_run : Run both_started agreed
unfolding texts Allowed
agreed_run =
    at_mill answered (receive 256 answering_rsm) _ mill_confirms (λ r e o. Memᴰ.head refl) answered_run

-- one key message is no two
pub agreed_distinct : Distinct MILL HARBOR key_name pair agreed.from_a
agreed_distinct t u m n ht hu = λ rt ru e. Memᴰ.eq_of_singleton ht ∙ sym (Memᴰ.eq_of_singleton hu)

pub agreed_confirmed : (entry_of HARBOR agreed.a ≡ Some (mill_entry 2 confirmed first_keys))
    × ((mill_entry 2 confirmed first_keys).sending.phase ≡ confirmed)
unfolding computes
agreed_confirmed = (refl, refl)

-- and what the theorem then says
pub agreed_holds : Agreed MILL HARBOR key_name pair agreed (mill_entry 2 confirmed first_keys).sending
agreed_holds =
    agreement MILL HARBOR key_name pair afresh agreed_run agreed_distinct (mill_entry 2 confirmed first_keys)
    agreed_confirmed.0 agreed_confirmed.1

-- ---- the answer is late: MILL has given up and built a message with other keys, which calls for the same MAC

abbrev two_sent : List Text
two_sent = second_ksm ∷ first_ksm ∷ []

abbrev pub misled : State
misled = state (mill 3 confirmed second_keys) (harbor 2 first_keys) two_sent (answering_rsm ∷ []) (1 ∷ [])

pub misled_run : Run both_started misled
unfolding texts Allowed
misled_run =
    at_mill (state (mill 3 waiting second_keys) (harbor 2 first_keys) two_sent (answering_rsm ∷ []) (1 ∷ []))
    (receive 256 answering_rsm) _ mill_confirms_others (λ r e o. Memᴰ.head refl)
    (at_mill (state (mill 2 broken no_keys) (harbor 2 first_keys) (first_ksm ∷ []) (answering_rsm ∷ []) (1 ∷ []))
    (about HARBOR (build_ksm 256 second_request)) _ mill_builds_again
    (record { first = omega arith; second = omega arith })
    (at_mill answered (about HARBOR give_up) _ mill_gives_up tt answered_run))

pub misled_confirmed : (entry_of HARBOR misled.a ≡ Some (mill_entry 3 confirmed second_keys))
    × ((mill_entry 3 confirmed second_keys).sending.phase ≡ confirmed)
unfolding computes
misled_confirmed = (refl, refl)

harbor_holds : entry_of MILL misled.b ≡ Some (harbor_entry 2 first_keys)
unfolding computes
harbor_holds = refl

-- HARBOR holds other keys
pub misled_disagrees : Agreed MILL HARBOR key_name pair misled (mill_entry 3 confirmed second_keys).sending → ⊥
misled_disagrees g =
    let p : harbor_entry 2 first_keys ≡ g.for_a = cc (g.held, harbor_holds) in
    let k : first_keys ≡ second_keys = ap (λ (e : Entry). e.receiving.incoming) p ∙ g.in_step.keys in
    let n : ◌≡◌ {A = ℕ} 0x1122334455667788 0x1E2C3E485E6C7E80 = ap (λ (s : KeySet). s.first.key) k in
    omega (arith, n)

-- so of all premises the one on MACs is not met
pub misled_not_distinct : Distinct MILL HARBOR key_name pair misled.from_a → ⊥
misled_not_distinct d =
    misled_disagrees
    (agreement MILL HARBOR key_name pair afresh misled_run d (mill_entry 3 confirmed second_keys) misled_confirmed.0
    misled_confirmed.1)
