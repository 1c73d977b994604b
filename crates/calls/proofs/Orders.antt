-- The claims of specs/Orders.antt, proved: each call is walked beside its order.
use Rattle.std.specs.Prelude.{Option, None, Some}
use mathlib.Core.Path.{◌≡◌, refl, sym, ◌∙◌}
use mathlib.Core.Bool.{Bool, true, false, not, ◌&&◌, ◌||◌, true≢false}
use mathlib.Core.List.{List, [], ◌∷◌}
use Prim.Native.Nat.{ℕ}
use lib.Dec.{eqb}
use borrow.Author.Tests.{not-true}
use Rattle.octets.specs.Text.{Text, same, is_name, stands}
use Rattle.octets.specs.Part.{bare}
use Rattle.octets.specs.First.{Order, first, Numbered, end, more}
use Rattle.octets.proofs.Comparing.{both as and_true}
use Rattle.octets.proofs.Firsts as firsts
use Rattle.keying.specs.declared.Top.{Top}
use Rattle.keying.specs.Keys.{odd_top}
use Rattle.csm.specs.Format.{value}
use Rattle.csm.specs.Fields.{svr}
use Rattle.csm.specs.Message.{Body, rsi, ksm, rsm, esm, option, Reading, read}
use Rattle.partner.specs.declared.Entry.{Entry}
use Rattle.partner.specs.Entry.{limit, name_of}
use Rattle.partner.specs.Changes.{loaded}
use Rattle.partner.specs.Table.{Table, legal, into_free_slot}
use Rattle.partner.proofs.Ruling.{not_0}
use Rattle.calls.specs.declared.Request.{Request}
use Rattle.calls.specs.Words.{in_case◌then◌else◌, any}
use Rattle.calls.specs.Outcome.{Turn}
use Rattle.calls.specs.Receive as steps
use Rattle.calls.specs.Receive.{foreign, uneven, kds, brought, faults, bad_mac, is_waiting}
use Rattle.calls.specs.Build as building
use Rattle.calls.specs.Build.{used, not_odd, malformed}
use Rattle.calls.specs.Calls.{Act, build_ksm, build_rsi, give_up, remove, ask, Call, receive, about, load, After, entry_of}
use Rattle.calls.specs.Calls.{at_partner, receiving, bad_identity, loading, short, no_room}
use Rattle.calls.specs.Calls.{acting, perform, run}
use Rattle.calls.specs.Orders.{by_class, by_act, at_entry, of_text, in_order, order, act_answers}
use Rattle.calls.specs.Orders.{answers, Orders}
use Rattle.calls.proofs.Tests.{by_test, by_part, not_failing}

-- the answer of a is the first of the order
record Walks {A : Type 0} (answer : A → ℕ) (a : A) (ts : Order) : Type 0 where
  is : answer a ≡ first ts

-- a step that asks a test first, beside the order that has it first
asks : {A : Type 0} {answer : A → ℕ} (b : Bool) (n : ℕ) (x y : A) {ts : Order} → eqb n 0 ≡ false → answer x ≡ n
    → Walks answer y ts → Walks answer (in_case b then x else y) ((b, n) ∷ ts)
unfolding in_case◌then◌else◌
asks true n x y {ts = ts} z p q = record { is = p ∙ sym (firsts.holds_first n ts (not_0 n z)) }
asks false n x y z p q = record { is = q.is }

-- where no test is left
done : {A : Type 0} {answer : A → ℕ} {a : A} → answer a ≡ 0 → Walks answer a []
done p = record { is = p }

-- the answer of a turn, and of a call
abbrev of_turn : Turn → ℕ
of_turn t = t.outcome.answer

abbrev of_call : After → ℕ
of_call a = a.outcome.answer

-- ---- of one entry

class_first : (own : Text) (e : Entry) (text : Text) (b : Body) → Walks of_turn (steps.receive own e text b) (by_class own e text b)
unfolding steps.receive steps.receive_ksm steps.judged steps.receive_rsm steps.receive_esm
class_first own e text (rsi m) = done refl
class_first own e text (ksm m) =
    asks (any (foreign e) (kds m)) 4 _ _ refl refl
    (asks (any (uneven own e m) (kds m)) 4 _ _ refl refl
    (asks (not (eqb (faults e (brought own e m) text m) 0)) 4 _ _ refl refl (done refl)))
class_first own e text (rsm m) =
    asks (not (is_waiting e.sending)) 5 _ _ refl refl (asks (bad_mac e.sending.outgoing text m.mac) 4 _ _ refl refl (done refl))
class_first own e text (esm m) = asks (not (is_waiting e.sending)) 5 _ _ refl refl (done refl)
class_first own e text (option c w) = record { is = refl }

key_message_first : (own : Text) (e : Entry) (room : ℕ) (q : Request)
    → Walks of_turn (building.build_ksm own e q) (by_act (build_ksm room q) e)
unfolding building.build_ksm
key_message_first own e room q =
    asks (is_waiting e.sending) 7 _ _ refl refl
    (asks (eqb e.sending.next limit) 8 _ _ refl refl
    (asks (any not_odd (used q)) 11 _ _ refl refl (asks (malformed q) 12 _ _ refl refl (done refl))))

service_first : (own : Text) (e : Entry) (room : ℕ) (contents : Text)
    → Walks of_turn (building.build_rsi own e contents) (by_act (build_rsi room contents) e)
unfolding building.build_rsi
service_first own e room contents =
    record { is = by_part (value svr contents) (λ p. rw (p, building.build_rsi)) (λ s p. rw (p, building.build_rsi)) }

act_first : (own : Text) (a : Act) (e : Entry) → Walks of_turn (acting own a e) (by_act a e)
unfolding building.give_up
act_first own (build_ksm room q) e = key_message_first own e room q
act_first own (build_rsi room contents) e = service_first own e room contents
act_first own give_up e = asks (not (is_waiting e.sending)) 5 _ _ refl refl (done refl)
act_first own remove e = done refl
act_first own ask e = done refl

-- ---- of a call

about_first : (t : Table) (id : Text) (turn : Entry → Turn) (rest : Entry → Order)
    → ((e : Entry) → Walks of_turn (turn e) (rest e)) → Walks of_call (at_partner t id turn) (at_entry (entry_of id t) rest)
unfolding at_partner
about_first t id turn rest h = record { is = by_part (entry_of id t) (λ p. rw p) (λ e p. rw p (h e).is) }

text_first : (t : Table) (text : Text) (o : Option Reading) → Walks of_call (receiving t text o) (of_text t text o)
unfolding receiving
text_first t text None = record { is = refl }
text_first t text (Some r) =
    asks (not (same r.rcv (bare t.own))) 2 _ _ refl refl
    (about_first t r.org (λ e. steps.receive (bare t.own) e text r.body) (λ e. by_class (bare t.own) e text r.body)
    (λ e. class_first (bare t.own) e text r.body))

load_first : (t : Table) (id name : Text) (top : Top)
    → Walks of_call (loading t id name top) (in_order t (load id name top))
unfolding loading
load_first t id name top =
    asks (bad_identity t id) 10 _ _ refl refl
    (asks (not (is_name name)) 12 _ _ refl refl
    (asks (not (odd_top top)) 11 _ _ refl refl
    (record { is = by_part (into_free_slot (loaded (name_of id) (name_of name) top) t.slots) (λ p. rw p) (λ m p. rw p) })))

perform_first : (t : Table) (c : Call) → Walks of_call (perform t c) (in_order t c)
unfolding perform
perform_first t (receive room text) = asks (short room) 6 _ _ refl refl (text_first t text (read text))
perform_first t (about id a) =
    asks (no_room a) 6 _ _ refl refl
    (about_first t id (acting (bare t.own) a) (by_act a) (act_first (bare t.own) a))
perform_first t (load id name top) = load_first t id name top

is_first : (t : Table) (c : Call) → (run t c).outcome.answer ≡ first (order t c)
unfolding run in_case◌then◌else◌
is_first t c =
    by_test (legal t) (λ p. rw p (perform_first t c).is)
    (λ p. rw p (sym (firsts.holds_first 13 (in_order t c) (not_0 13 refl))))

-- ---- each call's own answers

-- every number of the order that may be given is in the list, and none is 0
abbrev inside : List ℕ → Order → Bool
inside l [] = true
inside l ((b, n) ∷ ts) = (stands n l || not b) && (not (eqb n 0) && inside l ts)

inside_numbered : (l : List ℕ) (ts : Order) → inside l ts ≡ true → Numbered ts
inside_numbered l [] h = end
inside_numbered l ((b, n) ∷ ts) h =
    let i = and_true (not (eqb n 0)) _ (and_true (stands n l || not b) _ h).1 in
    more b n ts (not_0 n (not-true _ i.0)) (inside_numbered l ts i.1)

-- so what the order gives is 0 or in the list
inside_first : (l : List ℕ) (ts : Order) → stands 0 l ≡ true → inside l ts ≡ true → stands (first ts) l ≡ true
inside_first l [] z h = z
inside_first l ((false, n) ∷ ts) z h =
    inside_first l ts z (and_true (not (eqb n 0)) _ (and_true (stands n l || true) _ h).1).1
inside_first l ((true, n) ∷ ts) z h =
    let i = and_true (stands n l || false) _ h in
    rw (firsts.holds_first n ts (not_0 n (not-true _ (and_true (not (eqb n 0)) _ i.1).0)))
    (not_failing (stands n l) (λ p. true≢false (sym (rw p at i.0))))

inside_text : (t : Table) (room : ℕ) (text : Text) (o : Option Reading)
    → inside (answers (receive room text)) (of_text t text o) ≡ true
inside_text t room text None = refl
inside_text t room text (Some r) = go (entry_of r.org t) r.body
  where
    go : (o : Option Entry) (b : Body)
        → inside (answers (receive room text)) (at_entry o (λ e. by_class (bare t.own) e text b)) ≡ true
    go None b = refl
    go (Some e) (rsi m) = refl
    go (Some e) (ksm m) = refl
    go (Some e) (rsm m) = refl
    go (Some e) (esm m) = refl
    go (Some e) (option c w) = refl

-- 6 where it may be given, 3 always
inside_about : (a : Act) (o : Option Entry) → inside (act_answers a) ((no_room a, 6) ∷ at_entry o (by_act a)) ≡ true
inside_about (build_ksm room q) None = refl
inside_about (build_ksm room q) (Some e) = refl
inside_about (build_rsi room contents) None = refl
inside_about (build_rsi room contents) (Some e) = refl
inside_about give_up None = refl
inside_about give_up (Some e) = refl
inside_about remove None = refl
inside_about remove (Some e) = refl
inside_about ask None = refl
inside_about ask (Some e) = refl

inside_in : (t : Table) (c : Call) → inside (answers c) (in_order t c) ≡ true
inside_in t (receive room text) = inside_text t room text (read text)
inside_in t (about id a) = inside_about a (entry_of id t)
inside_in t (load id name top) = refl

-- 0 and 13 are every call's
pub has_0 : (c : Call) → (stands 0 (answers c) ≡ true) × (stands 13 (answers c) ≡ true)
has_0 (receive room text) = (refl, refl)
has_0 (about id (build_ksm room q)) = (refl, refl)
has_0 (about id (build_rsi room contents)) = (refl, refl)
has_0 (about id give_up) = (refl, refl)
has_0 (about id remove) = (refl, refl)
has_0 (about id ask) = (refl, refl)
has_0 (load id name top) = (refl, refl)

all_inside : (t : Table) (c : Call) → inside (answers c) (order t c) ≡ true
all_inside t c = rw (has_0 c).1 (inside_in t c)

numbered : (t : Table) (c : Call) → Numbered (order t c)
numbered t c = inside_numbered (answers c) (order t c) (all_inside t c)

-- ---- a call that is done

-- no test of the order holds
abbrev pub Passing : Order → Type 0
Passing [] = Unit {0}
Passing ((b, n) ∷ ts) = (b ≡ false) × Passing ts

passing : {ts : Order} → Numbered ts → first ts ≡ 0 → Passing ts
passing end p = tt
passing (more true n ts z h) p = absurd (z (sym (firsts.holds_first n ts z) ∙ p))
passing (more false n ts z h) p = (refl, passing h p)

pub done_passes : (t : Table) (c : Call) → (run t c).outcome.answer ≡ 0 → Passing (order t c)
done_passes t c z = passing (numbered t c) (sym (is_first t c) ∙ z)

pub orders : Orders
orders = record {
  answer_is_the_first = is_first;
  given_exactly = λ t c n p z. ((firsts.claims).exactly (order t c) n (numbered t c) z).0 (sym (is_first t c) ∙ p);
  given_where_it_holds = λ t c n z g. is_first t c ∙ ((firsts.claims).exactly (order t c) n (numbered t c) z).1 g;
  answers_are_the_papers = λ t c.
      rw (is_first t c) (inside_first (answers c) (order t c) (has_0 c).0 (all_inside t c));
}
