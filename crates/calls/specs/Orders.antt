-- Each call's order of answers as data: its tests, each with its number (document 01, "Answers"). The answer is the
-- number of the first that holds, 0 where none does. Proved as `orders` in proofs/Orders.antt.
use Rattle.std.specs.Prelude.{◌≡◌, true, not, List, [], ◌∷◌, ℕ, eqb, Option, None, Some}
use Rattle.octets.specs.Text.{Text, same, is_name, stands}
use Rattle.octets.specs.Part.{bare, found}
use Rattle.octets.specs.First.{Order, first, Given}
use Rattle.keying.specs.Keys.{odd_top}
use Rattle.csm.specs.Format.{value}
use Rattle.csm.specs.Fields.{svr}
use Rattle.csm.specs.Message.{Body, rsi, ksm, rsm, esm, option, Reading, read}
use Rattle.partner.specs.declared.Entry.{Entry}
use Rattle.partner.specs.Entry.{limit, name_of}
use Rattle.partner.specs.Changes.{loaded}
use Rattle.partner.specs.Table.{Table, legal, into_free_slot}
use Rattle.calls.specs.Words.{any}
use Rattle.calls.specs.Receive.{foreign, uneven, kds, brought, faults, bad_mac, is_waiting}
use Rattle.calls.specs.Build.{used, not_odd, malformed}
use Rattle.calls.specs.Calls.{Act, build_ksm, build_rsi, give_up, remove, ask, Call, receive, about, load, entry_of}
use Rattle.calls.specs.Calls.{short, no_room, bad_identity, run}

-- ---- of one entry

-- a KSM: I, K, then F, M and P together; an RSM; an ESM; an option: O
abbrev pub by_class : Text → Entry → Text → Body → Order
by_class own e text (rsi m) = []
by_class own e text (ksm m) =
    (any (foreign e) (kds m), 4) ∷ (any (uneven own e m) (kds m), 4)
    ∷ (not (eqb (faults e (brought own e m) text m) 0), 4) ∷ []
by_class own e text (rsm m) = (not (is_waiting e.sending), 5) ∷ (bad_mac e.sending.outgoing text m.mac, 4) ∷ []
by_class own e text (esm m) = (not (is_waiting e.sending), 5) ∷ []
by_class own e text (option c w) = (true, 4) ∷ []

-- an act
abbrev pub by_act : Act → Entry → Order
by_act (build_ksm room q) e =
    (is_waiting e.sending, 7) ∷ (eqb e.sending.next limit, 8) ∷ (any not_odd (used q), 11) ∷ (malformed q, 12) ∷ []
by_act (build_rsi room contents) e = (not (found (value svr contents)), 12) ∷ []
by_act give_up e = (not (is_waiting e.sending), 5) ∷ []
by_act remove e = []
by_act ask e = []

-- ---- of a call

-- partner not in the table, then its entry's
abbrev pub at_entry : Option Entry → (Entry → Order) → Order
at_entry None rest = (true, 3) ∷ []
at_entry (Some e) rest = rest e

-- text not a message of this paper; RCV is not us; then its originator
abbrev pub of_text : Table → Text → Option Reading → Order
of_text t text None = (true, 1) ∷ []
of_text t text (Some r) =
    (not (same r.rcv (bare t.own)), 2) ∷ at_entry (entry_of r.org t) (λ e. by_class (bare t.own) e text r.body)

abbrev pub in_order : Table → Call → Order
in_order t (receive room text) = (short room, 6) ∷ of_text t text (read text)
in_order t (about id a) = (no_room a, 6) ∷ at_entry (entry_of id t) (by_act a)
in_order t (load id name top) =
    (bad_identity t id, 10) ∷ (not (is_name name), 12) ∷ (not (odd_top top), 11)
    ∷ (not (found (into_free_slot (loaded (name_of id) (name_of name) top) t.slots)), 9) ∷ []

-- any call that is lent a table tests 13 before all else
abbrev pub order : Table → Call → Order
order t c = (not (legal t), 13) ∷ in_order t c

-- each call's own answers
abbrev pub act_answers : Act → List ℕ
act_answers (build_ksm room q) = 0 ∷ 13 ∷ 6 ∷ 3 ∷ 7 ∷ 8 ∷ 11 ∷ 12 ∷ []
act_answers (build_rsi room contents) = 0 ∷ 13 ∷ 6 ∷ 3 ∷ 12 ∷ []
act_answers give_up = 0 ∷ 13 ∷ 3 ∷ 5 ∷ []
act_answers remove = 0 ∷ 13 ∷ 3 ∷ []
act_answers ask = 0 ∷ 13 ∷ 3 ∷ []

abbrev pub answers : Call → List ℕ
answers (receive room text) = 0 ∷ 13 ∷ 6 ∷ 1 ∷ 2 ∷ 3 ∷ 4 ∷ 5 ∷ []
answers (about id a) = act_answers a
answers (load id name top) = 0 ∷ 13 ∷ 10 ∷ 12 ∷ 11 ∷ 9 ∷ []

pub record Orders : Type 0 where
  -- the answer is the number of the first test that holds
  pub answer_is_the_first : (t : Table) (c : Call) → (run t c).outcome.answer ≡ first (order t c)
  -- so it is given exactly when its condition holds and none earlier in the call's order does
  pub given_exactly : (t : Table) (c : Call) (n : ℕ) → (run t c).outcome.answer ≡ n → (n ≡ 0 → ⊥)
      → Given (order t c) n
  pub given_where_it_holds : (t : Table) (c : Call) (n : ℕ) → (n ≡ 0 → ⊥) → Given (order t c) n
      → (run t c).outcome.answer ≡ n
  -- the answers are the paper's, each call's own
  pub answers_are_the_papers : (t : Table) (c : Call) → stands (run t c).outcome.answer (answers c) ≡ true
