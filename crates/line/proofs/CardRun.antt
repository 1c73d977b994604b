-- Every call of a card is local to one partner's entry.
use Rattle.std.specs.Prelude.{None, Some}
use mathlib.Core.Path.{◌≡◌, refl, ◌∙◌, subst}
use mathlib.Core.Bool.{true, not}
use mathlib.Core.List.{List, [], ◌∷◌}
use lib.Dec.{eqb}
use Rattle.octets.specs.Text.{Text, same, is_name}
use Rattle.octets.specs.Part.{bare}
use Rattle.octets.proofs.Comparing.{same_equal, same_differs, differs_same, both as and_true, same_self as same_refl}
use Rattle.keying.specs.declared.Top.{Top}
use Rattle.csm.proofs.MessageLaws.{read_back, legal_parts}
use Rattle.partner.specs.declared.Entry.{Entry}
use Rattle.partner.specs.Entry.{empty, filled, name_of}
use Rattle.partner.specs.Changes.{loaded}
use Rattle.partner.specs.Table.{Table, identities, differs, put, into_free_slot}
use Rattle.calls.specs.Words.{in_case◌then◌else◌}
use Rattle.calls.specs.Receive as by_class
use Rattle.calls.specs.Calls.{build_ksm, build_rsi, give_up, remove, ask, Call, receive, about, After}
use Rattle.partner.specs.Table.{holding}
use Rattle.calls.specs.Calls.{entry_of, run}
use Rattle.calls.specs.Claims.{Slotwise}
use Rattle.calls.proofs.Tests.{by_test}
use Rattle.calls.proofs.Effects.{Walk, stops, receives, acts, places, run_walk}
use Rattle.partner.proofs.Naming.{filled_filled}
use Rattle.calls.proofs.Slots.{row_empty}
use Rattle.calls.proofs.Identities.{find_none, place_places, row_place}
use Rattle.calls.proofs.Tables.{entry_held}
use Rattle.line.specs.Line.{◌∈◌, count_from, counted, Allowed}
use Rattle.line.proofs.CardSlots.{find_placed, entry_named}
use Rattle.line.proofs.CardTurn.{counts, silent, unsaid}
use Rattle.line.proofs.CardTurn.{receive_event, build_ksm_event, build_rsi_event, give_up_event}
use Rattle.line.proofs.CardCall.{Local, elsewhere, loads, idle, us_named, other_stays}
use Rattle.line.proofs.CardCall.{entry_local}

-- a partner that was loaded was not there, and is there as loading makes it
pub record Loads (id key_name : Text) (key : Top) (t : Table) (m : List Entry) : Type 0 where
  pub absent : entry_of id t ≡ None
  pub present : entry_of id (holding t m) ≡ Some (loaded (name_of id) (name_of key_name) key)
  pub others : Slotwise (filled id) t.slots m

pub loads_one : (id key_name : Text) (key : Top) (t : Table) (m : List Entry) → is_name id ≡ true
    → differs (filled id) (t.own ∷ identities t.slots) ≡ true
    → into_free_slot (loaded (name_of id) (name_of key_name) key) t.slots ≡ Some m → Loads id key_name key t m
unfolding loaded
loads_one id key_name key t m named free h =
    let others = (and_true (not (same t.own (filled id))) (differs (filled id) (identities t.slots)) free).1 in
    let none_there = find_none (filled id) (filled_filled id named) t.slots others in
    let places = place_places (loaded (name_of id) (name_of key_name) key) t.slots m h in
    record {
      absent = entry_named id t named ∙ none_there;
      present = entry_named id (holding t m) named
          ∙ find_placed (loaded (name_of id) (name_of key_name) key) places none_there;
      others = row_place (loaded (name_of id) (name_of key_name) key) places;
    }

module _ (name : Text) (top : Top) (us other : Text) (l : List Text) (t : Table) where
  -- what a call about the entry may say of its result
  abbrev Fits : Call → After → Type 0
  Fits c y = Local name top us other l t y (counted other c y.outcome.answer)

  -- what is asked of a call with this result
  abbrev Asked : Call → After → Type 0
  Asked c y = Allowed name top other l c y.outcome.answer

  -- any call of a card with this identity, by its way
  local : {c : Call} {y : After} → bare t.own ≡ us → Walk t c y → Asked c y → Fits c y
  unfolding Allowed counted count_from in_case◌then◌else◌
  local ours (stops c n k) may = idle name top us other l t c n k
  local ours (receives room text r e fine q u k) may =
      let x = by_class.receive (bare t.own) e text r.body in
      entry_local name top us other l t ours fine (receive room text) r.org e x (counts r.body x) k
      (λ lawful them.
      rw ours
      (receive_event us e (λ u. r.org ≡ other → u ∈ l) (us_named name top us other l t ours fine) lawful text
      (may r q) r.body (rw (them, ← u ∙ ours) q) (legal_parts r (read_back text r q).0).body))
      (λ io. rw (q, io, same_refl other))
      (λ away. rw (q, differs_same r.org other away) (by_test (eqb x.outcome.answer 0) (λ p. rw p) (λ p. rw p)))
  local ours (acts id (build_ksm room q) e fine k) may =
      entry_local name top us other l t ours fine (about id (build_ksm room q)) id e _ [] k
      (λ lawful them. rw ours (build_ksm_event us e _ (us_named name top us other l t ours fine) lawful q may))
      (λ io. refl) (λ away. refl)
  local ours (acts id (build_rsi room s) e fine k) may =
      entry_local name top us other l t ours fine (about id (build_rsi room s)) id e _ [] k
      (λ lawful them. rw ours (build_rsi_event us e _ (us_named name top us other l t ours fine) lawful s))
      (λ io. refl) (λ away. refl)
  local ours (acts id give_up e fine k) may =
      entry_local name top us other l t ours fine (about id give_up) id e _ [] k
      (λ lawful them. give_up_event us e _ (us_named name top us other l t ours fine) lawful)
      (λ io. refl) (λ away. refl)
  local ours (acts id remove e fine k) may =
      elsewhere (other_stays name top us other l t ours fine id (put (filled id) empty t.slots) (entry_held t id e k).name
      (may refl) (row_empty (filled id) t.slots))
      (λ x i. unsaid [] x refl i) refl
  local ours (acts id ask e fine k) may =
      entry_local name top us other l t ours fine (about id ask) id e _ [] k (λ lawful them. silent _ refl)
      (λ io. refl) (λ away. refl)
  local ours (places id key_name key m fine named free _ _ h) may =
      let f = loads_one id key_name key t m named free h in
      by_test (same id other)
      (λ q.
      let io : id ≡ other = same_equal id other q in
      let k = may refl io in
      loads (subst (λ (w : Text). entry_of w t ≡ None) io f.absent)
      (rw (k.0, k.1, io) at f.present) refl refl)
      (λ q.
      elsewhere (other_stays name top us other l t ours fine id m named (same_differs id other q) f.others)
      (λ x i. unsaid [] x refl i) refl)

  pub run_local : (c : Call) → bare t.own ≡ us → Asked c (run t c) → Fits c (run t c)
  run_local c ours = local ours (run_walk t c)
