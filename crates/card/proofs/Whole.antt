-- Ask, load and remove on the table of an image: what each gives by the way of the call.
use Rattle.std.specs.Prelude.{Option, None, Some}
use mathlib.Core.Path.{◌≡◌, refl, sym, ap, ◌∙◌, subst}
use mathlib.Core.Bool.{true, false}
use mathlib.Core.List.{List, [], ◌∷◌}
use Prim.Native.Nat.{ℕ, ◌<◌}
use native.Mathlib.Omega.{arith}
use lib.Dec.{eqb}
use lib.ListN.{length, get_or, set}
use lib.Seq.{get_or-set_same}
use borrow.Author.Tests.{eqb-false, ne_eqb, not-false}
use Rattle.octets.specs.Text.{Text, is_name}
use Rattle.octets.specs.Part.{all_octets}
use Rattle.octets.proofs.Comparing.{both as and_true}
use Rattle.keying.specs.declared.Top.{Top}
use Rattle.keying.specs.Keys.{odd_top}
use Rattle.partner.specs.declared.Name.{Name}
use Rattle.partner.specs.declared.Entry.{Entry}
use Rattle.partner.specs.Entry.{empty, filled, name_of}
use Rattle.partner.specs.Record.{entry_bytes}
use Rattle.partner.specs.Changes.{loaded}
use Rattle.partner.specs.Held.{Held}
use Rattle.partner.specs.Legal as partner
use Rattle.partner.specs.Table.{Table, legal, is_empty, identities, differs, put, into_free_slot, holding}
use Rattle.image.specs.Image.{decode, encode, table_in}
use Rattle.image.specs.Results.{added_slot, removed_slot}
use Rattle.image.specs.Places.{slot_of, free_slot}
use Rattle.image.proofs.Entries.{legal_full, empty_is}
use Rattle.image.proofs.Images.{rules}
use Rattle.image.proofs.Numbered.{slot_held, slot_found, free_found, load_slot_is, remove_slot_is}
use Rattle.calls.specs.Outcome.{Outcome, Turn, nothing, refusal, success}
use Rattle.calls.specs.Calls.{Call, After, about, ask, remove, load, refuse, entry_of, after_turn, emptied, after_load, loading, perform, run}
use Rattle.calls.specs.Calls.{at_partner as at_partner_of}
use Rattle.partner.proofs.Claims as entries
use Rattle.calls.proofs.Tables.{entry_held}
use Rattle.calls.proofs.Refusals.{refusals}
use Rattle.calls.proofs.Tests.{by_case, if_true, if_false}
use Rattle.sight.specs.declared.aims.Act.TheVariants.{Remove, Ask, Load}
use Rattle.sight.specs.declared.aims.Aim.{Aim}
use Rattle.sight.specs.Aim.{identity, at_partner, at_free_slot, aim_of}
use Rattle.sight.specs.Asked.{call_of}
use Rattle.card.specs.Whole.{body_of, delivering}
use Rattle.card.specs.Ways.{ours, slot_named, theirs, sought, seen, place, turn_in}
use Rattle.card.proofs.Tables.{lawful_table}
use Rattle.card.proofs.Seeing.{identity_named, place_is}
use Rattle.card.proofs.Calling.{ends, table_is}
use Rattle.card.proofs.Delivering.{delivers}

-- what a call gives by the turn on its way: that turn's refusal, or a text
pub record Judged (o : Outcome) (r : Turn) (text : Text) : Type 0 where
  pub refused : (r.outcome.answer ≡ 0 → ⊥) → o ≡ r.outcome
  pub done : r.outcome.answer ≡ 0 → o ≡ success text nothing

-- both are refused alike
pub refused_alike : (o : Outcome) (r : Turn) (text : Text) (n : ℕ) → eqb n 0 ≡ false → o ≡ refusal n → r.outcome ≡ refusal n
    → Judged o r text
refused_alike o r text n z p q = record {
  refused = λ h. p ∙ sym q;
  done = λ h. absurd (eqb-false n 0 z (sym (ap (λ (x : Outcome). x.answer) q) ∙ h));
}

-- the same outcome is judged alike
pub judged_as : {o o' : Outcome} {r : Turn} {text : Text} → o ≡ o' → Judged o' r text → Judged o r text
judged_as {o} {o'} {r} {text} p j = subst (λ (x : Outcome). Judged x r text) (sym p) j

-- ---- where the table has it

module _ (image : Text) (d : decode image ≡ Some (table_in image)) where
  abbrev t : Table
  t = table_in image

  lawful : legal t ≡ true
  lawful = lawful_table image t d

  -- the partner by its identity
  abbrev them : Text → Aim
  them id = at_partner (ours image) id

  -- the slot where the partner's entry stands
  record InSlot (id : Text) (e : Entry) : Type 0 where
    within : (place (seen (them id) image)) < 64
    holds : get_or t.slots (place (seen (them id) image)) empty ≡ e
    full : is_empty e ≡ false
    puts : (x : Entry) → set t.slots (place (seen (them id) image)) x ≡ put (filled id) x t.slots

  their_slot : (id : Text) → is_name id ≡ true → sought (them id) image ≡ slot_of (filled id) image
  unfolding sought theirs
  their_slot id n = let i : identity id ≡ Some (name_of id) = rw n in ap (λ (o : Option Name). slot_named o image) i

  in_slot : (id : Text) (e : Entry) → entry_of id t ≡ Some e → InSlot id e
  in_slot id e q =
      let h = entry_held t id e q in
      let k = slot_found image t d (filled id) e ((entries.claims).filled_is_filled id h.name) h.found in
      let i : slot_of (filled id) image ≡ (place (seen (them id) image)) =
      sym (place_is image t d (them id) (identity_named id) ∙ their_slot id h.name) in
      record {
        within = subst (λ (n : ℕ). n < 64) i k.0;
        holds = ap (λ (n : ℕ). get_or t.slots n empty) (sym i) ∙ k.1;
        full = k.2;
        puts = λ x. ap (λ (n : ℕ). set t.slots n x) (sym i) ∙ k.3 x;
      }

  slots_64 : length t.slots ≡ 64
  slots_64 = (rules t lawful).slots_64

  -- ---- ask for an entry

  module _ (id : Text) (room : ℕ) where
    abbrev asked : Turn
    asked = turn_in (them id) image Ask [] room

    ask_run : (asked.outcome ≡ (run t (about id ask)).outcome)
        × (set t.slots (place (seen (them id) image)) asked.entry ≡ (run t (about id ask)).table.slots)
    unfolding call_of aim_of
    ask_run = ends Ask image id [] room d

    -- the entry is left, so it is the one that was found
    left_so : (e : Entry) → entry_of id t ≡ Some e → asked.entry ≡ e
    left_so e q =
        let i = in_slot id e q in
        let w = i.within in
        let n = slots_64 in
        sym (get_or-set_same t.slots (place (seen (them id) image)) asked.entry empty (omega arith))
        ∙ ap (λ (l : List Entry). get_or l (place (seen (them id) image)) empty)
        (ask_run.1 ∙ ap (λ (a : After). a.table.slots) (refusals.asked_is_found t id e lawful q))
        ∙ i.holds

    pub ask_judged : Judged (body_of (entry_of id t)) asked (entry_bytes asked.entry)
    ask_judged = go (entry_of id t) refl
      where
        go : (o : Option Entry) → entry_of id t ≡ o → Judged (body_of (entry_of id t)) asked (entry_bytes asked.entry)
        go None q =
            refused_alike _ asked _ 3 refl (ap body_of q)
            (ask_run.0 ∙ ap (λ (a : After). a.outcome) (refusals.nobody_to_show t id lawful q))
        go (Some e) q =
            let o : asked.outcome ≡ success [] nothing =
            ask_run.0 ∙ ap (λ (a : After). a.outcome) (refusals.asked_is_found t id e lawful q) in
            record {
              refused = λ h. absurd (h (ap (λ (x : Outcome). x.answer) o));
              done = λ h. ap body_of q ∙ ap (λ (x : Entry). success (entry_bytes x) nothing) (sym (left_so e q));
            }

    -- what is told of an image of octets fits its types
    pub asked_held : asked.outcome.answer ≡ 0 → all_octets image ≡ true → Held asked.entry
    unfolding table_in
    asked_held h o = go (entry_of id t) refl
      where
        go : (e : Option Entry) → entry_of id t ≡ e → Held asked.entry
        go None q =
            absurd (eqb-false 3 0 refl
            (sym (ap (λ (a : After). a.outcome.answer) (refusals.nobody_to_show t id lawful q))
            ∙ sym (ap (λ (x : Outcome). x.answer) ask_run.0) ∙ h))
        go (Some e) q = subst Held ((in_slot id e q).holds ∙ sym (left_so e q)) (slot_held image _ o)

  -- ---- what is delivered: with 0 the image of the table after the call

  delivered_judged : (c : Call) (r : Turn) → r.outcome ≡ (run t c).outcome
      → Judged (delivering (run t c)) r (encode (run t c).table)
  unfolding delivering
  delivered_judged c r o = record {
    refused = λ h.
        if_false (eqb (run t c).outcome.answer 0) _ _
        (ne_eqb (run t c).outcome.answer 0 (λ z. h (ap (λ (x : Outcome). x.answer) o ∙ z)))
        ∙ sym o;
    done = λ h. delivers (run t c) (sym (ap (λ (x : Outcome). x.answer) o) ∙ h);
  }

  -- ---- remove

  module _ (id : Text) (room : ℕ) where
    abbrev removing : Turn
    removing = turn_in (them id) image Remove [] room

    remove_run : (removing.outcome ≡ (run t (about id remove)).outcome)
        × (set t.slots (place (seen (them id) image)) removing.entry ≡ (run t (about id remove)).table.slots)
    unfolding call_of aim_of
    remove_run = ends Remove image id [] room d

    pub remove_judged : Judged (delivering (run t (about id remove))) removing (encode (run t (about id remove)).table)
    remove_judged =
        delivered_judged (about id remove) removing remove_run.0

    removed_table : (e : Entry) → entry_of id t ≡ Some e
        → holding t (put (filled id) empty t.slots) ≡ (run t (about id remove)).table
    unfolding run perform at_partner_of
    removed_table e q =
        sym (ap (λ (a : After). a.table)
        (if_true (legal t) _ _ lawful ∙ if_false false _ _ refl ∙ ap (after_turn t id emptied) q))

    pub remove_written : removing.outcome.answer ≡ 0
        → removed_slot (place (seen (them id) image)) image ≡ Some (encode (run t (about id remove)).table)
    remove_written h = go (entry_of id t) refl
      where
        go : (o : Option Entry) → entry_of id t ≡ o
            → removed_slot (place (seen (them id) image)) image ≡ Some (encode (run t (about id remove)).table)
        go None q =
            absurd (eqb-false 3 0 refl
            (sym (ap (λ (a : After). a.outcome.answer) (refusals.nobody_to_remove t id lawful q))
            ∙ sym (ap (λ (x : Outcome). x.answer) remove_run.0) ∙ h))
        go (Some e) q =
            let i = in_slot id e q in
            remove_slot_is image t d (place (seen (them id) image)) i.within (ap is_empty i.holds ∙ i.full)
            ∙ ap (λ (l : List Entry). Some (encode (holding t l))) (i.puts empty)
            ∙ ap (λ (u : Table). Some (encode u)) (removed_table e q)

  -- ---- load

  module _ (id name : Text) (top : Top) (room : ℕ) where
    abbrev spot : Aim
    spot = at_free_slot (ours image) id

    abbrev loading_turn : Turn
    loading_turn = turn_in spot image (Load top) name room

    load_run : (loading_turn.outcome ≡ (run t (load id name top)).outcome)
        × (set t.slots (place (seen spot image)) loading_turn.entry ≡ (run t (load id name top)).table.slots)
    unfolding call_of aim_of
    load_run = ends (Load top) image id name room d

    pub load_judged : Judged (delivering (run t (load id name top))) loading_turn (encode (run t (load id name top)).table)
    load_judged =
        delivered_judged (load id name top) loading_turn load_run.0

    abbrev new_entry : Entry
    new_entry = loaded (name_of id) (name_of name) top

    -- with 0 there was a place for the new entry, which is legal
    abbrev Placed : List Entry → Type 0
    Placed after =
        (m : List Entry) × (into_free_slot new_entry t.slots ≡ Some m) × (after ≡ m) × (partner.legal new_entry ≡ true)

    abbrev IfDone : After → Type 0
    IfDone a = a.outcome.answer ≡ 0 → Placed a.table.slots

    not_done : (n : ℕ) → eqb n 0 ≡ false → IfDone (refuse t n)
    not_done n z h = absurd (eqb-false n 0 z h)

    was_placed : is_name name ≡ true → odd_top top ≡ true → is_name id ≡ true → (o : Option (List Entry))
        → into_free_slot new_entry t.slots ≡ o → IfDone (after_load t o)
    was_placed n o i None q = not_done 9 refl
    was_placed n o i (Some m) q = λ h. (
      m,
      q,
      refl,
      (entries.claims).loaded_is_legal (name_of id) (name_of name) top ((entries.claims).filled_is_filled id i)
          ((entries.claims).filled_is_filled name n) o,
    )

    was_loaded : IfDone (run t (load id name top))
    unfolding run perform loading
    was_loaded =
        by_case IfDone _ _ _ (λ l.
        by_case IfDone _ _ _ (λ _. not_done 10 refl) λ i.
        by_case IfDone _ _ _ (λ _. not_done 12 refl) λ n.
        by_case IfDone _ _ _ (λ _. not_done 11 refl) λ o.
        was_placed (not-false _ n) (not-false _ o)
        (and_true (is_name id) (differs (filled id) (t.own ∷ identities t.slots)) (not-false _ i)).0
        (into_free_slot new_entry t.slots) refl) (λ l. not_done 13 refl)

    spot_at : (place (seen spot image)) ≡ free_slot image
    unfolding sought
    spot_at = place_is image t d spot (identity_named id)

    pub load_written : loading_turn.outcome.answer ≡ 0
        → added_slot (place (seen spot image)) loading_turn.entry image ≡ Some (encode (run t (load id name top)).table)
    unfolding call_of aim_of
    load_written h =
        let w = was_loaded (sym (ap (λ (x : Outcome). x.answer) load_run.0) ∙ h) in
        let f = free_found image t d new_entry w.0 w.1 in
        let k = f.0 in
        let n = slots_64 in
        let i = spot_at in
        let p : set t.slots (place (seen spot image)) loading_turn.entry ≡ set t.slots (place (seen spot image)) new_entry =
        load_run.1 ∙ w.2 ∙ sym (ap (λ (j : ℕ). set t.slots j new_entry) i ∙ f.2) in
        let e : loading_turn.entry ≡ new_entry =
        sym (get_or-set_same t.slots (place (seen spot image)) loading_turn.entry empty (omega arith))
        ∙ ap (λ (l : List Entry). get_or l (place (seen spot image)) empty) p
        ∙ get_or-set_same t.slots (place (seen spot image)) new_entry empty (omega arith) in
        load_slot_is image t d (place (seen spot image)) loading_turn.entry (omega arith)
        (ap (λ (j : ℕ). is_empty (get_or t.slots j empty)) i ∙ ap is_empty f.1 ∙ empty_is)
        (ap is_empty e ∙ legal_full new_entry w.3)
        ∙ ap (λ (u : Table). Some (encode u)) (table_is (Load top) image id name room d)
