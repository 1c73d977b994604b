-- An entry asked for over a row is the one that the row's table has.
use Rattle.std.specs.Prelude.{Option, None, Some}
use mathlib.Core.Path.{◌≡◌, refl, sym, ap, ◌∙◌}
use mathlib.Core.Bool.{Bool, true, false, cond, ◌&&◌}
use mathlib.Core.List.{List, [], ◌∷◌}
use Prim.Native.Nat.{ℕ, suc}
use Rattle.octets.specs.Text.{Text, same, is_name}
use Rattle.partner.specs.declared.Entry.{Entry}
use Rattle.partner.specs.Entry.{filled}
use Rattle.partner.specs.Table.{legal, find}
use Rattle.calls.specs.Words.{in_case◌then◌else◌}
use Rattle.calls.specs.Calls.{entry_of}
use Rattle.calls.proofs.Tests.{if_true, if_false}
use Rattle.sight.specs.declared.aims.Aim.{Aim}
use Rattle.sight.specs.declared.Sight.{Sight}
use Rattle.sight.specs.Aim.{at_partner}
use Rattle.sight.specs.Table.{table, row_legal}
use Rattle.sight.specs.Sight.{survey, shown_at, shown}
use Rattle.sight.proofs.Rows.{index, survey_legal, survey_found, survey_missed}
use Rattle.sight.proofs.Finding.{first_named, first_unnamed, index_named}
use Rattle.row.specs.Calls.{slot_of, not_shown, shown_of, asked}

-- the first slot of that identity is the partner's
index_slot : (id : Text) (slots : List Entry) → index (λ (e : Entry). same e.identity.bytes id) slots ≡ slot_of id slots
index_slot id [] = refl
index_slot id (e ∷ slots) = ap (λ (i : ℕ). cond (same e.identity.bytes id) 0 (suc i)) (index_slot id slots)

-- what is shown: 13, 3, or the slot
shown_13 : (s : Sight) → s.legal ≡ false → shown s ≡ not_shown 13
unfolding shown
shown_13 s l = rw l

shown_3 : (s : Sight) → s.legal ≡ true → s.slot ≡ None → shown s ≡ not_shown 3
unfolding shown
shown_3 s l h = rw (l, h)

shown_0 : (s : Sight) (at : ℕ) (e : Entry) → s.legal ≡ true → s.slot ≡ Some at → s.entry ≡ e → shown s ≡ shown_at 0 at e
unfolding shown
shown_0 s at e l h k = rw (l, h, k)

-- an entry asked for
pub asked_is : (own : Text) (slots : List Entry) (id : Text) → shown (survey (at_partner own id) slots) ≡ asked own slots id
unfolding asked row_legal
asked_is own slots id = by_table (is_name own && legal (table own slots)) refl
  where
    a : Aim
    a = at_partner own id

    s : Sight
    s = survey a slots

    seen : s.legal ≡ is_name own && legal (table own slots)
    seen = survey_legal a own slots refl refl

    by_entry : s.legal ≡ true → is_name id ≡ true → (o : Option Entry) → find (filled id) slots ≡ o
        → shown s ≡ shown_of (slot_of (filled id) slots) o
    by_entry l n None h = shown_3 s l (survey_missed a slots (first_named a id refl refl slots n ∙ h))
    by_entry l n (Some e) h =
        let k = survey_found a slots e (first_named a id refl refl slots n ∙ h) in
        shown_0 s _ e l k.0 k.1
        ∙ ap (λ (i : ℕ). shown_at 0 i e) (index_named a id refl refl slots n ∙ index_slot (filled id) slots)

    by_name : s.legal ≡ true → (b : Bool) → is_name id ≡ b
        → shown s ≡ shown_of (slot_of (filled id) slots) (entry_of id (table own slots))
    by_name l true n =
        by_entry l n (find (filled id) slots) refl ∙ ap (shown_of (slot_of (filled id) slots)) (sym (if_true (is_name id) _ _ n))
    by_name l false n =
        shown_3 s l (survey_missed a slots (first_unnamed a id refl refl slots n))
        ∙ ap (shown_of (slot_of (filled id) slots)) (sym (if_false (is_name id) _ _ n))

    by_table : (b : Bool) → is_name own && legal (table own slots) ≡ b
        → shown s
        ≡ (in_case is_name own && legal (table own slots) then shown_of (slot_of (filled id) slots) (entry_of id (table own slots)) else not_shown 13)
    by_table true l = by_name (seen ∙ l) (is_name id) refl ∙ sym (if_true _ _ _ l)
    by_table false l = shown_13 s (seen ∙ l) ∙ sym (if_false _ _ _ l)
