-- What a look-up must have seen, however it looks: over it every call goes one way. One pass over a row has seen it.
use Rattle.std.proofs.Common.{◌≡◌, refl, sym, ap, ◌∙◌, Bool, true, false, not, cond, ◌&&◌, ◌||◌, List, [], ◌∷◌, ℕ, ◌+◌}
use Rattle.std.proofs.Math.Bool.{or-false, or_assoc}
use Rattle.std.specs.Prelude.{Option, None, Some, is_some}
use Rattle.std.specs.List.{find as first, list_any}
use Rattle.octets.specs.Text.{Text, same, is_name}
use Rattle.csm.specs.Message.{Reading, read}
use Rattle.partner.specs.declared.Entry.{Entry}
use Rattle.partner.specs.Entry.{filled}
use Rattle.partner.specs.Table as tables
use Rattle.partner.specs.Table.{identities, differs}
use Rattle.sight.specs.declared.aims.Act.{Act}
use Rattle.sight.specs.declared.aims.Act.TheVariants.{Receive, BuildKsm, BuildRsi, GiveUp, Remove, Ask, Load}
use Rattle.sight.specs.declared.aims.Aim.{Aim}
use Rattle.sight.specs.declared.Sight.{Sight}
use Rattle.sight.specs.Aim.{at_partner, refused, of_reading, aim_of}
use Rattle.sight.specs.Sight.{is_theirs, is_sought, unseen, see, pass, concluded, survey, put_in}
use Rattle.sight.specs.Table.{table}
use Rattle.sight.proofs.Rows.{putting, putting_first, survey_legal, survey_found, survey_puts, survey_missed}

-- one of the slots is the partner's
abbrev pub any_theirs : Aim → List Entry → Bool
any_theirs a slots = list_any (is_theirs a) slots

-- whether the table is legal; where it is, the first slot that is sought, and for a free slot whether the partner has one;
-- where it is not, nothing is put anywhere
pub record Sees (own : Text) (slots : List Entry) (a : Aim) (s : Sight) : Type 0 where
  pub legal : s.legal ≡ is_name own && tables.legal (table own slots)
  pub found : s.legal ≡ true → (e : Entry) → first (is_sought a) slots ≡ Some e
      → (is_some s.slot ≡ true) × (s.entry ≡ e) × ((x : Entry) → put_in s.slot x slots ≡ putting (is_sought a) x slots)
  pub missed : s.legal ≡ true → first (is_sought a) slots ≡ None → s.slot ≡ None
  pub taken : s.legal ≡ true → a.vacant ≡ true → s.taken ≡ any_theirs a slots
  pub kept : s.legal ≡ false → put_in s.slot s.entry slots ≡ slots

-- what was seen, put back, changes nothing
pub keeps : {own : Text} {slots : List Entry} {a : Aim} {s : Sight} → Sees own slots a s → put_in s.slot s.entry slots ≡ slots
keeps {own} {slots} {a} {s} z = by_legal s.legal refl
  where
    by_first : s.legal ≡ true → (o : Option Entry) → first (is_sought a) slots ≡ o → put_in s.slot s.entry slots ≡ slots
    by_first l None h = rw (z.missed l h)
    by_first l (Some e) h =
        let k = z.found l e h in
        k.2 s.entry ∙ ap (λ (x : Entry). putting (is_sought a) x slots) k.1 ∙ putting_first (is_sought a) slots e h

    by_legal : (b : Bool) → s.legal ≡ b → put_in s.slot s.entry slots ≡ slots
    by_legal true l = by_first l (first (is_sought a) slots) refl
    by_legal false l = z.kept l

-- ---- one pass

module _ (a : Aim) where
  pass_taken : (s : Sight) (at : ℕ) (slots : List Entry) → (pass a s at slots).taken ≡ s.taken || any_theirs a slots
  unfolding pass see
  pass_taken s at [] = sym (or-false s.taken)
  pass_taken s at (e ∷ slots) =
      pass_taken (see a s at e (differs e.identity.bytes (identities slots))) (at + 1) slots
      ∙ or_assoc s.taken (is_theirs a e) (any_theirs a slots)

  survey_taken : (slots : List Entry) → (survey a slots).taken ≡ any_theirs a slots
  unfolding survey concluded
  survey_taken slots = pass_taken unseen 0 slots

  -- found: the slot
  hit : (slots : List Entry) (e : Entry) → first (is_sought a) slots ≡ Some e
      → (is_some (survey a slots).slot ≡ true) × ((survey a slots).entry ≡ e)
      × ((x : Entry) → put_in (survey a slots).slot x slots ≡ putting (is_sought a) x slots)
  hit slots e h =
      let k = survey_found a slots e h in
      (rw k.0, k.1, λ x. ap (λ (o : Option ℕ). put_in o x slots) k.0 ∙ survey_puts a slots e x h)

  survey_keeps : (slots : List Entry) → put_in (survey a slots).slot (survey a slots).entry slots ≡ slots
  survey_keeps slots = go (first (is_sought a) slots) refl
    where
      go : (o : Option Entry) → first (is_sought a) slots ≡ o → put_in (survey a slots).slot (survey a slots).entry slots ≡ slots
      go None h = rw (survey_missed a slots h)
      go (Some e) h =
          let k = hit slots e h in
          k.2 (survey a slots).entry ∙ ap (λ (x : Entry). putting (is_sought a) x slots) k.1 ∙ putting_first (is_sought a) slots e h

pub sees_survey : (own : Text) (slots : List Entry) (a : Aim) → a.own.bytes ≡ filled own → a.ours ≡ is_name own
    → Sees own slots a (survey a slots)
sees_survey own slots a o u = record {
  legal = survey_legal a own slots o u;
  found = λ l. hit a slots;
  missed = λ l. survey_missed a slots;
  taken = λ l v. survey_taken a slots;
  kept = λ l. survey_keeps a slots;
}

-- ---- of every call

-- whoever the partner is, our identity is ours
reading_ours : (own : Text) (o : Option Reading) → ((of_reading own o).own.bytes ≡ filled own) × ((of_reading own o).ours ≡ is_name own)
unfolding of_reading
reading_ours own None = (refl, refl)
reading_ours own (Some r) = go (not (same r.rcv own))
  where
    go : (b : Bool) → ((cond b (refused own 2) (at_partner own r.org)).own.bytes ≡ filled own)
        × ((cond b (refused own 2) (at_partner own r.org)).ours ≡ is_name own)
    go true = (refl, refl)
    go false = (refl, refl)

act_ours : (x : Act) (own who text : Text) → ((aim_of x own who text).own.bytes ≡ filled own) × ((aim_of x own who text).ours ≡ is_name own)
unfolding aim_of
act_ours Receive own who text = reading_ours own (read text)
act_ours BuildKsm own who text = (refl, refl)
act_ours BuildRsi own who text = (refl, refl)
act_ours GiveUp own who text = (refl, refl)
act_ours Remove own who text = (refl, refl)
act_ours Ask own who text = (refl, refl)
act_ours (Load top) own who text = (refl, refl)

pub sees_asked : (own : Text) (slots : List Entry) (q : Act) (who text : Text)
    → Sees own slots (aim_of q own who text) (survey (aim_of q own who text) slots)
sees_asked own slots q who text =
    let k = act_ours q own who text in
    sees_survey own slots (aim_of q own who text) k.0 k.1
