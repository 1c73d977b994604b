-- What is seen of a row is what its table has: whether it is legal, and the first slot that is sought.
use Rattle.std.proofs.Common.{◌≡◌, refl, sym, ap, ◌∙◌, Bool, true, false, cond, not, ◌&&◌, ◌||◌, List, [], ◌∷◌, length, ℕ, suc, ◌+◌, arith, add-zero, zero-add}
use Rattle.std.proofs.Math.Bool.{and_assoc, and-true, and-false}
use Rattle.std.proofs.Math.ListN.{set}
use Rattle.std.specs.Prelude.{None, Some, eqb, is_some}
use Rattle.std.specs.List.{find as first}
use Rattle.octets.specs.Text.{Text, same, is_name}
use Rattle.partner.specs.declared.Entry.{Entry}
use Rattle.partner.specs.Entry.{filled}
use Rattle.partner.specs.Legal as partner
use Rattle.partner.proofs.Claims.{claims}
use Rattle.partner.specs.Table.{is_empty, slots_legal, identities, differs, apart, legal}
use Rattle.sight.specs.declared.aims.Aim.{Aim}
use Rattle.sight.specs.declared.Sight.{Sight}
use Rattle.sight.specs.Sight.{slot_legal, is_sought, sought_at, unseen, see, pass, concluded, survey}
use Rattle.sight.specs.Aim.{ours}
use Rattle.sight.specs.Table.{table, row_legal as whole_legal}

-- ---- legal

-- a slot's tests, sorted as the table has them
sorted : (d n q s o a : Bool) → (d && n && q) && (s && (o && a)) ≡ (q && s) && ((n && o) && (d && a))
sorted true true true s o a = refl
sorted true true false s o a = refl
sorted true false q s o a = sym (and-false (q && s))
sorted false n q s o a = sym (ap (λ (b : Bool). (q && s) && b) (and-false (n && o)) ∙ and-false (q && s))

module _ (a : Aim) where
  -- every slot as it must be, and every identity its own
  abbrev row_legal : List Entry → Bool
  row_legal slots = slots_legal slots && apart (a.own.bytes ∷ identities slots)

  one_more : (e : Entry) (slots : List Entry)
      → slot_legal a e (differs e.identity.bytes (identities slots)) && row_legal slots ≡ row_legal (e ∷ slots)
  unfolding slot_legal slots_legal
  one_more e slots = go (is_empty e)
    where
      go : (p : Bool)
          → (p || (differs e.identity.bytes (identities slots) && not (same e.identity.bytes a.own.bytes) && partner.legal e))
          && (slots_legal slots && (differs a.own.bytes (identities slots) && apart (identities slots)))
          ≡ ((p || partner.legal e) && slots_legal slots)
          && (differs a.own.bytes (cond p (identities slots) (e.identity.bytes ∷ identities slots))
          && apart (cond p (identities slots) (e.identity.bytes ∷ identities slots)))
      go true = refl
      go false =
          sorted (differs e.identity.bytes (identities slots)) (not (same e.identity.bytes a.own.bytes))
          (partner.legal e) (slots_legal slots) (differs a.own.bytes (identities slots)) (apart (identities slots))

  pass_legal : (s : Sight) (at : ℕ) (slots : List Entry) → (pass a s at slots).legal ≡ s.legal && row_legal slots
  unfolding pass slots_legal see
  pass_legal s at [] = sym (and-true s.legal)
  pass_legal s at (e ∷ slots) =
      let d : Bool = differs e.identity.bytes (identities slots) in
      pass_legal (see a s at e d) (at + 1) slots
      ∙ and_assoc s.legal (slot_legal a e d) (row_legal slots)
      ∙ ap (λ (b : Bool). s.legal && b) (one_more e slots)

-- the row is legal exactly where its table is and our identity is a name
pub survey_legal : (a : Aim) (own : Text) (slots : List Entry) → a.own.bytes ≡ filled own → a.ours ≡ is_name own
    → (survey a slots).legal ≡ is_name own && legal (table own slots)
unfolding survey concluded legal
survey_legal a own slots o u =
    ap (λ (b : Bool). (b && eqb (length slots) 64) && a.ours) (pass_legal a unseen 0 slots)
    ∙ ap (λ (b : Bool). (row_legal a slots && eqb (length slots) 64) && b) u
    ∙ ap (λ (w : Text). ((slots_legal slots && apart (w ∷ identities slots)) && eqb (length slots) 64) && is_name own) o
    ∙ go (is_name own) refl
  where
    table_legal : (e f s p : Bool) → f ≡ true → ((s && p) && e) && true ≡ e && f && s && p
    table_legal true f true true h = rw h
    table_legal true f true false h = rw h
    table_legal true f false p h = rw h
    table_legal false f true true h = refl
    table_legal false f true false h = refl
    table_legal false f false p h = refl

    go : (b : Bool) → is_name own ≡ b
        → ((slots_legal slots && apart (filled own ∷ identities slots)) && eqb (length slots) 64) && b
        ≡ b && (eqb (length slots) 64 && partner.is_filled (filled own) && slots_legal slots && apart (filled own ∷ identities slots))
    go true h =
        table_legal (eqb (length slots) 64) (partner.is_filled (filled own)) (slots_legal slots)
        (apart (filled own ∷ identities slots)) (claims.filled_is_filled own h)
    go false h = and-false ((slots_legal slots && apart (filled own ∷ identities slots)) && eqb (length slots) 64)

-- ---- the first slot of which a test holds

-- it given new contents
abbrev pub putting : (Entry → Bool) → Entry → List Entry → List Entry
putting f x [] = []
putting f x (e ∷ slots) = cond (f e) (x ∷ slots) (e ∷ putting f x slots)

-- its number; past the end where there is none
abbrev pub index : (Entry → Bool) → List Entry → ℕ
index f [] = 0
index f (e ∷ slots) = cond (f e) 0 (suc (index f slots))

-- new contents go where it is
puts : (f : Entry → Bool) (x : Entry) (slots : List Entry) → is_some (first f slots) ≡ true
    → set slots (index f slots) x ≡ putting f x slots
puts f x [] h = cc
puts f x (e ∷ slots) h = go (f e) h (puts f x slots)
  where
    go : (b : Bool) → is_some (cond b (Some e) (first f slots)) ≡ true
        → (is_some (first f slots) ≡ true → set slots (index f slots) x ≡ putting f x slots)
        → set (e ∷ slots) (cond b 0 (suc (index f slots))) x ≡ cond b (x ∷ slots) (e ∷ putting f x slots)
    go true h ih = refl
    go false h ih = ap (λ (l : List Entry). e ∷ l) (ih h)

-- put back as it was
pub putting_first : (f : Entry → Bool) (l : List Entry) (e : Entry) → first f l ≡ Some e → putting f e l ≡ l
putting_first f [] e h = refl
putting_first f (x ∷ l) e h = go (f x) h (putting_first f l e)
  where
    go : (b : Bool) → cond b (Some x) (first f l) ≡ Some e → (first f l ≡ Some e → putting f e l ≡ l)
        → cond b (e ∷ l) (x ∷ putting f e l) ≡ x ∷ l
    go true h ih = let k : x ≡ e = cc in rw k
    go false h ih = ap (λ (m : List Entry). x ∷ m) (ih h)

-- ---- the first slot that is sought

further : (at i : ℕ) → (at + 1) + i ≡ at + suc i
further at i = omega arith

module _ (a : Aim) where
  -- found before, it stays
  stays : (s : Sight) (at : ℕ) (slots : List Entry) (p : ℕ) → s.slot ≡ Some p
      → ((pass a s at slots).slot ≡ Some p) × ((pass a s at slots).entry ≡ s.entry)
  unfolding pass see
  stays s at [] p h = (h, refl)
  stays s at (e ∷ slots) p h =
      let k = stays (see a s at e (differs e.identity.bytes (identities slots))) (at + 1) slots p (rw h) in
      (k.0, k.1 ∙ rw h)

  -- not found before: where it is this one
  here : (s : Sight) (at : ℕ) (e : Entry) (d : Bool) → s.slot ≡ None
      → ((see a s at e d).slot ≡ sought_at a at e) × ((see a s at e d).entry ≡ cond (is_sought a e) e s.entry)
  unfolding see
  here s at e d n = (rw n, rw n)

  -- the first is found
  hits : (s : Sight) (at : ℕ) (slots : List Entry) (e : Entry) → s.slot ≡ None → first (is_sought a) slots ≡ Some e
      → ((pass a s at slots).slot ≡ Some (at + index (is_sought a) slots)) × ((pass a s at slots).entry ≡ e)
  unfolding pass
  hits s at [] e n h = cc
  hits s at (f ∷ slots) e n h =
      go (is_sought a f) refl h (here s at f (differs f.identity.bytes (identities slots)) n)
      (hits (see a s at f (differs f.identity.bytes (identities slots))) (at + 1) slots e)
    where
      then_seen : Sight
      then_seen = see a s at f (differs f.identity.bytes (identities slots))

      after : Sight
      after = pass a then_seen (at + 1) slots

      go : (b : Bool) → is_sought a f ≡ b → cond b (Some f) (first (is_sought a) slots) ≡ Some e
          → (then_seen.slot ≡ sought_at a at f) × (then_seen.entry ≡ cond (is_sought a f) f s.entry)
          → (then_seen.slot ≡ None → first (is_sought a) slots ≡ Some e
          → (after.slot ≡ Some ((at + 1) + index (is_sought a) slots)) × (after.entry ≡ e))
          → (after.slot ≡ Some (at + cond (is_sought a f) 0 (suc (index (is_sought a) slots)))) × (after.entry ≡ e)
      go true q h k ih =
          let p : f ≡ e = cc in
          let y = stays then_seen (at + 1) slots at (k.0 ∙ rw q) in
          (y.0 ∙ rw (q, add-zero), y.1 ∙ k.1 ∙ rw (q, p))
      go false q h k ih =
          let y = ih (k.0 ∙ rw q) h in
          (y.0 ∙ rw (q, further at (index (is_sought a) slots)), y.1)

  -- none is found
  misses : (s : Sight) (at : ℕ) (slots : List Entry) → s.slot ≡ None → first (is_sought a) slots ≡ None
      → (pass a s at slots).slot ≡ None
  unfolding pass
  misses s at [] n h = n
  misses s at (f ∷ slots) n h =
      go (is_sought a f) refl h (here s at f (differs f.identity.bytes (identities slots)) n).0
      (misses (see a s at f (differs f.identity.bytes (identities slots))) (at + 1) slots)
    where
      then_seen : Sight
      then_seen = see a s at f (differs f.identity.bytes (identities slots))

      go : (b : Bool) → is_sought a f ≡ b → cond b (Some f) (first (is_sought a) slots) ≡ None
          → then_seen.slot ≡ sought_at a at f
          → (then_seen.slot ≡ None → first (is_sought a) slots ≡ None → (pass a then_seen (at + 1) slots).slot ≡ None)
          → (pass a then_seen (at + 1) slots).slot ≡ None
      go true q h k ih = cc
      go false q h k ih = ih (k ∙ rw q) h

-- ---- the whole row

module _ (a : Aim) (slots : List Entry) where
  -- found: its place and its entry
  pub survey_found : (e : Entry) → first (is_sought a) slots ≡ Some e
      → ((survey a slots).slot ≡ Some (index (is_sought a) slots)) × ((survey a slots).entry ≡ e)
  unfolding survey concluded
  survey_found e h =
      let k = hits a unseen 0 slots e refl h in
      (k.0 ∙ ap (λ (i : ℕ). Some i) (zero-add (index (is_sought a) slots)), k.1)

  -- new contents go there
  pub survey_puts : (e x : Entry) → first (is_sought a) slots ≡ Some e
      → set slots (index (is_sought a) slots) x ≡ putting (is_sought a) x slots
  survey_puts e x h = puts (is_sought a) x slots (rw h)

  -- not found
  pub survey_missed : first (is_sought a) slots ≡ None → (survey a slots).slot ≡ None
  unfolding survey concluded
  survey_missed h = misses a unseen 0 slots refl h

-- legal as the paper has it
pub legal_is : (own : Text) (slots : List Entry) (a : Aim) → a ≡ ours own → (s : Sight) → s ≡ survey a slots
    → (r : Bool) → r ≡ s.legal → r ≡ whole_legal own slots
unfolding whole_legal
legal_is own slots a ea s es r er =
    er ∙ ap (λ (x : Sight). x.legal) es ∙ ap (λ (x : Aim). (survey x slots).legal) ea
    ∙ survey_legal (ours own) own slots refl refl
