-- Over whatever has been seen of a legal table, a load ends as it does on that table.
use Rattle.std.specs.Prelude.{Option, None, Some, is_some}
use Rattle.std.specs.List.{find as first}
use mathlib.Core.Path.{◌≡◌, refl, sym, ap, ◌∙◌, subst}
use mathlib.Core.Bool.{Bool, true, false, not, cond, ◌&&◌, ◌||◌}
use mathlib.Core.List.{List, [], ◌∷◌}
use Prim.Native.Nat.{ℕ}
use native.Mathlib.Omega.{arith}
use lib.Dec.{ltb}
use Rattle.octets.specs.Text.{Text, same, is_name}
use Rattle.octets.specs.First as orders
use Rattle.keying.specs.declared.Top.{Top}
use Rattle.keying.specs.Keys.{odd_top}
use Rattle.partner.specs.declared.Name.{Name}
use Rattle.partner.specs.declared.Entry.{Entry}
use Rattle.partner.specs.Entry.{filled, name_of}
use Rattle.partner.specs.Changes.{loaded}
use Rattle.partner.proofs.Claims as entries
use Rattle.partner.specs.Table.{is_empty, identities, differs, into_free_slot}
use Rattle.calls.specs.Words.{in_case◌then◌else◌}
use Rattle.calls.specs.Outcome.{Turn}
use Rattle.calls.specs.Calls as every
use Rattle.calls.specs.Calls.{After, refuse}
use Rattle.calls.proofs.Tests.{if_true, if_false}
use Rattle.calls.proofs.Slots.{empty_nobody}
use Rattle.sight.specs.declared.aims.Act.TheVariants.{Load}
use Rattle.sight.specs.declared.aims.Act.{Act}
use Rattle.sight.specs.declared.aims.Aim.{Aim}
use Rattle.sight.specs.declared.Sight.{Sight}
use Rattle.sight.specs.declared.Glance.{Glance}
use Rattle.sight.specs.Aim.{identity, at_free_slot}
use Rattle.sight.specs.Sight.{is_theirs, is_sought, put_in}
use Rattle.sight.proofs.Finding.{is_of_name, none_free, one_free}
use Rattle.sight.proofs.Sees.{any_theirs, Sees}
use Rattle.turn.specs.Way.{is_own, load, unfit, loading, glance, refusal, turn, take}
use Rattle.turn.proofs.Acting.{way_turned}
use Rattle.turn.proofs.Answers.{gives_further, loads_10, loads_12, loads_11, loads_9, loads_0}
use Rattle.turn.proofs.Ends.{t, Ends, refuses}

-- ---- whether the identity is taken

module _ (own id : Text) (named : is_name id ≡ true) where
  -- an empty slot is nobody's
  theirs_differ : (slots : List Entry) → any_theirs (at_free_slot own id) slots ≡ not (differs (filled id) (identities slots))
  unfolding is_theirs
  theirs_differ [] = refl
  theirs_differ (e ∷ slots) =
      ap (λ (b : Bool). b || any_theirs (at_free_slot own id) slots) (is_of_name id e named)
      ∙ by_slot (is_empty e) refl (theirs_differ slots)
    where
      by_slot : (b : Bool) → is_empty e ≡ b → any_theirs (at_free_slot own id) slots ≡ not (differs (filled id) (identities slots))
          → same e.identity.bytes (filled id) || any_theirs (at_free_slot own id) slots
          ≡ not (differs (filled id) (cond b (identities slots) (e.identity.bytes ∷ identities slots)))
      by_slot true q ih =
          ap (λ (b : Bool). b || any_theirs (at_free_slot own id) slots) (empty_nobody e (filled id) q ((entries.claims).filled_is_filled id named)) ∙ ih
      by_slot false q ih =
          ap (λ (b : Bool). same e.identity.bytes (filled id) || b) ih
          ∙ both (same e.identity.bytes (filled id)) (differs (filled id) (identities slots))
        where
          both : (a b : Bool) → a || not b ≡ not (not a && b)
          both true b = refl
          both false b = refl

-- 10 exactly where the table gives it
unfit_is : (own id : Text) (slots : List Entry) (s : Sight) → s.taken ≡ any_theirs (at_free_slot own id) slots
    → unfit (at_free_slot own id) (glance s) ≡ not (is_name id && differs (filled id) (filled own ∷ identities slots))
unfolding unfit
unfit_is own id slots s k = by_name (is_name id) refl
  where
    either : (a b : Bool) → not b || a ≡ not (not a && b)
    either true true = refl
    either true false = refl
    either false true = refl
    either false false = refl

    by_name : (b : Bool) → is_name id ≡ b
        → not (is_some (identity id)) || (s.taken || is_own (name_of own) (identity id))
        ≡ not (is_name id && (not (same (filled own) (filled id)) && differs (filled id) (identities slots)))
    by_name true h =
        let i : identity id ≡ Some (name_of id) = rw h in
        ap (λ (x : Option Name). not (is_some x) || (s.taken || is_own (name_of own) x)) i
        ∙ ap (λ (b : Bool). b || same (filled own) (filled id)) (k ∙ theirs_differ own id h slots)
        ∙ either (same (filled own) (filled id)) (differs (filled id) (identities slots))
        ∙ sym (ap (λ (b : Bool). not (b && (not (same (filled own) (filled id)) && differs (filled id) (identities slots)))) h)
    by_name false h =
        let i : identity id ≡ None = rw h in
        ap (λ (x : Option Name). not (is_some x) || (s.taken || is_own (name_of own) x)) i
        ∙ sym (ap (λ (b : Bool). not (b && (not (same (filled own) (filled id)) && differs (filled id) (identities slots)))) h)

-- where it is not given, the identity is a name
fit_named : (own id : Text) (g : Glance) → unfit (at_free_slot own id) g ≡ false → identity id ≡ Some (name_of id)
unfolding unfit
fit_named own id g u = by_name (is_name id) refl u
  where
    by_name : (b : Bool) → is_name id ≡ b → not (is_some (identity id)) || (g.taken || is_own (name_of own) (identity id)) ≡ false
        → identity id ≡ Some (name_of id)
    by_name true h k = rw h
    by_name false h k = let i : identity id ≡ None = rw h in cc

-- ---- the load

module _ (own : Text) (slots : List Entry) (s : Sight) (id name : Text) (top : Top) (room : ℕ)
    (z : Sees own slots (at_free_slot own id) s) (l : s.legal ≡ true) (roomy : ltb room 0 ≡ false) where
  abbrev a : Aim
  a = at_free_slot own id

  abbrev asks : Act
  asks = Load top

  abbrev x : Entry
  x = loaded (name_of id) (name_of name) top

  abbrev Loads : After → Type 0
  Loads w = Ends own slots s (take own a s asks name room) w

  order : orders.first (loading a (glance s) (is_name name) (odd_top top)) ≡ refusal a s asks name room
  order = gives_further a s asks name room l roomy

  refused : (n : ℕ) → n ≡ orders.first (loading a (glance s) (is_name name) (odd_top top)) → (n ≡ 0 → ⊥) → Loads (refuse (t own slots) n)
  refused n e h = refuses own slots a s z asks name room n (e ∙ order) h

  module _ (u : unfit a (glance s) ≡ false) (n : is_name name ≡ true) (o : odd_top top ≡ true) where
    placed : (f : Option Entry) → first is_empty slots ≡ f → Loads (every.after_load (t own slots) (into_free_slot x slots))
    unfolding is_sought turn
    placed None h =
        subst (λ (p : Option (List Entry)). Loads (every.after_load (t own slots) p)) (sym (none_free x slots h))
        (refused 9 (loads_9 a (glance s) (is_name name) (odd_top top) u n o (rw (z.missed l h))) (λ z. absurd (omega arith)))
    placed (Some f) h =
        let k = z.found l f h in
        let d = way_turned own a s asks name room 0 (loads_0 a (glance s) (is_name name) (odd_top top) u n o k.0 ∙ order) refl
        ∙ ap (λ (i : Option Name). load i s.entry name top) (fit_named own id (glance s) u) in
        subst (λ (p : Option (List Entry)). Loads (every.after_load (t own slots) p)) (sym (one_free x slots f h))
        (ap (λ (r : Turn). r.outcome) d, ap (λ (r : Turn). put_in s.slot r.entry slots) d ∙ k.2 x)

  pub loads : Loads (every.loading (t own slots) id name top)
  unfolding every.loading
  loads = by_identity (unfit a (glance s)) refl
    where
      taken : unfit a (glance s) ≡ not (is_name id && differs (filled id) (filled own ∷ identities slots))
      taken = unfit_is own id slots s (z.taken l refl)

      by_key : unfit a (glance s) ≡ false → is_name name ≡ true → (b : Bool) → odd_top top ≡ b
          → Loads (in_case not (odd_top top) then refuse (t own slots) 11 else every.after_load (t own slots) (into_free_slot x slots))
      by_key u n true o = subst Loads (sym (if_false (not (odd_top top)) _ _ (ap not o))) (placed u n o (first is_empty slots) refl)
      by_key u n false o =
          subst Loads (sym (if_true (not (odd_top top)) _ _ (ap not o)))
          (refused 11 (loads_11 a (glance s) (is_name name) (odd_top top) u n o) (λ z. absurd (omega arith)))

      by_name : unfit a (glance s) ≡ false → (b : Bool) → is_name name ≡ b
          → Loads (in_case not (is_name name) then refuse (t own slots) 12 else
          in_case not (odd_top top) then refuse (t own slots) 11 else every.after_load (t own slots) (into_free_slot x slots))
      by_name u true n = subst Loads (sym (if_false (not (is_name name)) _ _ (ap not n))) (by_key u n (odd_top top) refl)
      by_name u false n =
          subst Loads (sym (if_true (not (is_name name)) _ _ (ap not n)))
          (refused 12 (loads_12 a (glance s) (is_name name) (odd_top top) u n) (λ z. absurd (omega arith)))

      by_identity : (b : Bool) → unfit a (glance s) ≡ b
          → Loads (in_case not (is_name id && differs (filled id) (filled own ∷ identities slots)) then refuse (t own slots) 10 else
          in_case not (is_name name) then refuse (t own slots) 12 else
          in_case not (odd_top top) then refuse (t own slots) 11 else every.after_load (t own slots) (into_free_slot x slots))
      by_identity true u =
          subst Loads (sym (if_true (not (is_name id && differs (filled id) (filled own ∷ identities slots))) _ _ (sym taken ∙ u)))
          (refused 10 (loads_10 a (glance s) (is_name name) (odd_top top) u) (λ z. absurd (omega arith)))
      by_identity false u =
          subst Loads (sym (if_false (not (is_name id && differs (filled id) (filled own ∷ identities slots))) _ _ (sym taken ∙ u)))
          (by_name u (is_name name) refl)
