-- What follows of every call from what it can do to a table.
use Rattle.std.specs.Prelude.{Some}
use mathlib.Core.Path.{◌≡◌, refl, sym, ap, ◌∙◌, subst}
use mathlib.Core.Bool.{true, false, not}
use mathlib.Core.List.{List, ◌∷◌}
use Prim.Native.Nat.{◌≤◌}
use native.Mathlib.Omega.{arith}
use borrow.Author.Tests.{eqb-false, not-true}
use Rattle.octets.specs.Text.{Text, same}
use Rattle.octets.specs.Part.{bare}
use Rattle.octets.proofs.Comparing.{both as and_true}
use Rattle.csm.proofs.TextLaws.{some_inj, none_some}
use Rattle.partner.specs.declared.Name.{Name}
use Rattle.partner.specs.declared.Entry.{Entry}
use Rattle.partner.specs.Entry.{empty, filled}
use Rattle.partner.proofs.Claims.{claims}
use Rattle.partner.specs.Table.{Table, legal, slots_legal, identities, differs, apart, put}
use Rattle.calls.specs.Outcome.{Turn, refusal}
use Rattle.calls.specs.Calls.{After, entry_of}
use Rattle.partner.specs.Table.{holding}
use Rattle.calls.specs.Claims.{Slotwise, Complains}
use Rattle.calls.proofs.Tests.{and_join}
use Rattle.calls.proofs.Turns.{refusing_not_0, refusing_not_4}
use Rattle.calls.proofs.Turns.{Does, does_change, does_keep, does_bare, does_reply}
use Rattle.calls.proofs.Turns.{does_complain, change_legal, change_identity, change_counts}
use Rattle.calls.proofs.Slots.{put_found, row_same, row_put, row_empty, row_length, legal_put}
use Rattle.calls.proofs.Slots.{legal_full, legal_slot, empty_slot}
use Rattle.calls.proofs.Identities.{identities_put, differs_emptied, apart_emptied, find_none}
use Rattle.calls.proofs.Identities.{row_place, legal_place, differs_place, apart_place, flip}
use Rattle.calls.proofs.Tables.{Legal, legal_parts, legal_whole, own_name, Held, entry_held}
use Rattle.calls.proofs.Tables.{held_legal, turned_after, emptied_after}
use Rattle.calls.proofs.Effects.{Effect, refuses, turns, loads, empties}

module _ (t : Table) (id : Text) (R : Text → Type 0) where
  pub keeps : (a : After) → Effect t id R a → (a.outcome.answer ≡ 0 → ⊥) → a.table ≡ t
  keeps a (refuses n k) h = refl
  keeps a (turns e r l q d) h =
      ap (λ (f : Entry). holding t (put (filled id) f t.slots)) (does_keep r d h)
      ∙ ap (λ (s : List Entry). holding t s) (put_found (filled id) t.slots e q.found)
  keeps a (loads e m l p i g n r) h = absurd (h refl)
  keeps a (empties e l q r) h = absurd (h refl)

  pub bares : (a : After) → Effect t id R a → (a.outcome.answer ≡ 0 → ⊥) → (a.outcome.answer ≡ 4 → ⊥)
      → a.outcome ≡ refusal a.outcome.answer
  bares a (refuses n k) h g = refl
  bares a (turns e r l q d) h g = does_bare r d h g
  bares a (loads e m l p i g n r) h k = absurd (h refl)
  bares a (empties e l q r) h g = absurd (h refl)

  pub complains : (a : After) → Effect t id R a → a.outcome.answer ≡ 4
      → Complains (bare t.own) id a.outcome
  complains a (refuses n k) h = absurd (refusing_not_4 n k h)
  complains a (turns e r l q d) h =
      subst (λ (n : Text). Complains (bare t.own) n r.outcome) q.bare_identity
      (does_complain r (own_name t l) (held_legal t id e l q) d h)
  complains a (loads e m l p i g n r) h = absurd (eqb-false 0 4 refl h)
  complains a (empties e l q r) h = absurd (eqb-false 0 4 refl h)

  pub writes : (a : After) → Effect t id R a → a.outcome.answer ≡ 0 → R a.outcome.reply
  writes a (refuses n k) h = absurd (refusing_not_0 n k h)
  writes a (turns e r l q d) h = does_reply r d h
  writes a (loads e m l p i g n r) h = r
  writes a (empties e l q r) h = r

  pub owns : (a : After) → Effect t id R a → a.table.own ≡ t.own
  owns a (refuses n k) = refl
  owns a (turns e r l q d) = refl
  owns a (loads e m l p i g n r) = refl
  owns a (empties e l q r) = refl

  -- a turn keeps the identity
  turned_identity : (e : Entry) (r : Turn) → Held t id e → Does (bare t.own) e R r
      → r.entry.identity.bytes ≡ filled id
  turned_identity e r q d =
      ap (λ (n : Name). n.bytes) (change_identity e r.entry (does_change r d))
      ∙ q.identity

  pub rows : (a : After) → Effect t id R a → Slotwise (filled id) t.slots a.table.slots
  rows a (refuses n k) = row_same (filled id) t.slots
  rows a (turns e r l q d) = row_put (filled id) t.slots r.entry (turned_identity e r q d)
  rows a (loads e m l p i g n r) = subst (λ (x : Text). Slotwise x t.slots m) i (row_place e p)
  rows a (empties e l q r) = row_empty (filled id) t.slots

  -- ---- a legal table stays legal

  -- other slots, as many, each legal, identities that differ
  stays_whole : (m : List Entry) → Legal t → Slotwise (filled id) t.slots m → slots_legal m ≡ true
      → apart (t.own ∷ identities m) ≡ true → legal (holding t m) ≡ true
  stays_whole m p r f g = legal_whole (holding t m) (record {
    size = rw (row_length (filled id) t.slots m r) p.size;
    own = p.own;
    entries = f;
    differ = g;
  })

  pub legals : (a : After) → Effect t id R a → legal t ≡ true → legal a.table ≡ true
  legals a (refuses n k) h = h
  legals a (turns e r l q d) h =
      let p = legal_parts t h in
      let i = turned_identity e r q d in
      let n = claims.filled_is_filled id q.name in
      let g = change_legal e r.entry (does_change r d) (held_legal t id e l q) in
      stays_whole (put (filled id) r.entry t.slots) p (row_put (filled id) t.slots r.entry i)
      (legal_put (filled id) t.slots r.entry p.entries (legal_slot r.entry g))
      (rw (identities_put (filled id) n t.slots r.entry (legal_full r.entry g) i) p.differ)
  legals a (loads e m l p i g n r) h =
      let b = legal_parts t h in
      let f = legal_full e g in
      let d = and_true (not (same t.own (filled id))) (differs (filled id) (identities t.slots)) n in
      let c = and_true (differs t.own (identities t.slots)) (apart (identities t.slots)) b.differ in
      let o : same e.identity.bytes t.own ≡ false =
      ap (λ (x : Text). same x t.own) i ∙ flip t.own (filled id) (not-true (same t.own (filled id)) d.0) in
      stays_whole m b (subst (λ (x : Text). Slotwise x t.slots m) i (row_place e p)) (legal_place e p g b.entries)
      (and_join _ _ (differs_place e f t.own p c.0 o)
      (apart_place e f p c.1 (ap (λ (x : Text). differs x (identities t.slots)) i ∙ d.1)))
  legals a (empties e l q r) h =
      let p = legal_parts t h in
      let n = claims.filled_is_filled id q.name in
      let c = and_true (differs t.own (identities t.slots)) (apart (identities t.slots)) p.differ in
      stays_whole (put (filled id) empty t.slots) p (row_empty (filled id) t.slots)
      (legal_put (filled id) t.slots empty p.entries empty_slot)
      (and_join _ _ (differs_emptied (filled id) n t.own t.slots c.0)
      (apart_emptied (filled id) n t.slots c.1))

  -- ---- the partner's entry afterwards

  pub counts : (a : After) (e f : Entry) → Effect t id R a → entry_of id t ≡ Some e → entry_of id a.table ≡ Some f
      → (e.sending.next ≤ f.sending.next) × (e.receiving.expected ≤ f.receiving.expected)
  counts a e f (refuses n k) p q = let i : e ≡ f = some_inj (sym p ∙ q) in rw i (omega arith, omega arith)
  counts a e f (turns g r l h d) p q =
      let i : g ≡ e = some_inj (sym h.found ∙ (entry_held t id e p).found) in
      let k = change_identity g r.entry (does_change r d) in
      let j : r.entry ≡ f = some_inj (sym (turned_after t id g r.entry h k) ∙ q) in
      rw (← i, ← j) (change_counts g r.entry (does_change r d))
  counts a e f (loads x m l b i g n r) p q =
      let h = entry_held t id e p in
      let d = and_true (not (same t.own (filled id))) (differs (filled id) (identities t.slots)) n in
      let o = find_none (filled id) (claims.filled_is_filled id h.name) t.slots d.1 in
      absurd (none_some _ (sym o ∙ h.found))
  counts a e f (empties g l h r) p q =
      absurd (none_some _ (sym (emptied_after t id g l h) ∙ q))
