-- The rules of a table in a list: none is broken exactly when the table is legal.
use mathlib.Core.Path.{◌≡◌, refl, sym}
use mathlib.Core.Bool.{Bool, true, false, cond, ◌||◌, true≢false}
use mathlib.Core.List.{List, [], ◌∷◌, ◌++◌}
use mathlib.Core.Logic.{◌↔◌}
use Prim.Native.Nat.{ℕ, zero, suc}
use lib.Dec.{eqb, eqb-suc-zero}
use lib.ListN.{length}
use borrow.Author.Tests.{not-false}
use Rattle.octets.specs.Text.{Text, same}
use Rattle.octets.specs.Number.{copies}
use Rattle.octets.specs.First.{Order, Numbered, Passed, Given}
use Rattle.octets.specs.First.Numbered.{more, end}
use Rattle.octets.proofs.Firsts as firsts
use Rattle.octets.proofs.Comparing.{both}
use Rattle.partner.specs.declared.Entry.{Entry}
use Rattle.partner.specs.Legal as partner
use Rattle.partner.specs.Table.{Table, is_empty, slots_legal, identities, apart, legal}
use Rattle.partner.specs.Table.{slot_rules, slots_rules, rules, broken}
use Rattle.partner.proofs.Ruling as entry
use Rattle.partner.proofs.Ruling.{Kept, each_kept, all_passed, not_0, ◌and◌}
use Rattle.partner.proofs.Keeping as keeping

-- ---- one list after another

numbered_append : (a b : Order) → Numbered a → Numbered b → Numbered (a ++ b)
numbered_append a b end m = m
numbered_append a b (more t n ts z h) m = more t n (ts ++ b) z (numbered_append ts b h m)

kept_append : (a b : Order) → Kept a → Kept b → Kept (a ++ b)
kept_append [] b k m = m
kept_append (t ∷ a) b k m = (k.0, kept_append a b k.1 m)

kept_parts : (a b : Order) → Kept (a ++ b) → Kept a × Kept b
kept_parts [] b k = (tt, k)
kept_parts (t ∷ a) b k = let p = kept_parts a b k.1 in ((k.0, p.0), p.1)

-- ---- a slot's rules

numbered_slot : (e : Entry) → Numbered (slot_rules e)
unfolding slot_rules
numbered_slot e = go (is_empty e)
  where
    go : (b : Bool) → Numbered (cond b [] ((same e.identity.bytes (copies 16 0), 2) ∷ partner.rules e))
    go true = end
    go false = more _ 2 _ (not_0 2 refl) (entry.numbered e)

-- a filled name is no sixteen zero bytes
filled_not_zero : (s : Text) → partner.is_filled s ≡ true → same s (copies 16 0) ≡ false
unfolding partner.is_filled
filled_not_zero [] h = refl
filled_not_zero (zero ∷ s) h = absurd (true≢false (sym h))
filled_not_zero (suc c ∷ s) h = rw (eqb-suc-zero c)

slot_kept : (e : Entry) → is_empty e || partner.legal e ≡ true → Kept (slot_rules e)
unfolding slot_rules
slot_kept e = go (is_empty e)
  where
    go : (b : Bool) → b || partner.legal e ≡ true
        → Kept (cond b [] ((same e.identity.bytes (copies 16 0), 2) ∷ partner.rules e))
    go true h = tt
    go false h =
        (filled_not_zero e.identity.bytes (keeping.rules e h).identity_filled, entry.legal_kept e h)

kept_slot : (e : Entry) → Kept (slot_rules e) → is_empty e || partner.legal e ≡ true
unfolding slot_rules
kept_slot e = go (is_empty e)
  where
    go : (b : Bool) → Kept (cond b [] ((same e.identity.bytes (copies 16 0), 2) ∷ partner.rules e))
        → b || partner.legal e ≡ true
    go true k = refl
    go false k = entry.kept_legal e k.1

-- ---- the slots'

numbered_slots : (slots : List Entry) → Numbered (slots_rules slots)
unfolding slots_rules
numbered_slots [] = end
numbered_slots (e ∷ slots) = numbered_append (slot_rules e) (slots_rules slots) (numbered_slot e) (numbered_slots slots)

slots_kept : (slots : List Entry) → slots_legal slots ≡ true → Kept (slots_rules slots)
unfolding slots_legal slots_rules
slots_kept [] h = tt
slots_kept (e ∷ slots) h =
    let p = both (is_empty e || partner.legal e) (slots_legal slots) h in
    kept_append (slot_rules e) (slots_rules slots) (slot_kept e p.0) (slots_kept slots p.1)

kept_slots : (slots : List Entry) → Kept (slots_rules slots) → slots_legal slots ≡ true
unfolding slots_legal slots_rules
kept_slots [] k = refl
kept_slots (e ∷ slots) k =
    let p = kept_parts (slot_rules e) (slots_rules slots) k in
    rw (kept_slot e p.0) (kept_slots slots p.1)

-- ---- the table's

numbered : (t : Table) → Numbered (rules t)
unfolding rules
numbered t =
    more _ 1 _ (not_0 1 refl) (more _ 3 _ (not_0 3 refl)
    (numbered_append (slots_rules t.slots) _ (numbered_slots t.slots) (more _ 10 _ (not_0 10 refl) end)))

legal_kept : (t : Table) → legal t ≡ true → Kept (rules t)
unfolding legal rules
legal_kept t h =
    let a = both _ (apart (t.own ∷ identities t.slots)) h in
    let b = both _ (slots_legal t.slots) a.0 in
    let c = both (eqb (length t.slots) 64) (partner.is_filled t.own) b.0 in
    c.0 and c.1 and kept_append (slots_rules t.slots) _ (slots_kept t.slots b.1) (a.1 and tt)

kept_legal : (t : Table) → Kept (rules t) → legal t ≡ true
unfolding legal rules
kept_legal t k =
    let p = kept_parts (slots_rules t.slots) _ k.1.1 in
    let size = not-false (eqb (length t.slots) 64) k.0 in
    let own = not-false (partner.is_filled t.own) k.1.0 in
    let slots = kept_slots t.slots p.0 in
    let differ = not-false (apart (t.own ∷ identities t.slots)) p.1.0 in
    rw (size, own, slots, differ)

pub broken_first : (t : Table) (n : ℕ) → (n ≡ 0 → ⊥) → (broken t ≡ n) ↔ Given (rules t) n
unfolding broken
broken_first t n z = (firsts.claims).exactly (rules t) n (numbered t) z

pub legal_passed : (t : Table) → (legal t ≡ true) ↔ Passed (rules t)
legal_passed t =
    (λ h. all_passed (rules t) (legal_kept t h), λ p. kept_legal t (each_kept (rules t) p))
