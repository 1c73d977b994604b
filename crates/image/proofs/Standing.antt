-- The entry of a slot by the place of its record, whatever the bytes are.
use mathlib.Core.Path.{◌≡◌, refl, sym, ap, ◌∙◌}
use mathlib.Core.Bool.{Bool, cond}
use Prim.Native.Nat.{ℕ, zero, suc, ◌+◌, ◌<◌, ◌≤◌}
use native.Mathlib.Omega.{arith}
use native.Mathlib.Nat.{add-zero}
use lib.Dec.{eqb}
use lib.ListN.{take, drop, get_or}
use lib.Seq.{get_or-drop, drop-drop}
use borrow.Author.Tests.{eq-eqb, ne_eqb}
use Rattle.octets.specs.Text.{Text}
use Rattle.partner.specs.Entry.{empty}
use Rattle.partner.specs.Record.{entry_in, entry_size}
use Rattle.image.specs.Image.{record_length, slot_in, slots_in, front_size}
use Rattle.image.specs.Places.{past, slot_place, entry_at}

-- past the slots
past_slots : (n k : ℕ) (s : Text) → n ≤ k → get_or (slots_in n s) k empty ≡ empty
unfolding slots_in
past_slots zero k s h = refl
past_slots (suc n) zero s h = absurd (omega arith)
past_slots (suc n) (suc k) s h = past_slots n k (drop (record_length (get_or s 0 0)) s) (omega arith)

pub past_64 : (k : ℕ) (s : Text) → 64 ≤ k → empty ≡ get_or (slots_in 64 s) k empty
past_64 k s h = sym (past_slots 64 k s h)

-- a slot by the place of its record
slot_there : (n k at : ℕ) (s : Text) → k < n → get_or (slots_in n (drop at s)) k empty ≡ slot_in (drop (past k at s) s)
unfolding slots_in past
slot_there zero k at s h = absurd (omega arith)
slot_there (suc n) zero at s h = refl
slot_there (suc n) (suc k) at s h =
    let kind : get_or (drop at s) 0 0 ≡ get_or s at 0 = get_or-drop at s 0 0 ∙ ap (λ (i : ℕ). get_or s i 0) (add-zero at) in
    ap (λ (x : ℕ). get_or (slots_in n (drop (record_length x) (drop at s))) k empty) kind
    ∙ ap (λ (t : Text). get_or (slots_in n t) k empty) (drop-drop (record_length (get_or s at 0)) at s)
    ∙ slot_there n k (at + record_length (get_or s at 0)) s (omega arith)

-- its entry
slot_by : (p : ℕ) (s : Text) → slot_in (drop p s) ≡ cond (eqb (get_or s p 0) 2) (entry_at p s) empty
unfolding slot_in entry_at
slot_by p s =
    let kind : get_or (drop p s) 0 0 ≡ get_or s p 0 = get_or-drop p s 0 0 ∙ ap (λ (i : ℕ). get_or s i 0) (add-zero p) in
    ap (λ (x : ℕ). cond (eqb x 2) (entry_in (take entry_size (drop 1 (drop p s)))) empty) kind
    ∙ ap (λ (t : Text). cond (eqb (get_or s p 0) 2) (entry_in (take entry_size t)) empty) (drop-drop 1 p s)

module _ (k : ℕ) (s : Text) (h : k < 64) where
  abbrev at : ℕ
  at = slot_place k s

  slot_is : get_or (slots_in 64 (drop front_size s)) k empty ≡ cond (eqb (get_or s at 0) 2) (entry_at at s) empty
  unfolding slot_place
  slot_is = slot_there 64 k front_size s h ∙ slot_by (past k front_size s) s

  pub partner_there : get_or s at 0 ≡ 2 → entry_at at s ≡ get_or (slots_in 64 (drop front_size s)) k empty
  partner_there e = sym (slot_is ∙ ap (λ (b : Bool). cond b (entry_at at s) empty) (eq-eqb (get_or s at 0) 2 e))

  pub nobody_there : (get_or s at 0 ≡ 2 → ⊥) → empty ≡ get_or (slots_in 64 (drop front_size s)) k empty
  nobody_there e = sym (slot_is ∙ ap (λ (b : Bool). cond b (entry_at at s) empty) (ne_eqb (get_or s at 0) 2 e))
