-- One step of each loop over the records, and parts of an image.
use Rattle.std.specs.Prelude.{None, Some, is_some}
use Rattle.std.specs.Bool.{then_some}
use mathlib.Core.Path.{◌≡◌, refl, sym, ap, ◌∙◌}
use mathlib.Core.Bool.{Bool, true, false, cond, not, ◌&&◌}
use mathlib.Core.List.{List, [], ◌∷◌}
use Prim.Native.Nat.{ℕ, zero, suc, ◌+◌, ◌-◌, ◌≤◌, ◌<◌, max}
use native.Mathlib.Omega.{arith}
use lib.Dec.{eqb, ltb, leb}
use lib.ListN.{length, take, drop, get_or, length-take, length-drop}
use borrow.Author.Tests.{eq-eqb, ne_eqb, le-leb, lt-leb, lt-ltb, le-ltb, ltb-true, ltb-false}
use Rattle.octets.specs.Text.{Text, same}
use Rattle.octets.specs.Part.{part}
use Rattle.octets.specs.Number.{of_numbers}
use Rattle.octets.proofs.Words.{other_length}
use Rattle.partner.specs.Record.{entry_size, entry_in}
use Rattle.partner.specs.Legal as rule
use Rattle.image.specs.Image.{kinds, body, record_length, partner_size, front_size}
use Rattle.image.specs.Places.{below, own_in, is_partner, seek_slot, seek_free, past, entry_at}
use Rattle.image.specs.Pass.{identity_at, apart_from, front_legal, record_legal}

-- ---- the length of a record

-- the longest body of a table of kinds
abbrev longest : List (ℕ × ℕ) → ℕ
longest [] = 0
longest (row ∷ rows) = max row.1 (longest rows)

body_most : (kind : ℕ) (rows : List (ℕ × ℕ)) → body rows kind ≤ longest rows
body_most kind [] = omega arith
body_most kind (row ∷ rows) = go (eqb kind row.0) (body_most kind rows)
  where
    go : (b : Bool) → body rows kind ≤ longest rows → cond b row.1 (body rows kind) ≤ max row.1 (longest rows)
    go true h = omega arith
    go false h = omega arith

pub length_small : (kind : ℕ) → record_length kind ≤ partner_size
unfolding record_length
length_small kind = omega (arith, body_most kind kinds)

-- ---- the searches

-- a number is one of the first n, or none of them
pub one_below : {n k m : ℕ} → m ≡ k → k < n → Some k ≡ below n m
one_below {n} {k} {m} e h = rw (e, lt-ltb k n h)

pub none_below : {n m : ℕ} → n ≤ m → None ≡ below n m
none_below {n} {m} h = rw (le-ltb m n h)

-- none of them exactly where it is the number behind them
pub none_is : (n m : ℕ) (r : Bool) → m ≤ n → is_some (below n m) ≡ not r → r ≡ eqb m n
none_is n m r h = go (ltb m n) refl
  where
    other : (r s : Bool) → s ≡ not r → r ≡ not s
    other true s e = ap not (sym e)
    other false s e = ap not (sym e)

    go : (b : Bool) → ltb m n ≡ b → is_some (then_some b m) ≡ not r → r ≡ eqb m n
    go true e k = let l = ltb-true m n e in other r true k ∙ sym (ne_eqb m n (λ z. omega arith))
    go false e k = let l = ltb-false m n e in other r false k ∙ sym (eq-eqb m n (omega arith))

-- by whether the kind is 2
pub partner_there : (at : ℕ) (id s : Text) → get_or s at 0 ≡ 2 → is_partner at id s ≡ same (identity_at at s) id
partner_there at id s h = rw (eq-eqb (get_or s at 0) 2 h)

pub partner_elsewhere : (at : ℕ) (id s : Text) → (get_or s at 0 ≡ 2 → ⊥) → is_partner at id s ≡ false
partner_elsewhere at id s h = rw (ne_eqb (get_or s at 0) 2 h)

pub seek_most : (n k at : ℕ) (id s : Text) → seek_slot n k at id s ≤ k + n
unfolding seek_slot
seek_most zero k at id s = omega arith
seek_most (suc n) k at id s =
    go (is_partner at id s) (seek_slot n (k + 1) (at + record_length (get_or s at 0)) id s)
    (seek_most n (k + 1) (at + record_length (get_or s at 0)) id s)
  where
    go : (b : Bool) (m : ℕ) → m ≤ k + 1 + n → cond b k m ≤ k + suc n
    go true m h = omega arith
    go false m h = omega arith

pub seek_end : (n k at : ℕ) (id s : Text) → n ≡ 0 → seek_slot n k at id s ≡ k
unfolding seek_slot
seek_end n k at id s h = rw h

module _ (n k at : ℕ) (id s : Text) (more : 0 < n) where
  abbrev seek_on : ℕ
  seek_on = seek_slot (n - 1) (k + 1) (at + record_length (get_or s at 0)) id s

  seek_open : seek_slot n k at id s ≡ cond (is_partner at id s) k seek_on
  unfolding seek_slot
  seek_open = let one : n ≡ suc (n - 1) = omega arith in ap (λ (m : ℕ). seek_slot m k at id s) one

  pub seek_hit : is_partner at id s ≡ true → seek_slot n k at id s ≡ k
  seek_hit h = seek_open ∙ ap (λ (b : Bool). cond b k seek_on) h

  pub seek_miss : is_partner at id s ≡ false → seek_slot n k at id s ≡ seek_on
  seek_miss h = seek_open ∙ ap (λ (b : Bool). cond b k seek_on) h

-- where no identity is left
pub seek_short : (n k at a b : ℕ) (s : Text) → length s < at + front_size → seek_slot n k at (of_numbers a b) s ≡ k + n
unfolding seek_slot
seek_short zero k at a b s h = omega arith
seek_short (suc n) k at a b s h =
    let id : Text = of_numbers a b in
    let on : ℕ = at + record_length (get_or s at 0) in
    let short = other_length (identity_at at s) a b
    (λ e. omega (arith, e, length-take 16 (drop (at + 1) s), length-drop (at + 1) s)) in
    ap (λ (b : Bool). cond (eqb (get_or s at 0) 2 && b) k (seek_slot n (k + 1) on id s)) short
    ∙ by_kind (eqb (get_or s at 0) 2) (seek_slot n (k + 1) on id s) ∙ seek_short n (k + 1) on a b s (omega arith) ∙ omega arith
  where
    by_kind : (b : Bool) (m : ℕ) → cond (b && false) k m ≡ m
    by_kind true m = refl
    by_kind false m = refl

pub free_end : (n k at : ℕ) (s : Text) → n ≡ 0 → seek_free n k at s ≡ k
unfolding seek_free
free_end n k at s h = rw h

module _ (n k at : ℕ) (s : Text) (more : 0 < n) where
  abbrev free_on : ℕ
  free_on = seek_free (n - 1) (k + 1) (at + record_length (get_or s at 0)) s

  free_open : seek_free n k at s ≡ cond (eqb (get_or s at 0) 0) k free_on
  unfolding seek_free
  free_open = let one : n ≡ suc (n - 1) = omega arith in ap (λ (m : ℕ). seek_free m k at s) one

  pub free_hit : get_or s at 0 ≡ 0 → seek_free n k at s ≡ k
  free_hit h = free_open ∙ ap (λ (b : Bool). cond b k free_on) (eq-eqb (get_or s at 0) 0 h)

  pub free_miss : (get_or s at 0 ≡ 0 → ⊥) → seek_free n k at s ≡ free_on
  free_miss h = free_open ∙ ap (λ (b : Bool). cond b k free_on) (ne_eqb (get_or s at 0) 0 h)

-- ---- from record to record

pub past_none : (n at : ℕ) (s : Text) → n ≡ 0 → past n at s ≡ at
unfolding past
past_none n at s h = rw h

pub past_one : (n at : ℕ) (s : Text) → 0 < n → past n at s ≡ past (n - 1) (at + record_length (get_or s at 0)) s
unfolding past
past_one n at s h = let one : n ≡ suc (n - 1) = omega arith in ap (λ (m : ℕ). past m at s) one

-- ---- the front

pub front_other : (s : Text) → (get_or s 0 0 ≡ 1 → ⊥) → front_legal s ≡ false
unfolding front_legal
front_other s h = rw (ne_eqb (get_or s 0 0) 1 h)

pub front_ours : (s : Text) → get_or s 0 0 ≡ 1
    → front_legal s ≡ rule.is_filled (own_in s) && apart_from 64 front_size (own_in s) s
unfolding front_legal
front_ours s h = rw (eq-eqb (get_or s 0 0) 1 h)

-- ---- a record

module _ (n at : ℕ) (s : Text) where
  pub legal_vacant : get_or s at 0 ≡ 0 → record_legal n at s ≡ ltb at (length s)
  unfolding record_legal
  legal_vacant h = rw (eq-eqb (get_or s at 0) 0 h)

  pub legal_other : (get_or s at 0 ≡ 0 → ⊥) → (get_or s at 0 ≡ 2 → ⊥) → record_legal n at s ≡ false
  unfolding record_legal
  legal_other h k = rw (ne_eqb (get_or s at 0) 0 h, ne_eqb (get_or s at 0) 2 k)

  pub legal_short : get_or s at 0 ≡ 2 → length s < at + partner_size → record_legal n at s ≡ false
  unfolding record_legal
  legal_short h k = rw (h, lt-leb (at + partner_size) (length s) k)

  pub legal_whole : get_or s at 0 ≡ 2 → at + partner_size ≤ length s → record_legal n at s
      ≡ rule.legal (entry_at at s) && apart_from n (at + partner_size) (identity_at at s) s
  unfolding record_legal
  legal_whole h k = rw (h, le-leb (at + partner_size) (length s) k)

-- a body that is whole is judged where it stands
abbrev pub whole_and_legal : Text → Bool
whole_and_legal s = leb entry_size (length s) && rule.legal (entry_in s)

pub judged_whole : (at : ℕ) (s : Text) → at + partner_size ≤ length s
    → whole_and_legal (part s (record { at = at + 1; length = entry_size })) ≡ rule.legal (entry_at at s)
unfolding entry_at part
judged_whole at s h =
    let body : Text = take entry_size (drop (at + 1) s) in
    let fits : entry_size ≤ length body = simp (length-take, length-drop) (omega arith) in
    ap (λ (b : Bool). b && rule.legal (entry_in body)) (le-leb entry_size (length body) fits)
