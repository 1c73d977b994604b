-- What start and image reading answer, and what they make of a row.
use Rattle.std.proofs.Common.{◌≡◌, refl, sym, ap, ◌∙◌, Bool, true, false, cond, not, ◌&&◌, List, [], ◌∷◌, ℕ, zero, suc, eqb, length, drop, replicate, Option, None, Some, arith}
use borrow.Author.Tests.{eqb-true}
use Rattle.octets.specs.Text.{Text, same, is_name}
use Rattle.octets.specs.First.{first}
use Rattle.octets.specs.Part.{found}
use Rattle.csm.proofs.TextLaws.{some_inj, none_some}
use Rattle.partner.specs.declared.Entry.{Entry}
use Rattle.partner.specs.Entry.{empty, name_of}
use Rattle.partner.specs.Table.{Table, legal, empties, started}
use Rattle.image.specs.Image.{front_size, encode, decode, table_in, slots_in}
use Rattle.calls.specs.Words.{in_case◌then◌else◌}
use Rattle.calls.specs.declared.Refusal.{Refusal}
use Rattle.calls.specs.Refusal.{number}
use Rattle.calls.specs.Calls as every
use Rattle.calls.proofs.Numbered.{number_not_0}
use Rattle.row.specs.Stored.{start_answer, read_answer}
use Rattle.row.specs.Calls.{slots_or, start_row, read_row, Started, ImageRead}

-- a table's slots where there is one and a test holds, else the row as it was
abbrev into : List Entry → Bool → Option Table → List Entry
into row b o = in_case b then slots_or row o else row

-- 13 where the first of two tests fails, a number where the second does
abbrev answered : Bool → Bool → ℕ → ℕ
answered b c n = first ((not b, 13) ∷ (not c, n) ∷ [])

both : (b c : Bool) (n : ℕ) → (n ≡ 0 → ⊥) → 0 ≡ answered b c n → (b ≡ true) × (c ≡ true)
both true true n k h = (refl, refl)
both true false n k h = absurd (k (sym h))
both false c n k h = absurd (omega (arith, h))

-- ---- start

none_stored : (n : ℕ) → replicate n empty ≡ empties n
unfolding empties
none_stored zero = refl
none_stored (suc n) = ap (λ (l : List Entry). empty ∷ l) (none_stored n)

module _ (own : Text) (row : List Entry) where
  pub start_refused : (r : Refusal) → number r ≡ start_answer own (length row) → Started own row (number r) row
  unfolding start_answer start_row every.start in_case◌then◌else◌
  start_refused r e = record { answer = e; row = go (eqb (length row) 64) (is_name own) (λ z. number_not_0 r (e ∙ z)) }
    where
      go : (b c : Bool) → (answered b c 10 ≡ 0 → ⊥) → row ≡ into row b (in_case c then Some (started (name_of own)) else None)
      go true true h = absurd (h refl)
      go true false h = refl
      go false c h = refl

  pub start_done : 0 ≡ start_answer own (length row) → Started own row 0 (replicate (length row) empty)
  unfolding start_answer start_row every.start in_case◌then◌else◌
  start_done e =
      let k = both (eqb (length row) 64) (is_name own) 10 (λ z. omega (arith, z)) e in
      record { answer = e; row = rw (k.0, k.1, eqb-true (length row) 64 k.0) (none_stored 64) }

-- ---- image reading

-- the slots of an image's table
slots_of : (image : Text) (t : Table) → decode image ≡ Some t → slots_in 64 (drop front_size image) ≡ t.slots
unfolding decode table_in
slots_of image t h = go (legal (table_in image) && same (encode (table_in image)) image) h
  where
    go : (b : Bool) → cond b (Some (table_in image)) None ≡ Some t → slots_in 64 (drop front_size image) ≡ t.slots
    go true h = ap (λ (x : Table). x.slots) (some_inj h)
    go false h = absurd (none_some t h)

module _ (image : Text) (row : List Entry) where
  pub read_refused : (r : Refusal) → number r ≡ read_answer image (length row) → ImageRead image row (number r) row
  unfolding read_answer read_row in_case◌then◌else◌
  read_refused r e = record { answer = e; row = go (eqb (length row) 64) (decode image) (λ z. number_not_0 r (e ∙ z)) }
    where
      go : (b : Bool) (o : Option Table) → (answered b (found o) 13 ≡ 0 → ⊥) → row ≡ into row b o
      go true None h = refl
      go true (Some t) h = absurd (h refl)
      go false o h = refl

  -- of a row that is read into
  pub read_64 : 0 ≡ read_answer image (length row) → length row ≡ 64
  unfolding read_answer
  read_64 e =
      eqb-true (length row) 64 (both (eqb (length row) 64) (found (decode image)) 13 (λ z. omega (arith, z)) e).0

  pub read_done : 0 ≡ read_answer image (length row) → ImageRead image row 0 (slots_in 64 (drop front_size image))
  unfolding read_answer read_row in_case◌then◌else◌
  read_done e = record { answer = e; row = go (eqb (length row) 64) (decode image) refl e }
    where
      go : (b : Bool) (o : Option Table) → decode image ≡ o → 0 ≡ answered b (found o) 13
          → slots_in 64 (drop front_size image) ≡ into row b o
      go true None d h = absurd (omega (arith, h))
      go true (Some t) d h = slots_of image t d
      go false o d h = absurd (omega (arith, h))
