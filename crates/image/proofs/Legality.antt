-- An image is legal exactly where a pass over its front and its records finds nothing wrong.
use Rattle.std.specs.Prelude.{Option, None, Some}
use mathlib.Core.Path.{◌≡◌, refl, sym, ap, ◌∙◌}
use mathlib.Core.Bool.{Bool, true, false, ◌&&◌, true≢false}
use mathlib.Core.List.{◌∷◌, ◌++◌}
use Prim.Native.Nat.{ℕ, suc, ◌<◌}
use native.Mathlib.Omega.{arith}
use lib.Dec.{eqb}
use lib.ListN.{length, drop, get_or, length-take, length-drop, take-append-drop}
use lib.Seq.{take_at, drop-drop}
use borrow.Author.Tests.{eqb-true}
use Rattle.octets.specs.Text.{Text}
use Rattle.octets.specs.Part.{all_octets, found}
use Rattle.octets.proofs.Comparing.{both, drop_step}
use Rattle.partner.specs.Legal as rule
use Rattle.partner.proofs.Naming.{filled_length}
use Rattle.partner.specs.Table.{Table, identities, differs, apart}
use Rattle.image.specs.Image.{slots_bytes, slots_in, encode, decode, front_size}
use Rattle.image.specs.Places.{own_in}
use Rattle.image.specs.Pass.{apart_from, front_legal}
use Rattle.image.proofs.Entries.{is_filled_real}
use Rattle.image.proofs.Slots.{Stored, slots_legal_stored}
use Rattle.image.proofs.Images.{Rules, rules, rules_legal, decoded, decode_encode}
use Rattle.image.proofs.Shifts.{seek_shift}
use Rattle.image.proofs.Spots.{row_apart}
use Rattle.image.proofs.Passes.{records_legal, pass_row, Row, row, length_row}

-- ---- an image that is written

module _ (t : Table) (own_16 : length t.own ≡ 16) (slots_64 : length t.slots ≡ 64)
    (own_filled : rule.is_filled t.own ≡ true) (st : Stored t.slots) where
  own_there : own_in (encode t) ≡ t.own
  unfolding encode
  own_there = take_at t.own (slots_bytes t.slots) 16 own_16

  own_alone : apart_from 64 front_size t.own (encode t) ≡ differs t.own (identities t.slots)
  unfolding encode
  own_alone =
      let s = slots_bytes t.slots in
      ap (λ (n : ℕ). eqb n 64) (seek_shift (1 ∷ t.own) s front_size (ap suc own_16) 64 0 0 t.own)
      ∙ ap (λ (n : ℕ). apart_from n 0 t.own s) (sym slots_64)
      ∙ row_apart t.own (is_filled_real t.own own_filled) t.slots st

  first_there : eqb (get_or (encode t) 0 0) 1 ≡ true
  unfolding encode
  first_there = refl

  front_encode : front_legal (encode t) ≡ differs t.own (identities t.slots)
  unfolding front_legal
  front_encode = rw (first_there, own_there, own_filled) own_alone

  rows_encode : records_legal 64 front_size (encode t) ≡ apart (identities t.slots)
  unfolding encode
  rows_encode =
      ap (λ (n : ℕ). records_legal n front_size (encode t)) (sym slots_64)
      ∙ pass_row t.slots st (1 ∷ t.own) front_size (ap suc own_16)

  pub pass_encode : front_legal (encode t) && records_legal 64 front_size (encode t)
      ≡ apart (t.own ∷ identities t.slots)
  pass_encode = rw (front_encode, rows_encode)

-- ---- a legal image passes

passes : (s : Text) (t : Table) → decode s ≡ Some t → front_legal s && records_legal 64 front_size s ≡ true
passes s t h =
    let d = decoded s t h in
    let r = rules t d.is_legal in
    let n = filled_length t.own r.own_filled in
    rw d.text (pass_encode t n r.slots_64 r.own_filled d.stored ∙ r.all_apart)

-- ---- what passes is a legal image

front_split : (s : Text) → get_or s 0 0 ≡ 1 → length (own_in s) ≡ 16
    → s ≡ 1 ∷ (own_in s ++ drop front_size s)
front_split s k n =
    let l = length-take 16 (drop 1 s) in
    let m = length-drop 1 s in
    let h : 0 < length s = omega arith in
    let p : drop 1 s ≡ own_in s ++ drop front_size s =
    sym (take-append-drop 16 (drop 1 s)) ∙ ap (λ (t : Text). own_in s ++ t) (drop-drop 16 1 s) in
    drop_step s 0 h ∙ ap (λ (x : ℕ). x ∷ drop 1 s) k ∙ ap (λ (t : Text). 1 ∷ t) p

front_parts : (s : Text) → front_legal s ≡ true → (get_or s 0 0 ≡ 1) × (rule.is_filled (own_in s) ≡ true)
unfolding front_legal
front_parts s h =
    let x = both (eqb (get_or s 0 0) 1 && rule.is_filled (own_in s)) _ h in
    let y = both (eqb (get_or s 0 0) 1) (rule.is_filled (own_in s)) x.0 in
    (eqb-true (get_or s 0 0) 1 y.0, y.1)

read_so : Text → Table
read_so s = record { own = own_in s; slots = slots_in 64 (drop front_size s) }

written_so : (s : Text) → get_or s 0 0 ≡ 1 → length (own_in s) ≡ 16 → Row 64 front_size s → encode (read_so s) ≡ s
unfolding encode read_so
written_so s k n w =
    ap (λ (t : Text). 1 ∷ (own_in s ++ t)) w.bytes ∙ sym (front_split s k n)

taken : (s : Text) → all_octets s ≡ true → front_legal s && records_legal 64 front_size s ≡ true
    → decode s ≡ Some (read_so s)
unfolding read_so
taken s o h =
    let t : Table = read_so s in
    let b = both (front_legal s) (records_legal 64 front_size s) h in
    let f = front_parts s b.0 in
    let n : length t.own ≡ 16 = filled_length (own_in s) f.1 in
    let w = row 64 front_size s o b.1 in
    let l : length t.slots ≡ 64 = length_row 64 (drop front_size s) in
    let e : encode t ≡ s = written_so s f.0 n w in
    let a : apart (t.own ∷ identities t.slots) ≡ true =
    sym (pass_encode t n l f.1 w.stored) ∙ ap (λ (u : Text). front_legal u && records_legal 64 front_size u) e ∙ h in
    let r : Rules t = record {
      slots_64 = l;
      own_filled = f.1;
      each_legal = slots_legal_stored t.slots w.stored;
      all_apart = a;
    } in
    ap decode (sym e) ∙ decode_encode t (rules_legal t r) w.stored

pub legal_pass : (s : Text) → all_octets s ≡ true → found (decode s) ≡ front_legal s && records_legal 64 front_size s
legal_pass s o = go (decode s) refl (front_legal s && records_legal 64 front_size s) refl
  where
    go : (d : Option Table) → decode s ≡ d → (b : Bool) → front_legal s && records_legal 64 front_size s ≡ b → found d ≡ b
    go None p true q = absurd (let z : ◌≡◌ {A = Bool} true false = ap found (sym (taken s o q) ∙ p) in true≢false z)
    go None p false q = refl
    go (Some t) p true q = refl
    go (Some t) p false q = absurd (true≢false (sym (passes s t p) ∙ q))
