-- What a pass over the records asks: of the bytes of a row that the identities differ, and only such bytes pass.
use mathlib.Core.Path.{◌≡◌, refl, sym, ap, ◌∙◌, subst}
use mathlib.Core.Bool.{Bool, true, false, cond, ◌&&◌}
use mathlib.Core.List.{List, [], ◌∷◌, ◌++◌, append_assoc}
use Prim.Native.Nat.{ℕ, zero, suc, ◌+◌, ◌-◌, ◌≤◌, ◌<◌}
use native.Mathlib.Omega.{arith}
use lib.Dec.{eqb, ltb, leb}
use lib.ListN.{length, take, drop, get_or, length-append, length-drop, take-append-drop, drop_of_length-le}
use lib.Seq.{take_at, drop-drop, length-take-le}
use borrow.Author.Tests.{eqb-true, ltb-true, leb-true, eq-eqb, lt-ltb, le-leb}
use Rattle.octets.specs.Text.{Text}
use Rattle.octets.specs.Part.{all_octets}
use Rattle.octets.proofs.Comparing.{both, drop_step, octets_part}
use Rattle.partner.specs.declared.Entry.{Entry}
use Rattle.partner.specs.Entry.{empty}
use Rattle.partner.specs.Legal as rule
use Rattle.partner.specs.Record.{entry_bytes, entry_in, entry_size}
use Rattle.partner.proofs.Storing.{read_written}
use Rattle.partner.specs.Table.{identities, differs, apart}
use Rattle.image.specs.Image.{record_length, slots_bytes, slots_in, partner_size}
use Rattle.image.specs.Places.{entry_at}
use Rattle.image.specs.Pass.{identity_at, apart_from, record_legal}
use Rattle.image.proofs.Entries.{Kept, size_in, legal_filled, legal_full, is_filled_real, identity_front}
use Rattle.image.proofs.Slots.{Stored, end, vacant, used, vacant_bytes, partner_bytes}
use Rattle.image.proofs.Slots.{identities_vacant, identities_full, vacant_in, partner_in}
use Rattle.image.proofs.Shifts.{byte_shift, drop_shift, seek_shift, entry_shift}
use Rattle.image.proofs.Spots.{row_apart}

-- n records from a place on, and the end behind them
unfoldable pub records_legal : ℕ → ℕ → Text → Bool
records_legal zero at image = eqb at (length image)
records_legal (suc n) at image =
    record_legal n at image && records_legal n (at + record_length (get_or image at 0)) image

pub records_end : (n at : ℕ) (s : Text) → n ≡ 0 → records_legal n at s ≡ eqb at (length s)
unfolding records_legal
records_end n at s h = rw h

pub records_step : (n at : ℕ) (s : Text) → 0 < n → records_legal n at s
    ≡ record_legal (n - 1) at s && records_legal (n - 1) (at + record_length (get_or s at 0)) s
unfolding records_legal
records_step n at s h =
    let one : n ≡ suc (n - 1) = omega arith in
    ap (λ (m : ℕ). records_legal m at s) one

-- ---- of the bytes of a row, it asks that the identities differ

module _ (p r : Text) (a n : ℕ) (size : length p ≡ a) where
  here : a + 0 ≡ a
  here = omega arith

  pass_vacant : records_legal (suc n) a (p ++ (0 ∷ r)) ≡ records_legal n (a + 1) ((p ++ (0 ∷ [])) ++ r)
  unfolding records_legal record_legal record_length
  pass_vacant =
      let s = p ++ (0 ∷ r) in
      let g : get_or s a 0 ≡ 0 = ap (λ (i : ℕ). get_or s i 0) (sym here) ∙ byte_shift p (0 ∷ r) a size 0 in
      let l : a < length s = omega (arith, length-append p (0 ∷ r)) in
      rw (g, lt-ltb a (length s) l) (ap (records_legal n (a + 1)) (sym (append_assoc p (0 ∷ []) r)))

  module _ (b : Text) (long : length b ≡ entry_size) where
    abbrev whole : Text
    whole = p ++ (2 ∷ (b ++ r))

    kind_there : get_or whole a 0 ≡ 2
    kind_there = ap (λ (i : ℕ). get_or whole i 0) (sym here) ∙ byte_shift p (2 ∷ (b ++ r)) a size 0

    fits_there : a + partner_size ≤ length whole
    fits_there = omega (arith, length-append p (2 ∷ (b ++ r)), length-append b r)

    entry_there : entry_at a whole ≡ entry_in b
    unfolding entry_at
    entry_there =
        ap (λ (i : ℕ). entry_at i whole) (sym here) ∙ entry_shift p (2 ∷ (b ++ r)) a size 0
        ∙ ap entry_in (take_at b r entry_size long)

    identity_there : identity_at a whole ≡ take 16 (b ++ r)
    identity_there =
        ap (λ (i : ℕ). take 16 (drop (i + 1) whole)) (sym here) ∙ ap (take 16) (drop_shift p (2 ∷ (b ++ r)) a size 0 1)

    split_there : whole ≡ (p ++ (2 ∷ b)) ++ r
    split_there = sym (append_assoc p (2 ∷ b) r)

    length_there : length (p ++ (2 ∷ b)) ≡ a + partner_size
    length_there = length-append p (2 ∷ b) ∙ omega arith

    apart_there : (id : Text) → apart_from n (a + partner_size) id whole ≡ apart_from n 0 id r
    apart_there id =
        let i : a + partner_size ≡ a + partner_size + 0 = omega arith in
        ap (λ (t : Text). apart_from n (a + partner_size) id t) split_there
        ∙ ap (λ (j : ℕ). apart_from n j id ((p ++ (2 ∷ b)) ++ r)) i
        ∙ ap (λ (k : ℕ). eqb k n) (seek_shift (p ++ (2 ∷ b)) r (a + partner_size) length_there n 0 0 id)

    pass_used : records_legal (suc n) a whole ≡ rule.legal (entry_in b)
        && apart_from n 0 (take 16 (b ++ r)) r && records_legal n (a + partner_size) ((p ++ (2 ∷ b)) ++ r)
    unfolding records_legal record_legal record_length
    pass_used =
        let id : Text = take 16 (b ++ r) in
        let here = rule.legal (entry_in b) && apart_from n 0 id r in
        rw (kind_there, le-leb (a + partner_size) (length whole) fits_there, entry_there, identity_there, apart_there id)
        (ap (λ (t : Text). here && records_legal n (a + partner_size) t) split_there)

pass_end : (p : Text) (a : ℕ) → length p ≡ a → records_legal 0 a (p ++ []) ≡ true
unfolding records_legal
pass_end p a h = eq-eqb a (length (p ++ [])) (omega (arith, length-append p []))

three : (x y y' z z' : Bool) → x ≡ true → y ≡ y' → z ≡ z' → x && y && z ≡ y' && z'
three x y y' z z' p q r = rw (p, q, r)

pub pass_row : (slots : List Entry) → Stored slots → (p : Text) (a : ℕ) → length p ≡ a
    → records_legal (length slots) a (p ++ slots_bytes slots) ≡ apart (identities slots)
pass_row [] end p a h = pass_end p a h
pass_row (e ∷ slots) (vacant st) p a h =
    let n = length slots in
    let s = slots_bytes slots in
    ap (λ (t : Text). records_legal (suc n) a (p ++ t)) (vacant_bytes s) ∙ pass_vacant p s a n h
    ∙ pass_row slots st (p ++ (0 ∷ [])) (a + 1) (length-append p (0 ∷ []) ∙ omega arith)
    ∙ ap apart (sym (identities_vacant slots))
pass_row (e ∷ slots) (used l k st) p a h =
    let n = length slots in
    let s = slots_bytes slots in
    let b = entry_bytes e in
    let id = e.identity.bytes in
    let d : apart_from n 0 (take 16 (b ++ s)) s ≡ differs id (identities slots) =
    ap (λ (i : Text). apart_from n 0 i s) (identity_front e s l)
    ∙ row_apart id (is_filled_real id (legal_filled e l)) slots st in
    ap (λ (t : Text). records_legal (suc n) a (p ++ t)) (partner_bytes e s (legal_full e l))
    ∙ pass_used p s a n h b k.size
    ∙ three (rule.legal (entry_in b)) (apart_from n 0 (take 16 (b ++ s)) s) (differs id (identities slots))
    (records_legal n (a + partner_size) ((p ++ (2 ∷ b)) ++ s)) (apart (identities slots)) (ap rule.legal k.back ∙ l) d
    (pass_row slots st (p ++ (2 ∷ b)) (a + partner_size) (length_there p s a n h b k.size))
    ∙ ap apart (sym (identities_full e slots (legal_full e l)))

-- ---- a row that passes is stored as it is read

-- what a pass found right at a place
pub data There (n at : ℕ) (s : Text) : Type 0 where
  a_vacant : get_or s at 0 ≡ 0 → at < length s → There n at s
  a_partner : get_or s at 0 ≡ 2 → at + partner_size ≤ length s → rule.legal (entry_at at s) ≡ true → There n at s

there : (n at : ℕ) (s : Text) → record_legal n at s ≡ true → There n at s
unfolding record_legal
there n at s h = go (eqb (get_or s at 0) 0) refl h
  where
    rest : Bool
    rest = apart_from n (at + partner_size) (identity_at at s) s

    go : (b : Bool) → eqb (get_or s at 0) 0 ≡ b
        → cond b (ltb at (length s))
        (eqb (get_or s at 0) 2 && leb (at + partner_size) (length s) && rule.legal (entry_at at s) && rest)
        ≡ true
        → There n at s
    go true z h = a_vacant (eqb-true (get_or s at 0) 0 z) (ltb-true at (length s) h)
    go false z h =
        let x = both (eqb (get_or s at 0) 2 && leb (at + partner_size) (length s) && rule.legal (entry_at at s)) rest h in
        let y = both (eqb (get_or s at 0) 2 && leb (at + partner_size) (length s)) (rule.legal (entry_at at s)) x.0 in
        let w = both (eqb (get_or s at 0) 2) (leb (at + partner_size) (length s)) y.0 in
        a_partner (eqb-true (get_or s at 0) 2 w.0) (leb-true (at + partner_size) (length s) w.1) y.1

pub length_row : (n : ℕ) (s : Text) → length (slots_in n s) ≡ n
unfolding slots_in
length_row zero s = refl
length_row (suc n) s = ap suc (length_row n (drop (record_length (get_or s 0 0)) s))

pub record Row (n at : ℕ) (s : Text) : Type 0 where
  pub stored : Stored (slots_in n (drop at s))
  pub bytes : slots_bytes (slots_in n (drop at s)) ≡ drop at s

row_end : (at : ℕ) (s : Text) → records_legal 0 at s ≡ true → Row 0 at s
unfolding records_legal slots_in
row_end at s h =
    let l : length s ≡ at = sym (eqb-true at (length s) h) in
    let d : length s ≤ at = omega arith in
    record { stored = end; bytes = sym (drop_of_length-le s d) }

row_vacant : (n at : ℕ) (s : Text) → get_or s at 0 ≡ 0 → at < length s → Row n (at + 1) s → Row (suc n) at s
row_vacant n at s g h row =
    let d : drop at s ≡ 0 ∷ drop (at + 1) s = drop_step s at h ∙ ap (λ (x : ℕ). x ∷ drop (at + 1) s) g in
    let l : slots_in (suc n) (drop at s) ≡ empty ∷ slots_in n (drop (at + 1) s) =
    ap (slots_in (suc n)) d ∙ vacant_in n (drop (at + 1) s) in
    record {
      stored = subst Stored (sym l) (vacant row.stored);
      bytes = ap slots_bytes l ∙ vacant_bytes (slots_bytes (slots_in n (drop (at + 1) s)))
          ∙ ap (λ (t : Text). 0 ∷ t) row.bytes ∙ sym d;
    }

row_used : (n at : ℕ) (s : Text) → all_octets s ≡ true → get_or s at 0 ≡ 2 → at + partner_size ≤ length s
    → rule.legal (entry_at at s) ≡ true → Row n (at + partner_size) s → Row (suc n) at s
unfolding entry_at
row_used n at s o g h l row =
    let b = take entry_size (drop (at + 1) s) in
    let e = entry_in b in
    let r = drop (at + partner_size) s in
    let size : length b ≡ entry_size = length-take-le entry_size (drop (at + 1) s) (omega (arith, length-drop (at + 1) s)) in
    let back : entry_bytes e ≡ b = read_written b size (octets_part s (at + 1) entry_size o) in
    let i : at + 1 + entry_size ≡ at + partner_size = omega arith in
    let c : drop (at + 1) s ≡ b ++ r =
    sym (take-append-drop entry_size (drop (at + 1) s))
    ∙ ap (λ (t : Text). b ++ t) (drop-drop entry_size (at + 1) s ∙ ap (λ (j : ℕ). drop j s) i) in
    let d : drop at s ≡ 2 ∷ (b ++ r) =
    drop_step s at (omega arith) ∙ ap (λ (x : ℕ). x ∷ drop (at + 1) s) g ∙ ap (λ (t : Text). 2 ∷ t) c in
    let m : slots_in (suc n) (drop at s) ≡ e ∷ slots_in n r = ap (slots_in (suc n)) d ∙ partner_in n b r size in
    let k : Kept e = record { size = size_in b; back = ap entry_in back } in
    record {
      stored = subst Stored (sym m) (used l k row.stored);
      bytes = ap slots_bytes m ∙ partner_bytes e (slots_bytes (slots_in n r)) (legal_full e l)
          ∙ ap (λ (t : Text). 2 ∷ (entry_bytes e ++ t)) row.bytes ∙ ap (λ (t : Text). 2 ∷ (t ++ r)) back ∙ sym d;
    }

pub row : (n at : ℕ) (s : Text) → all_octets s ≡ true → records_legal n at s ≡ true → Row n at s
unfolding records_legal record_length
row zero at s o h = row_end at s h
row (suc n) at s o h =
    let b = both (record_legal n at s) (records_legal n (at + record_length (get_or s at 0)) s) h in
    go (there n at s b.0) b.1 (λ j. row n j s o)
  where
    go : There n at s → records_legal n (at + record_length (get_or s at 0)) s ≡ true
        → ((j : ℕ) → records_legal n j s ≡ true → Row n j s) → Row (suc n) at s
    go (a_vacant g l) r f =
        row_vacant n at s g l (f (at + 1) (ap (λ (x : ℕ). records_legal n (at + record_length x) s) (sym g) ∙ r))
    go (a_partner g l e) r f =
        row_used n at s o g l e (f (at + partner_size) (ap (λ (x : ℕ). records_legal n (at + record_length x) s) (sym g) ∙ r))
