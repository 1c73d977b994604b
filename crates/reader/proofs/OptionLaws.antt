-- A rest: its characters, its last blank, and the closing parenthesis that ends the text.
use Rattle.std.specs.Prelude.{Option, None, Some}
use mathlib.Core.Path.{◌≡◌, refl, sym, ap, ◌∙◌}
use mathlib.Core.Bool.{Bool, true, false, cond, ◌&&◌}
use mathlib.Core.List.{[], ◌∷◌}
use Prim.Native.Nat.{ℕ, suc, ◌+◌, ◌≤◌, ◌<◌}
use native.Mathlib.Omega.{arith}
use lib.Dec.{eqb, ltb}
use borrow.Author.Tests.{ltb-true, ltb-false}
use lib.ListN.{length, take, drop, get_or, drop_of_length-le}
use lib.Seq.{take_all, drop-cons, length-take-le}
use Rattle.octets.specs.Text.{Text, blank, all, free}
use Rattle.octets.specs.Part.{before}
use Rattle.octets.proofs.Parting.{before_fits, free_before, before_at}
use Rattle.csm.specs.Format.{bind, value, plain, upto, at_end}
use Rattle.csm.specs.Message.{text_char, ends_blank}
use Rattle.csm.proofs.FormatLaws.{upto_read, upto_none}
use Rattle.csm.proofs.WordTests.{plain_value as plain_test}
use Rattle.reader.specs.Stages.{any_rest, rest_seen, rest_body}
use Rattle.fields.specs.declared.Class.{Class}
use Rattle.reader.specs.declared.Head.{Head}
use Rattle.reader.specs.declared.Message.TheVariants as message

-- ---- a blank at the end, or nothing

pub ends_last : (s : Text) (n : ℕ) → length s ≡ suc n → ends_blank s ≡ eqb (get_or s n 0) blank
ends_last [] n e = absurd (omega arith)
ends_last (x ∷ []) n e =
    let q : 0 ≡ n = omega arith in
    ap (λ (i : ℕ). eqb (get_or (x ∷ []) i 0) blank) q
ends_last (x ∷ y ∷ w) n e =
    let q : suc (length w) ≡ n = omega arith in
    ends_last (y ∷ w) (length w) refl ∙ ap (λ (i : ℕ). eqb (get_or (x ∷ y ∷ w) i 0) blank) q

module _ (s : Text) where
  pub rest_not : all text_char s ≡ false → any_rest s ≡ false
  unfolding any_rest
  rest_not e = ap (λ (b : Bool). b && ends_blank s) e

  pub rest_ends : all text_char s ≡ true → (b : Bool) → ends_blank s ≡ b → any_rest s ≡ b
  unfolding any_rest
  rest_ends e b q = ap (λ (b : Bool). b && ends_blank s) e ∙ q

pub ends_empty : (s : Text) → length s ≡ 0 → ends_blank s ≡ true
ends_empty [] e = refl
ends_empty (x ∷ s) e = absurd (omega arith)

-- ---- a rest up to the closing parenthesis

-- a piece that stands for itself is read if it passes its test
pub plain_value : (p : Text → Bool) (w : Text) (b : Bool) → p w ≡ b → value (plain p) w ≡ cond b (Some w) None
plain_value p w b e = plain_test p w ∙ ap (λ (z : Bool). cond z (Some w) None) e

module _ (c : Class) (h : Head) (at : ℕ) (u : Text) where
  read_rest : before 41 u < length u
      → (upto 41 (plain any_rest)).read u
      ≡ bind (value (plain any_rest) (take (before 41 u) u)) (λ a. Some (a, drop (suc (before 41 u)) u))
  read_rest m = upto_read 41 (plain any_rest) u (before 41 u) m (free_before 41 u) (before_at 41 u m)

  -- the parenthesis is not there, or does not end the text
  pub rest_other : (length u ≡ before 41 u + 1 → ⊥) → rest_body c h at u ≡ None
  unfolding rest_body
  rest_other ne = go (ltb (before 41 u) (length u)) refl
    where
      more : (o : Option Text) (x : ℕ) (t : Text) → bind (bind o (λ a. Some (a, x ∷ t))) at_end ≡ None
      more None x t = refl
      more (Some a) x t = refl

      go : (b : Bool) → ltb (before 41 u) (length u) ≡ b → rest_seen c h at (bind ((upto 41 (plain any_rest)).read u) at_end) ≡ None
      go true e =
          let l = ltb-true (before 41 u) (length u) e in
          let n = before 41 u in
          let m : suc n < length u = omega (arith, ne) in
          rw (read_rest l, drop-cons u (suc n) 0 m)
          (ap (rest_seen c h at) (more (value (plain any_rest) (take n u)) (get_or u (suc n) 0) (drop (suc (suc n)) u)))
      go false e =
          let n = before 41 u in
          let m : length u ≤ n = ltb-false n (length u) e in
          let f : free 41 u ≡ true = ap (free 41) (sym (take_all n u m)) ∙ free_before 41 u in
          ap (λ (o : Option (Text × Text)). rest_seen c h at (bind o at_end)) (upto_none 41 (plain any_rest) u f)

  pub rest_whole : length u ≡ before 41 u + 1 → (b : Bool) → any_rest (take (before 41 u) u) ≡ b
      → rest_body c h at u
      ≡ cond b (Some (message.Option (record { head = h; class = c; rest = record { at = at; length = before 41 u } }))) None
  unfolding rest_body
  rest_whole l b e =
      let n = before 41 u in
      let m : length u ≤ suc n = omega (arith, l) in
      let size : length (take n u) ≡ n = length-take-le n u (before_fits 41 u) in
      rw (read_rest (omega (arith, l)), drop_of_length-le u m, plain_value any_rest (take n u) b e)
      (pick (take n u) b ∙ ap (λ (i : ℕ). cond b (Some (message.Option (record { head = h; class = c; rest = record { at = at; length = i } }))) None) size)
    where
      pick : (w : Text) (b : Bool)
          → rest_seen c h at (bind (bind (cond b (Some w) None) (λ a. Some (a, []))) at_end)
          ≡ cond b (Some (message.Option (record { head = h; class = c; rest = record { at = at; length = length w } }))) None
      pick w true = refl
      pick w false = refl
