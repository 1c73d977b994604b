-- A name filled with blanks, byte by byte: a character first, and behind a blank only blanks.
use mathlib.Core.Path.{◌≡◌, refl, sym, ap, ◌∙◌, subst}
use mathlib.Core.Bool.{Bool, true, false, not, ◌&&◌, ◌||◌, and_assoc, true≢false}
use mathlib.Core.List.{[], ◌∷◌, ◌++◌}
use Prim.Native.Nat.{ℕ, zero, suc, ◌+◌, ◌-◌, ◌≤◌}
use Prim.Native.Char.{code}
use native.Mathlib.Omega.{arith}
use lib.Dec.{eqb}
use lib.ListN.{length, take, drop, get_or, length-append}
use borrow.Author.Tests.{ne_eqb, eqb-true, le-leb}
use Rattle.octets.specs.Text.{Text, blank, all, run_char, is_name}
use Rattle.octets.specs.Part.{bare}
use Rattle.octets.specs.Number.{copies}
use Rattle.octets.proofs.Comparing.{both, join, iff, drop_step, drop_end}
use Rattle.octets.proofs.Numbers.{length_copies}
use Rattle.partner.specs.Entry.{filled}
use Rattle.partner.specs.Legal.{is_filled}
use Rattle.partner.proofs.Naming.{append_copies, name_parts, filled_filled, filled_bare, filled_name}
use Rattle.partner.proofs.Naming.{filled_length}

-- a character of a name
abbrev pub letter : ℕ → Bool
letter x = run_char (code "Z") x

-- nothing but blanks
abbrev all_blank : Text → Bool
all_blank s = all (λ b. eqb b blank) s

-- a blank is next, or the end
abbrev pub blank_next : Text → Bool
blank_next [] = true
blank_next (x ∷ s) = eqb x blank

-- characters, and behind a blank only blanks
abbrev pub spaced : Text → Bool
spaced [] = true
spaced (x ∷ s) = (letter x || eqb x blank && blank_next s) && spaced s

-- that, and a character first
abbrev formed : Text → Bool
formed s = spaced s && not (eqb (get_or s 0 0) blank)

-- ---- what is filled is formed

spaced_copies : (n : ℕ) → spaced (copies n blank) ≡ true
spaced_copies zero = refl
spaced_copies (suc zero) = refl
spaced_copies (suc (suc n)) = spaced_copies (suc n)

spaced_name : (w : Text) (n : ℕ) → all letter w ≡ true → spaced (w ++ copies n blank) ≡ true
spaced_name [] n h = spaced_copies n
spaced_name (x ∷ w) n h = let t = both (letter x) (all letter w) h in rw (t.0, spaced_name w n t.1)

name_first : (w : Text) (n : ℕ) → is_name w ≡ true → not (eqb (get_or (w ++ copies n blank) 0 0) blank) ≡ true
name_first [] n h = absurd (true≢false (sym h))
name_first (x ∷ w) n h =
    let t = both (letter x) (all letter w) (both (all letter (x ∷ w)) _ h).0 in
    ap not (ne_eqb x blank (λ e. true≢false (sym t.0 ∙ ap letter e)))

-- ---- what is formed is filled

record Spaced (s : Text) : Type 0 where
  name : Text
  left : ℕ
  letters : all letter name ≡ true
  whole : s ≡ name ++ copies left blank

blanks_are : (s : Text) → all_blank s ≡ true → s ≡ copies (length s) blank
blanks_are [] h = refl
blanks_are (x ∷ s) h =
    let t = both (eqb x blank) (all_blank s) h in
    λ j. eqb-true x blank t.0 j ∷ blanks_are s t.1 j

-- no blank is a character
never : (x : ℕ) → eqb x blank ≡ true → letter x ≡ false
never x e = ap letter (eqb-true x blank e)

only_blanks : (s : Text) → blank_next s ≡ true → spaced s ≡ true → all_blank s ≡ true
only_blanks [] e h = refl
only_blanks (x ∷ s) e h =
    let t = both (letter x || eqb x blank && blank_next s) (spaced s) h in
    let n = rw (never x e) at t.0 in
    rw e (only_blanks s (both (eqb x blank) (blank_next s) n).1 t.1)

apart : (s : Text) → spaced s ≡ true → Spaced s
apart [] h = record { name = []; left = 0; letters = refl; whole = refl }
apart (x ∷ s) h =
    let t = both (letter x || eqb x blank && blank_next s) (spaced s) h in
    go (letter x) refl t.0 t.1 (apart s t.1)
  where
    go : (b : Bool) → letter x ≡ b → (b || eqb x blank && blank_next s) ≡ true → spaced s ≡ true → Spaced s → Spaced (x ∷ s)
    go true p q h r = record {
      name = x ∷ r.name;
      left = r.left;
      letters = ap (λ (b : Bool). b && all letter r.name) p ∙ r.letters;
      whole = ap (λ (u : Text). x ∷ u) r.whole;
    }
    go false p q h r =
        let t = both (eqb x blank) (blank_next s) q in
        record {
          name = [];
          left = length (x ∷ s);
          letters = refl;
          whole = blanks_are (x ∷ s) (join t.0 (only_blanks s t.1 h));
        }

-- ---- so they are one

by_name : (s w : Text) (n : ℕ) → length s ≡ 16 → all letter w ≡ true → s ≡ w ++ copies n blank
    → not (eqb (get_or s 0 0) blank) ≡ true → is_filled s ≡ true
unfolding filled
by_name s [] zero l a e f = absurd (omega (arith, ap length e))
by_name s [] (suc n) l a e f =
    absurd (true≢false (sym f ∙ ap (λ (t : Text). not (eqb (get_or t 0 0) blank)) e))
by_name s (x ∷ w) n l a e f =
    let c = ap length e ∙ length-append (x ∷ w) (copies n blank) in
    let m : length (x ∷ w) + n ≡ 16 = omega (arith, c, length_copies n blank) in
    let named : is_name (x ∷ w) ≡ true =
    rw (a, le-leb 1 (length (x ∷ w)) (omega arith), le-leb (length (x ∷ w)) 16 (omega arith)) in
    subst (λ (t : Text). is_filled t ≡ true) (append_copies (x ∷ w) 16 16 n blank m (omega arith) ∙ sym e)
    (filled_filled (x ∷ w) named)

pub filled_formed : (s : Text) → length s ≡ 16 → is_filled s ≡ (spaced s && not (eqb (get_or s 0 0) blank))
unfolding filled
filled_formed s l = iff (is_filled s) (formed s) there back
  where
    there : is_filled s ≡ true → formed s ≡ true
    there h =
        let w = bare s in
        let named = filled_name s h in
        let size = (name_parts w named).1 in
        let n = 16 - length w in
        let e : s ≡ w ++ copies n blank =
        sym (filled_bare s h) ∙ append_copies w 16 16 n blank (omega (arith, size)) (omega arith) in
        let a : spaced s ≡ true = ap spaced e ∙ spaced_name w n (both (all letter w) _ named).0 in
        let b : not (eqb (get_or s 0 0) blank) ≡ true =
        ap (λ (t : Text). not (eqb (get_or t 0 0) blank)) e ∙ name_first w n named in
        rw (a, b)

    back : formed s ≡ true → is_filled s ≡ true
    back h =
        let t = both (spaced s) (not (eqb (get_or s 0 0) blank)) h in
        let r = apart s t.0 in
        by_name s r.name r.left l r.letters r.whole t.1

-- of another length it is not
pub filled_not : (s : Text) → (length s ≡ 16 → ⊥) → is_filled s ≡ false
filled_not s n = go (is_filled s) refl
  where
    go : (b : Bool) → is_filled s ≡ b → is_filled s ≡ false
    go true h = absurd (n (filled_length s h))
    go false h = h

-- ---- pair by pair

-- one pair more, at the front of the rest r
pub spaced_pair : (f : Bool) (s r : Text) → 2 ≤ length r → spaced s ≡ f && spaced r
    → let w = take 2 r in
    spaced s ≡ (f && (letter (get_or w 0 0) || eqb (get_or w 0 0) blank && eqb (get_or w 1 0) blank)) && spaced (drop 1 r)
spaced_pair f s [] h e = absurd (omega arith)
spaced_pair f s (x ∷ []) h e = absurd (omega arith)
spaced_pair f s (x ∷ y ∷ r) h e = e ∙ sym (and_assoc f (letter x || eqb x blank && eqb y blank) (spaced (y ∷ r)))

-- the last byte alone
pub spaced_last : (s : Text) → length s ≡ 16 → spaced (drop 15 s) ≡ letter (get_or s 15 0) || eqb (get_or s 15 0) blank
spaced_last s l =
    ap spaced (drop_step s 15 (omega arith) ∙ ap (λ (t : Text). get_or s 15 0 ∷ t) (drop_end s 16 (omega arith)))
    ∙ alone (letter (get_or s 15 0)) (eqb (get_or s 15 0) blank)
  where
    alone : (a b : Bool) → (a || b && true) && true ≡ a || b
    alone true b = refl
    alone false true = refl
    alone false false = refl
