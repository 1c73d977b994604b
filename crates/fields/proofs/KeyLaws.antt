-- Laws of a KD: what stands behind its dots.
use Rattle.std.proofs.Common.{◌≡◌, refl, sym, ap, ◌∙◌, Option, None, Some, option_map, Bool, true, false, cond, ◌&&◌, List, [], ◌∷◌, ℕ, ◌+◌, arith, length, get_or}
use Rattle.std.specs.Bool.{then_some}
use mathlib.Core.Bool.{true≢false}
use lib.Dec.{eqb}
use borrow.Author.Tests.{ne_eqb}
use Rattle.octets.specs.Text.{Text, ascii, dot, same, is_run, is_name}
use Rattle.octets.proofs.Comparing.{both as and_true}
use Rattle.csm.specs.Format.{value, until}
use Rattle.csm.specs.Fields.{numeral, named, split, nonempty, kd, kd_guess}
use Rattle.csm.proofs.TextLaws.{or_right}
use Rattle.csm.proofs.FieldLaws.{split_one, name_dotless}
use Rattle.csm.proofs.FormatLaws.{value_back}
use Rattle.csm.proofs.KdTest.{is_mark, is_maybe_name, is_subs, is_kd, kd_value, split_pieced}
use Rattle.fields.specs.Seen.{name_at, kd_of}
use Rattle.fields.specs.Steps.{subfields_seen}
use Rattle.fields.specs.declared.Kd.{Kd}
use Rattle.fields.specs.declared.keys.Subfields.{Subfields}
use Rattle.fields.proofs.PieceLaws.{cut, split_cut}

-- ---- nothing

pub empty_same : (w : Text) → same w [] ≡ eqb (length w) 0
empty_same [] = refl
empty_same (x ∷ w) = sym (ne_eqb (length (x ∷ w)) 0 (λ e. omega arith))

-- what a test lets through
pub when_some : {A : Type 0} (b : Bool) (a : A) → then_some b a ≡ cond b (Some a) None
when_some true a = refl
when_some false a = refl

-- ---- the subfields, from one piece to three

abbrev pub subs_of : ℕ → Text → Text → Text → Subfields
subs_of at m v w = record {
  p = same m (ascii "P");
  idk1 = option_map (name_at (at + length m + 1)) (nonempty v);
  idk2 = option_map (name_at (at + length m + 1 + length v + 1)) (nonempty w);
}

pub subs_none : (at : ℕ) → subfields_seen at [] ≡ Some (record { p = false; idk1 = None; idk2 = None })
unfolding subfields_seen
subs_none at = refl

pub subs_one : (at : ℕ) (m : Text)
    → subfields_seen at (m ∷ []) ≡ cond (same m (ascii "P")) (Some (subs_of at m [] [])) None
unfolding subfields_seen
subs_one at m = refl

pub subs_two : (at : ℕ) (m v : Text)
    → subfields_seen at (m ∷ v ∷ []) ≡ cond (is_mark m && is_name v) (Some (subs_of at m v [])) None
unfolding subfields_seen
subs_two at m v = refl

-- a second name has no dot
pub subs_three : (at : ℕ) (m v w : Text)
    → subfields_seen at (m ∷ v ∷ split w) ≡ cond (is_mark m && (is_maybe_name v && is_name w)) (Some (subs_of at m v w)) None
unfolding subfields_seen
subs_three at m v w = go (is_name w) refl
  where
    never : (u : Text) (a b : Bool) → ◌≡◌ {A = Option Subfields} (cond (a && (b && false)) (Some (subs_of at m v u)) None) None
    never u true true = refl
    never u true false = refl
    never u false b = refl

    more : (o : Option (Text × Text)) → is_name w ≡ false → is_subs (m ∷ v ∷ cut w o) ≡ (is_mark m && (is_maybe_name v && false))
    more None q = rw q
    more (Some p) q = let f = split_pieced p.1 in ap (λ (l : List Text). is_subs (m ∷ v ∷ p.0 ∷ l)) f.2 ∙ nothing (is_mark m) (is_maybe_name v)
      where
        nothing : (a b : Bool) → false ≡ (a && (b && false))
        nothing true true = refl
        nothing true false = refl
        nothing false b = refl

    go : (b : Bool) → is_name w ≡ b
        → subfields_seen at (m ∷ v ∷ split w) ≡ cond (is_mark m && (is_maybe_name v && b)) (Some (subs_of at m v w)) None
    go true q = rw (split_one w (name_dotless (Some w) q), q)
    go false q =
        ap (λ (b : Bool). cond b (Some (subs_of at m v (get_or (split w) 0 []))) None)
        (ap (λ (l : List Text). is_subs (m ∷ v ∷ l)) (split_cut w) ∙ more (until dot w) q)
        ∙ never (get_or (split w) 0 []) (is_mark m) (is_maybe_name v) ∙ sym (never w (is_mark m) (is_maybe_name v))

-- a mark that is none
pub subs_unmarked : (at : ℕ) (m w : Text) → is_mark m ≡ false → subfields_seen at (m ∷ split w) ≡ None
unfolding subfields_seen
subs_unmarked at m w q = let f = split_pieced w in ap (λ (l : List Text). subfields_seen at (m ∷ l)) f.2 ∙ go f.0 f.1
  where
    go : (p : Text) (l : List Text) → subfields_seen at (m ∷ p ∷ l) ≡ None
    go p [] = rw q
    go p (v ∷ []) = rw q
    go p (v ∷ u ∷ l) = refl

-- ---- the key, then subfields

-- the mark is P or nothing: IDK1 stands behind its dot
marked_place : (at : ℕ) (m : Text) → is_mark m ≡ true
    → cond (same m (ascii "P")) (at + 19) (at + 18) ≡ at + 17 + length m + 1
marked_place at [] e = omega arith
marked_place at (x ∷ []) e = go (eqb x 80) e
  where
    go : (b : Bool) → b && true ≡ true → cond (b && true) (at + 19) (at + 18) ≡ at + 17 + 1 + 1
    go true e = omega arith
    go false e = absurd (true≢false (sym e))
marked_place at (x ∷ y ∷ m) e = go (eqb x 80) e
  where
    go : (b : Bool) → b && false ≡ true → cond (b && false) (at + 19) (at + 18) ≡ at + 17 + length (x ∷ y ∷ m) + 1
    go true e = absurd (true≢false (sym e))
    go false e = absurd (true≢false (sym e))

names_place : (at : ℕ) (l : List Text) → is_subs l ≡ true
    → cond (same (get_or l 0 []) (ascii "P")) (at + 19) (at + 18) ≡ at + 17 + length (get_or l 0 []) + 1
names_place at [] e = omega arith
names_place at (m ∷ []) e = marked_place at m (or_right (same m []) (same m (ascii "P")) e)
names_place at (m ∷ v ∷ []) e = marked_place at m (and_true (is_mark m) _ e).0
names_place at (m ∷ v ∷ w ∷ []) e = marked_place at m (and_true (is_mark m) _ e).0
names_place at (m ∷ v ∷ w ∷ x ∷ l) e = absurd (true≢false (sym e))

name_length : (w : Text) → length (named (nonempty w)) ≡ length w
name_length [] = refl
name_length (x ∷ w) = refl

-- a key and its subfields
abbrev pub with_key : ℕ → Text → Text → Subfields → Kd
with_key at w d s = record {
  key = numeral 16 0 d;
  p = s.p;
  contents = record { at = at; length = length w };
  idk1 = s.idk1;
  idk2 = s.idk2;
}

pub key_split : (at : ℕ) (w d : Text) (l : List Text) → split w ≡ d ∷ l → (b : Bool) → is_run 70 16 16 d ≡ b
    → option_map (kd_of at) (value kd w) ≡ cond b (option_map (with_key at w d) (subfields_seen (at + 17) l)) None
unfolding subfields_seen
key_split at w d l e b q = go b (is_subs l) refl read
  where
    read : value kd w ≡ cond (b && is_subs l) (Some (kd_guess (d ∷ l))) None
    read =
        kd_value w ∙ ap (λ (ps : List Text). cond (is_kd ps) (Some (kd_guess ps)) None) e
        ∙ ap (λ (a : Bool). cond (a && is_subs l) (Some (kd_guess (d ∷ l))) None) q

    there : is_subs l ≡ true → value kd w ≡ Some (kd_guess (d ∷ l)) → kd_of at (kd_guess (d ∷ l))
        ≡ with_key at w d (subs_of (at + 17) (get_or l 0 []) (get_or l 1 []) (get_or l 2 []))
    there s r =
        let n = names_place at l s in
        let m = name_length (get_or l 1 []) in
        let c = sym (ap length (value_back kd w (kd_guess (d ∷ l)) r).1) in
        λ x. record {
          key = numeral 16 0 d;
          p = same (get_or l 0 []) (ascii "P");
          contents = record { at = at; length = c x };
          idk1 = option_map (name_at (n x)) (nonempty (get_or l 1 []));
          idk2 = option_map (name_at (n x + m x + 1)) (nonempty (get_or l 2 []));
        }

    go : (a s : Bool) → is_subs l ≡ s → value kd w ≡ cond (a && s) (Some (kd_guess (d ∷ l))) None
        → option_map (kd_of at) (value kd w)
        ≡ cond a (option_map (with_key at w d)
        (cond s (Some (subs_of (at + 17) (get_or l 0 []) (get_or l 1 []) (get_or l 2 []))) None)) None
    go true true s r = ap (option_map (kd_of at)) r ∙ ap Some (there s r)
    go true false s r = ap (option_map (kd_of at)) r
    go false s q r = ap (option_map (kd_of at)) r
