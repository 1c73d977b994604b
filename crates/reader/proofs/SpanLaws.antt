-- What stands at the spans of a row: the texts of its values.
use Rattle.std.specs.Prelude.{Option, None, Some, option_map}
use mathlib.Core.Path.{◌≡◌, refl, sym, ap, ◌∙◌}
use mathlib.Core.Bool.{Bool, true, false, cond}
use mathlib.Core.List.{[], ◌∷◌, ◌++◌, append_assoc, append-nil}
use Prim.Native.Nat.{ℕ, ◌+◌, ◌-◌}
use native.Mathlib.Omega.{arith}
use lib.ListN.{length, take, drop, length-append, length-drop, take-append-drop}
use lib.Seq.{drop-drop, drop_at, take_at}
use Rattle.octets.specs.Text.{Text, ascii, blank, dot}
use Rattle.octets.specs.Part.{part}
use Rattle.octets.specs.declared.Span.{Span}
use Rattle.csm.specs.Fields.{Field, Contents, tag, field, kd, named, sub, mark, subfields, hex_text}
use Rattle.csm.specs.Fields as csm
use Rattle.csm.specs.Message.{Row, one, opt, Values, fields, closed, head_row, head_of, Reading, print_body, print, read}
use Rattle.csm.specs.Covered.{covered_part, mac_of}
use Rattle.csm.proofs.CoveredLaws.{mac_end, mac_end_length, sealed_text}
use Rattle.csm.proofs.NumberLaws.{hex_length}
use Rattle.csm.proofs.MessageLaws.{read_back}
use Rattle.fields.specs.Seen.{inner, span_of, name_at, kd_of}
use Rattle.reader.specs.Seen.{next_at, row_end, body_place, covered_span}
use Rattle.reader.specs.Claims.{KdParts}
use Rattle.reader.proofs.RowLaws.{field_stands}

-- ---- the one law: a text behind a front stands at the front's length

pub part_behind : (s : Text) (at : ℕ) (front w rest : Text) → drop at s ≡ front ++ (w ++ rest) → (n : ℕ)
    → n ≡ at + length front → part s (record { at = n; length = length w }) ≡ w
unfolding part
part_behind s at front w rest e n h =
    ap (λ (i : ℕ). take (length w) (drop i s)) h ∙ ap (take (length w)) (sym (drop-drop (length front) at s)
    ∙ ap (drop (length front)) e ∙ drop_at front (w ++ rest) (length front) refl)
    ∙ take_at w rest (length w) refl

-- what stands at a span that has a part, in two
pub part_front : (s : Text) (p : Span) (w : Text) → part s p ≡ w → drop p.at s ≡ w ++ drop p.length (drop p.at s)
unfolding part
part_front s p w e =
    sym (take-append-drop p.length (drop p.at s))
    ∙ ap (λ (u : Text). u ++ drop p.length (drop p.at s)) e

-- ---- a row

-- where a field's contents stand
abbrev pub span_at : (f : Field) → ℕ → Contents f → Span
span_at f at a = span_of (inner f) at (tag f) a

-- at the span of a field stand its contents, if it is there
abbrev pub PartAt : Text → (f : Field) → ℕ → Option (Contents f) → Type 0
PartAt s f at None = Unit {0}
PartAt s f at (Some a) = part s (span_at f at a) ≡ inner f a

-- of each field of a row
abbrev pub Parts : Text → (rs : Row) → ℕ → Values rs → Type 0
Parts s [] at u = Unit {0}
Parts s (one f ∷ rs) at (a, v) = PartAt s f at (Some a) × Parts s rs (next_at f at (Some a)) v
Parts s (opt f ∷ rs) at (o, v) = PartAt s f at o × Parts s rs (next_at f at o) v

-- and where it ends stands what follows it
pub record Laid (s : Text) (rs : Row) (at : ℕ) (v : Values rs) (t : Text) : Type 0 where
  pub parts : Parts s rs at v
  pub rest : drop (row_end rs at v) s ≡ t

module _ (s end t : Text) where
  field_part : (f : Field) (at : ℕ) (a : Contents f) (u : Text) → drop at s ≡ (field f).print a ++ u
      → part s (span_at f at a) ≡ inner f a
  unfolding part
  field_part f at a u e =
      ap (take (length (inner f a))) (field_stands f s at a u e).contents
      ∙ take_at (inner f a) (blank ∷ u) (length (inner f a)) refl

  pub laid : (rs : Row) (at : ℕ) (v : Values rs) → drop at s ≡ (fields rs end).print v ++ t
      → Laid s rs at v (end ++ t)
  laid [] at v e = record { parts = tt; rest = e }
  laid (one f ∷ rs) at (a, v) e =
      let u = (fields rs end).print v in
      let k = e ∙ append_assoc ((field f).print a) u t in
      let r = laid rs (next_at f at (Some a)) v (field_stands f s at a (u ++ t) k).rest in
      record { parts = (field_part f at a (u ++ t) k, r.parts); rest = r.rest }
  laid (opt f ∷ rs) at (None, v) e =
      let r = laid rs at v e in
      record { parts = (tt, r.parts); rest = r.rest }
  laid (opt f ∷ rs) at (Some a, v) e =
      let u = (fields rs end).print v in
      let k = e ∙ append_assoc ((field f).print a) u t in
      let r = laid rs (next_at f at (Some a)) v (field_stands f s at a (u ++ t) k).rest in
      record { parts = (field_part f at a (u ++ t) k, r.parts); rest = r.rest }

-- the head of a text that is read, and the body behind it
pub head_laid : (t : Text) (q : Reading) → read t ≡ Some q → Laid t head_row 4 (head_of q) (print_body q.body)
unfolding print
head_laid t q e = laid t [] (print_body q.body) head_row 4 (head_of q) (ap (drop 4) (read_back t q e).1)

-- the row of its body, to the closing parenthesis
pub body_laid : (t : Text) (q : Reading) → read t ≡ Some q → (rs : Row) (v : Values rs)
    → print_body q.body ≡ (closed rs).print v → Laid t rs (body_place q) v (ascii ")")
body_laid t q e rs v b =
    laid t (ascii ")") [] rs (body_place q) v ((head_laid t q e).rest ∙ b ∙ sym (append-nil ((closed rs).print v)))

-- ---- the names of a KD

module _ (s : Text) (at : ℕ) where
  -- behind the digits, the mark's subfield, a dot and m
  name_there : (h : Text) → length h ≡ 16 → (p : Bool) (m w x : Text)
      → drop at s ≡ h ++ (sub (mark p) ++ (dot ∷ m ++ (w ++ x))) → (n : ℕ)
      → n ≡ cond p (at + 19) (at + 18) + length m → part s (record { at = n; length = length w }) ≡ w
  name_there h l p m w x e n k =
      part_behind s at (h ++ (sub (mark p) ++ dot ∷ m)) w x (e ∙ regroup h (sub (mark p)) (dot ∷ m) (w ++ x)) n
      (k ∙ size p)
    where
      regroup : (h a b c : Text) → h ++ (a ++ (b ++ c)) ≡ (h ++ (a ++ b)) ++ c
      regroup h a b c = simp append_assoc

      size : (p : Bool) → cond p (at + 19) (at + 18) + length m ≡ at + length (h ++ (sub (mark p) ++ dot ∷ m))
      size true = omega (arith, length-append h (sub (mark true) ++ dot ∷ m))
      size false = omega (arith, length-append h (sub (mark false) ++ dot ∷ m))

  names_there : (x h : Text) → length h ≡ 16 → (p : Bool) (i j : Option Text)
      → drop at s ≡ (h ++ subfields p i j) ++ x
      → let n = cond p (at + 19) (at + 18) in
      (option_map (part s) (option_map (name_at n) i) ≡ i)
      × (option_map (part s) (option_map (name_at (n + length (named i) + 1)) j) ≡ j)
  names_there x h l p None None e = (refl, refl)
  names_there x h l p (Some v) None e =
      (ap Some (name_there h l p [] v x (simp append_assoc at e) (cond p (at + 19) (at + 18)) (omega arith)), refl)
  names_there x h l p None (Some w) e = (
    refl,
    ap Some (name_there h l p (dot ∷ []) w x (simp append_assoc at e) (cond p (at + 19) (at + 18) + 0 + 1) (omega arith)),
  )
  names_there x h l p (Some v) (Some w) e = (
    ap Some (name_there h l p [] v (sub w ++ x) (simp append_assoc at e) (cond p (at + 19) (at + 18)) (omega arith)),
    ap Some (name_there h l p (v ++ dot ∷ []) w x (e ∙ two h (sub (mark p)) v w x)
        (cond p (at + 19) (at + 18) + length v + 1) (omega (arith, length-append v (dot ∷ [])))),
  )
    where
      two : (h a v w x : Text)
          → (h ++ (a ++ (sub v ++ sub w))) ++ x ≡ h ++ (a ++ (sub (v ++ dot ∷ []) ++ (w ++ x)))
      two h a v w x = simp append_assoc

  pub kd_parts : (k : csm.Kd) → part s (kd_of at k).contents ≡ kd.text k → KdParts s (kd_of at k) k
  kd_parts k e =
      let x = drop (length (kd.text k)) (drop at s) in
      let n = names_there x (hex_text 16 k.key) (hex_length 16 k.key) k.p k.idk1 k.idk2
      (part_front s (kd_of at k).contents (kd.text k) e) in
      record { contents = e; idk1 = n.0; idk2 = n.1 }

-- ---- what a MAC covers, where nothing but its contents, a blank and the parenthesis stand behind `MAC/`

pub covered_there : (t : Text) (q : Reading) (m : ℕ) → read t ≡ Some q → mac_of q.body ≡ Some m
    → (p : Span) (n : ℕ) → n ≡ p.at + 9 + 1 → drop n t ≡ ascii ")" → part t (covered_span p) ≡ covered_part q
covered_there t q m e k p n l r =
    let u = covered_part q in
    let cut : t ≡ ascii "CSM(" ++ (u ++ mac_end m) = (read_back t q e).1 ∙ sealed_text q m k in
    let size : p.at - 8 ≡ length u =
    omega (arith, ap length cut, length-append u (mac_end m), mac_end_length m, ap length r, length-drop n t) in
    ap (λ (i : ℕ). part t (record { at = 4; length = i })) size
    ∙ part_behind t 4 [] u (mac_end m) (ap (drop 4) cut) 4 refl
