-- What follows the head, by its class: the class's own fields, or an option's rest.
use Rattle.std.specs.Prelude.{Option, None, Some, option_map}
use mathlib.Core.Path.{◌≡◌, refl, sym, ap, ◌∙◌}
use mathlib.Core.Bool.{Bool, true, false, cond, not, ◌&&◌, ◌||◌, true≢false}
use mathlib.Core.List.{List, [], ◌∷◌, ◌++◌, append-nil}
use Prim.Native.Nat.{ℕ}
use lib.Dec.{eqb}
use borrow.Author.Tests.{eqb-false, ne_eqb, not-true}
use Rattle.octets.specs.Text.{Text, ascii, all, free, starts}
use Rattle.octets.proofs.Comparing.{both as and_true}
use Rattle.csm.specs.Format.{Format, bind, until, value, plain, upto, at_end, whole}
use Rattle.csm.specs.Fields.{RSI, KSM, RSM, ESM, DSM, ERS, RFS, RTR}
use Rattle.csm.specs.Fields as csm
use Rattle.csm.specs.Message.{Row, closed, Body, rsi, ksm, rsm, esm, option, rsi_row, ksm_row}
use Rattle.csm.specs.Message.{rsi_form, ksm_form, rsm_form, esm_form, rsi_record, ksm_record, text_char, ends_blank}
use Rattle.csm.specs.Message.{starts_any, rsi_options, ksm_options, is_option, is_rest, rest, under, or_else}
use Rattle.csm.specs.Message.{read_known, Values}
use Rattle.csm.proofs.TextLaws.{until_back}
use Rattle.csm.proofs.MessageLaws.{leads, leads_none}
use Rattle.fields.specs.Seen.{class_of}
use Rattle.reader.specs.Stages.{any_rest, rest_seen, rest_body, seen_as, whole_body, class_named, body}
use Rattle.reader.specs.Stages.{rsi_body, ksm_body, rsm_body, esm_body}
use Rattle.fields.specs.declared.Class.{Class}
use Rattle.fields.specs.declared.Class.TheVariants as class
use Rattle.reader.specs.Seen.{body_seen}
use Rattle.reader.specs.declared.Head.{Head}
use Rattle.reader.specs.declared.Message.{Message}
use Rattle.reader.proofs.RowLaws.{ends}

-- ---- either way to read a body, where the other reads nothing

or_none : (o : Option (Body × Text)) → or_else o None ≡ o
or_none None = refl
or_none (Some p) = refl

seen_map : {A : Type 0} (h : Head) (at : ℕ) (f : A → Body) (o : Option A)
    → option_map (body_seen h at) (option_map f o) ≡ seen_as h at f o
seen_map h at f None = refl
seen_map h at f (Some a) = refl

-- the class's own fields, by the form d
known_only : {A : Type 0} (h : Head) (at : ℕ) (c : csm.Class) (f : A → Body) (d : Format A) (u : Text)
    → read_known c u ≡ under f (d.read u) → (rest c).read u ≡ None
    → option_map (body_seen h at) (whole_body c u) ≡ seen_as h at f (whole d u)
known_only h at c f d u k e = rw (e, or_none (read_known c u), k, ends f (d.read u)) (seen_map h at f (whole d u))

-- a rest
option_seen : (h : Head) (at : ℕ) (c : csm.Class) (o : Option Text)
    → option_map (body_seen h at) (option_map (option c) o) ≡ rest_seen (class_of c) h at o
option_seen h at c None = refl
option_seen h at c (Some w) = refl

rest_only : (h : Head) (at : ℕ) (c : csm.Class) (u : Text) → read_known c u ≡ None
    → (rest c).read u ≡ (upto 41 (plain any_rest)).read u
    → option_map (body_seen h at) (whole_body c u) ≡ rest_body (class_of c) h at u
unfolding rest_body
rest_only h at c u k e =
    ap (λ (o : Option (Body × Text)). option_map (body_seen h at) (bind (or_else o (under (option c) ((rest c).read u))) at_end)) k
    ∙ ap (λ (o : Option (Text × Text)). option_map (body_seen h at) (bind (under (option c) o) at_end)) e
    ∙ ap (option_map (body_seen h at)) (ends (option c) ((upto 41 (plain any_rest)).read u))
    ∙ option_seen h at c (whole (upto 41 (plain any_rest)) u)

bind_none : {A B : Type 0} (o : Option A) → ◌≡◌ {A = Option B} (bind o (λ a. None)) None
bind_none None = refl
bind_none (Some a) = refl

-- ---- RSI and KSM: only the field after ORG decides

-- a text without the parenthesis stands at the front of a rest or not, whatever follows the rest
starts_front : (t w v : Text) → free 41 t ≡ true → starts t (w ++ 41 ∷ v) ≡ starts t w
starts_front [] w v e = refl
starts_front (c ∷ t) [] v e =
    let n = eqb-false c 41 (not-true (eqb c 41) (and_true (not (eqb c 41)) (free 41 t) e).0) in
    ap (λ (b : Bool). b && starts t v) (ne_eqb 41 c (λ q. n (sym q)))
starts_front (c ∷ t) (x ∷ w) v e =
    ap (λ (b : Bool). eqb x c && b) (starts_front t w v (and_true (not (eqb c 41)) (free 41 t) e).1)

abbrev frees : List Text → Bool
frees [] = true
frees (t ∷ ts) = free 41 t && frees ts

any_front : (ts : List Text) (w v : Text) → frees ts ≡ true → starts_any ts (w ++ 41 ∷ v) ≡ starts_any ts w
any_front [] w v e = refl
any_front (t ∷ ts) w v e =
    let k = and_true (free 41 t) (frees ts) e in
    let p = starts_front t w v k.0 in
    let q = any_front ts w v k.1 in
    λ i. p i || q i

-- what is read of a piece that passes the test p
abbrev pub pieces : (Text → Bool) → Option (Text × Text) → Option (Text × Text)
pieces p o = bind o (λ q. bind (value (plain p) q.0) (λ a. Some (a, q.1)))

-- what is read of the rest of a class whose options are the tags ts
rest_when : (c : csm.Class) (ts : List Text) → ((w : Text) → is_option c w ≡ starts_any ts w) → frees ts ≡ true
    → (u : Text) (b : Bool) → starts_any ts u ≡ b
    → (rest c).read u ≡ cond b ((upto 41 (plain any_rest)).read u) None
unfolding any_rest
rest_when c ts is f u b e = go (until 41 u) refl b e
  where
    front : (w t : Text) → until 41 u ≡ Some (w, t) → (b : Bool) → starts_any ts u ≡ b → is_option c w ≡ b
    front w t q b e = is w ∙ sym (any_front ts w t f) ∙ ap (starts_any ts) (sym (until_back 41 u (w, t) q)) ∙ e

    go : (o : Option (Text × Text)) → until 41 u ≡ o → (b : Bool) → starts_any ts u ≡ b
        → pieces (is_rest c) o ≡ cond b (pieces (λ w. all text_char w && ends_blank w) o) None
    go None q true e = refl
    go None q false e = refl
    go (Some (w, t)) q true e = rw (front w t q true e)
    go (Some (w, t)) q false e = rw (front w t q false e)

-- a row does not start with an option's tag
row_none : (rs : Row) (ts : List Text) → leads rs (ascii ")") ts ≡ true → (u : Text) → starts_any ts u ≡ true
    → (closed rs).read u ≡ None
row_none rs ts k u e = ap (closed rs).read (sym (append-nil u)) ∙ leads_none rs (ascii ")") ts k u [] e

-- ---- each class: an option, or its own fields

abbrev pub known_body : Class → Head → ℕ → Text → Option Message
known_body class.Rsi h at u = rsi_body h at u
known_body class.Ksm h at u = ksm_body h at u
known_body class.Rsm h at u = rsm_body h at u
known_body class.Esm h at u = esm_body h at u
known_body class.Dsm h at u = None
known_body class.Ers h at u = None
known_body class.Rfs h at u = None
known_body class.Rtr h at u = None

module _ (h : Head) (at : ℕ) (u : Text) where
  pub body_option : (c : Class) → is_option (class_named c) u ≡ true → body c h at u ≡ rest_body c h at u
  unfolding body any_rest
  body_option class.Rsi e =
      rest_only h at RSI u
      (ap (λ (o : Option (Values rsi_row × Text)). under rsi (bind o (λ p. Some (rsi_record p.0, p.1))))
      (row_none rsi_row rsi_options refl u e))
      (rest_when RSI rsi_options (λ w. refl) refl u true e)
  body_option class.Ksm e =
      rest_only h at KSM u
      (ap (λ (o : Option (Values ksm_row × Text)). under ksm (bind o (λ p. Some (ksm_record p.0, p.1))))
      (row_none ksm_row ksm_options refl u e))
      (rest_when KSM ksm_options (λ w. refl) refl u true e)
  body_option class.Rsm e = absurd (true≢false (sym e))
  body_option class.Esm e = absurd (true≢false (sym e))
  body_option class.Dsm e = rest_only h at DSM u refl refl
  body_option class.Ers e = rest_only h at ERS u refl refl
  body_option class.Rfs e = rest_only h at RFS u refl refl
  body_option class.Rtr e = rest_only h at RTR u refl refl

  pub body_known : (c : Class) → is_option (class_named c) u ≡ false → body c h at u ≡ known_body c h at u
  unfolding body rsi_body ksm_body rsm_body esm_body
  body_known class.Rsi e = known_only h at RSI rsi rsi_form u refl (rest_when RSI rsi_options (λ w. refl) refl u false e)
  body_known class.Ksm e = known_only h at KSM ksm ksm_form u refl (rest_when KSM ksm_options (λ w. refl) refl u false e)
  body_known class.Rsm e = known_only h at RSM rsm rsm_form u refl (bind_none (until 41 u))
  body_known class.Esm e = known_only h at ESM esm esm_form u refl (bind_none (until 41 u))
  body_known class.Dsm e = absurd (true≢false e)
  body_known class.Ers e = absurd (true≢false e)
  body_known class.Rfs e = absurd (true≢false e)
  body_known class.Rtr e = absurd (true≢false e)
