-- The format of a message is lawful: its rows, its classes, its options, all of it.
use Rattle.std.specs.Prelude.{Option, None, Some}
use mathlib.Core.Path.{◌≡◌, refl, sym, ap, ◌∙◌, subst}
use mathlib.Core.Bool.{Bool, true, false, ◌&&◌, ◌||◌}
use mathlib.Core.List.{List, [], ◌∷◌, ◌++◌, append_assoc}
use Prim.Native.Char.{code}
use lib.ListN.{length, drop}
use Rattle.octets.specs.Text.{Text, ascii, all, starts, is_name}
use Rattle.octets.specs.Part.{found}
use Rattle.octets.proofs.Comparing.{both as and_true, starts_split as starts_back}
use Rattle.csm.specs.Format.{Format, bind, after, plain, as_form, maybe_legal, whole}
use Rattle.csm.specs.Fields.{NOS, tag, contents, field}
use Rattle.csm.specs.Fields.{Class, RSI, KSM, RSM, ESM, DSM, ERS, RFS, RTR}
use Rattle.csm.specs.Message.{Row, one, opt, Values, fields, head_row, rsi_row, ksm_row, rsm_row}
use Rattle.csm.specs.Message.{esm_row, Head, head, closed}
use Rattle.csm.specs.Message.{Body, rsi, ksm, rsm, esm, option, Reading, class_of}
use Rattle.csm.specs.Message.{rsi_values, rsi_record, rsi_form, flagged, ksm_values, ksm_record, ksm_form}
use Rattle.csm.specs.Message.{rsm_values, rsm_record, rsm_form, esm_values, esm_record, esm_form}
use Rattle.csm.specs.Message.{counts_with_P, text_char, ends_blank, starts_any, ksm_options, rsi_options}
use Rattle.csm.specs.Message.{is_option, is_rest, rest, legal_body, print_body, under, or_else}
use Rattle.csm.specs.Message.{read_known, read_body, head_of, with_body, read_after, message, fits}
use Rattle.csm.specs.Message.{legal, print, read}
use Rattle.csm.proofs.TextLaws.{some_inj, none_some, cond_some, bind_some}
use Rattle.csm.proofs.TextLaws.{clash, clash_none}
use Rattle.csm.proofs.FormatLaws.{Right, Lawful, Back, upto_lawful, just_lawful, pre_lawful}
use Rattle.csm.proofs.FormatLaws.{both_lawful, maybe_lawful, as_form_lawful, such_that_lawful}
use Rattle.csm.proofs.FormatLaws.{whole_there, whole_back}
use Rattle.csm.proofs.FieldLaws.{field_lawful}

-- ---- rows: no field that may follow an optional one has its tag, which is computed

abbrev pub apart_from : Text → Row → Text → Bool
apart_from w [] end = clash w end
apart_from w (one f ∷ rs) end = clash w (tag f)
apart_from w (opt f ∷ rs) end = clash w (tag f) && apart_from w rs end

abbrev pub apart : Row → Text → Bool
apart [] end = true
apart (one f ∷ rs) end = apart rs end
apart (opt f ∷ rs) end = apart_from (tag f) rs end && apart rs end

pub apart_none : (w : Text) (rs : Row) (end : Text) → apart_from w rs end ≡ true
    → (v : Values rs) (t : Text) → after w ((fields rs end).print v ++ t) ≡ None
apart_none w [] end k v t = clash_none w end t k
apart_none w (one f ∷ rs) end k v t = simp append_assoc (clash_none w (tag f) _ k)
apart_none w (opt f ∷ rs) end k v t = go v.0 (and_true (clash w (tag f)) (apart_from w rs end) k)
    (apart_none w rs end)
  where
    go : (o : _) → (clash w (tag f) ≡ true) × (apart_from w rs end ≡ true)
        → (apart_from w rs end ≡ true → (v : Values rs) (t : Text)
        → after w ((fields rs end).print v ++ t) ≡ None)
        → after w ((fields (opt f ∷ rs) end).print (o, v.1) ++ t) ≡ None
    go None h r = r h.1 v.1 t
    go (Some a) h r = simp append_assoc (clash_none w (tag f) _ h.0)

pub fields_lawful : (rs : Row) (end : Text) → apart rs end ≡ true → Lawful (fields rs end)
fields_lawful [] end k = just_lawful end
fields_lawful (one f ∷ rs) end k = both_lawful (field_lawful f) (fields_lawful rs end k)
fields_lawful (opt f ∷ rs) end k =
    let h = and_true (apart_from (tag f) rs end) (apart rs end) k in
    maybe_lawful (field_lawful f) (fields_lawful rs end h.1)
    (λ v t. ap (λ (o : Option Text). bind o (contents f).read) (apart_none (tag f) rs end h.0 v t))

-- ---- the head and the classes

pub head_lawful : Lawful head
head_lawful = pre_lawful (ascii "CSM(") (fields_lawful head_row [] refl)

-- a closed row as a record that has its values
pub record_lawful : {A : Type 0} (rs : Row) → apart rs (ascii ")") ≡ true
    → (f : Values rs → A) (g : A → Values rs)
    → ((v : Values rs) → g (f v) ≡ v) → ((a : A) → f (g a) ≡ a) → Lawful (as_form f g (closed rs))
record_lawful rs k f g gf fg = as_form_lawful f g (fields_lawful rs (ascii ")") k) (λ v l. gf v) fg

pub rsi_lawful : Lawful rsi_form
rsi_lawful = record_lawful rsi_row refl rsi_record rsi_values (λ v. refl) (λ r. refl)

-- NOS is there or not, and legal either way
pub flagged_found : (o : Option (Unit {0})) → flagged (found o) ≡ o
flagged_found None = refl
flagged_found (Some u) = refl

pub found_flagged : (b : Bool) → found (flagged b) ≡ b
found_flagged true = refl
found_flagged false = refl

pub flagged_legal : (b : Bool) → maybe_legal (field NOS) (flagged b) ≡ true
flagged_legal true = refl
flagged_legal false = refl

pub ksm_lawful : Lawful ksm_form
ksm_lawful =
    record_lawful ksm_row refl ksm_record ksm_values (λ v i. (flagged_found v.0 i, v.1))
    (λ r. rw (found_flagged r.nos))

pub rsm_lawful : Lawful rsm_form
rsm_lawful = record_lawful rsm_row refl rsm_record rsm_values (λ v. refl) (λ r. refl)

pub esm_lawful : Lawful esm_form
esm_lawful =
    such_that_lawful (record_lawful esm_row refl esm_record esm_values (λ v. refl) (λ r. refl)) counts_with_P

-- ---- options: no known row starts as they do, which is computed

pub rest_right : (c : Class) → Right text_char (plain (is_rest c))
rest_right c = record {
  right = λ w k. refl;
  chars = λ w k.
      let h = and_true (is_option c w) (all text_char w && ends_blank w) k in
      (and_true (all text_char w) (ends_blank w) h.1).0;
}

pub rest_lawful : (c : Class) → Lawful (rest c)
rest_lawful c = upto_lawful (code ")") (plain (is_rest c)) refl (rest_right c)

-- w differs from each of the texts
abbrev pub clash_all : Text → List Text → Bool
clash_all w [] = true
clash_all w (t ∷ ts) = clash w t && clash_all w ts

pub starts_none : (w : Text) (ts : List Text) → clash_all w ts ≡ true
    → (s t : Text) → starts_any ts s ≡ true → after w (s ++ t) ≡ None
starts_none w [] c s t k = cc
starts_none w (x ∷ ts) c s t k = go (starts x s) refl k (and_true (clash w x) (clash_all w ts) c)
    (starts_none w ts)
  where
    go : (b : Bool) → starts x s ≡ b → b || starts_any ts s ≡ true
        → (clash w x ≡ true) × (clash_all w ts ≡ true)
        → (clash_all w ts ≡ true → (s t : Text) → starts_any ts s ≡ true → after w (s ++ t) ≡ None)
        → after w (s ++ t) ≡ None
    go false q k h r = r h.1 s t k
    go true q k h r =
        let u = drop (length x) s in
        ap (λ (v : Text). after w (v ++ t)) (starts_back x s q) ∙ ap (after w) (append_assoc x u t)
        ∙ clash_none w x (u ++ t) h.0

-- no field that may come first in the row has one of the tags ts
abbrev pub leads : Row → Text → List Text → Bool
leads [] end ts = clash_all end ts
leads (one f ∷ rs) end ts = clash_all (tag f) ts
leads (opt f ∷ rs) end ts = clash_all (tag f) ts && leads rs end ts

pub leads_none : (rs : Row) (end : Text) (ts : List Text) → leads rs end ts ≡ true
    → (s t : Text) → starts_any ts s ≡ true → (fields rs end).read (s ++ t) ≡ None
leads_none [] end ts k s t h = rw (starts_none end ts k s t h)
leads_none (one f ∷ rs) end ts k s t h = rw (starts_none (tag f) ts k s t h)
leads_none (opt f ∷ rs) end ts k s t h =
    let i = and_true (clash_all (tag f) ts) (leads rs end ts) k in
    rw (starts_none (tag f) ts i.0 s t h, leads_none rs end ts i.1 s t h)

pub rest_none : (rs : Row) (ts : List Text) → leads rs (ascii ")") ts ≡ true
    → (s t : Text) → starts_any ts s ≡ true → (closed rs).read ((s ++ code ")" ∷ []) ++ t) ≡ None
rest_none rs ts k s t h =
    ap (closed rs).read (append_assoc s (code ")" ∷ []) t) ∙ leads_none rs (ascii ")") ts k s (code ")" ∷ t) h

pub option_unknown : (c : Class) (w t : Text) → is_option c w ≡ true
    → read_known c ((rest c).print w ++ t) ≡ None
option_unknown RSI w t k = rw (rest_none rsi_row rsi_options refl w t k)
option_unknown KSM w t k = rw (rest_none ksm_row ksm_options refl w t k)
option_unknown RSM w t k = cc
option_unknown ESM w t k = cc
option_unknown DSM w t k = refl
option_unknown ERS w t k = refl
option_unknown RFS w t k = refl
option_unknown RTR w t k = refl

-- ---- bodies

pub body_there : (b : Body) (t : Text) → legal_body b ≡ true
    → read_body (class_of b) (print_body b ++ t) ≡ Some (b, t)
body_there (rsi r) t k = rw (rsi_lawful.there r t k)
body_there (ksm r) t k = rw (ksm_lawful.there r t k)
body_there (rsm r) t k = rw (rsm_lawful.there r t k)
body_there (esm r) t k = rw (esm_lawful.there r t k)
body_there (option c w) t k =
    let h = and_true (is_option c w) (all text_char w && ends_blank w) k in
    rw (option_unknown c w t h.0, (rest_lawful c).there w t k)

abbrev pub BodyBack : Class → Text → Body × Text → Type 0
BodyBack c s o = (class_of o.0 ≡ c) × (legal_body o.0 ≡ true) × (s ≡ print_body o.0 ++ o.1)

-- the form d under its constructor f
pub under_back : {A : Type 0} (f : A → Body) {d : Format A} → Lawful d → (c : Class)
    → ((a : A) → class_of (f a) ≡ c)
    → ((a : A) → legal_body (f a) ≡ d.legal a) → ((a : A) → print_body (f a) ≡ d.print a)
    → (s : Text) (o : Body × Text) → under f (d.read s) ≡ Some o → BodyBack c s o
under_back f {d} l c is ok pr s o e =
    let h = bind_some (d.read s) (λ p. Some (f p.0, p.1)) o e in
    let a = h.0.0 in
    let i = l.back s a h.0.1 h.1 in
    subst (BodyBack c s) (some_inj h.2)
    (is a, ok a ∙ i.0, i.1 ∙ ap (λ (x : Text). x ++ h.0.1) (sym (pr a)))

pub known_back : (c : Class) (s : Text) (o : Body × Text) → read_known c s ≡ Some o → BodyBack c s o
known_back RSI s o e = under_back rsi rsi_lawful RSI (λ a. refl) (λ a. refl) (λ a. refl) s o e
known_back KSM s o e = under_back ksm ksm_lawful KSM (λ a. refl) (λ a. refl) (λ a. refl) s o e
known_back RSM s o e = under_back rsm rsm_lawful RSM (λ a. refl) (λ a. refl) (λ a. refl) s o e
known_back ESM s o e = under_back esm esm_lawful ESM (λ a. refl) (λ a. refl) (λ a. refl) s o e
known_back DSM s o e = absurd (none_some o e)
known_back ERS s o e = absurd (none_some o e)
known_back RFS s o e = absurd (none_some o e)
known_back RTR s o e = absurd (none_some o e)

pub body_back : (c : Class) (s : Text) (o : Body × Text) → read_body c s ≡ Some o → BodyBack c s o
body_back c s o e = go (read_known c s) refl e
  where
    go : (k : Option (Body × Text)) → read_known c s ≡ k
        → or_else k (under (option c) ((rest c).read s)) ≡ Some o
        → BodyBack c s o
    go None q e = under_back (option c) (rest_lawful c) c (λ a. refl) (λ a. refl) (λ a. refl) s o e
    go (Some p) q e = known_back c s o (q ∙ e)

-- ---- the message

pub message_lawful : Lawful message
message_lawful = record {
  there = λ r t k.
      let h = and_true (head.legal (head_of r)) (legal_body r.body) k in
      let assoc = append_assoc (head.print (head_of r)) (print_body r.body) t in
      let first = ap head.read assoc ∙ head_lawful.there (head_of r) (print_body r.body ++ t)
      h.0 in
      let put : Option (Body × Text) → Option (Reading × Text) =
      λ (o : Option (Body × Text)). bind o (λ q. Some (with_body (head_of r) q.0, q.1)) in
      ap (λ (o : Option (Head × Text)). bind o read_after) first ∙ ap put (body_there r.body t h.1);
  back = λ s r t e.
      let h = bind_some (head.read s) read_after (r, t) e in
      let k = bind_some (read_body h.0.0.0 h.0.1) (λ q. Some (with_body h.0.0 q.0, q.1))
      (r, t) h.2 in
      let i = head_lawful.back s h.0.0 h.0.1 h.1 in
      let j = body_back h.0.0.0 h.0.1 k.0 k.1 in
      let b = k.0.0 in
      let named : h.0.0 ≡ head_of (with_body h.0.0 b) = λ x. (sym j.0 x, h.0.0.1) in
      let start = ap (λ (u : Text). head.print h.0.0 ++ u) j.2 in
      let text = i.1 ∙ start ∙ sym (append_assoc (head.print h.0.0) (print_body b) k.0.1) in
      subst (Back message s) (some_inj k.2) (
        rw (subst (λ (x : Head). head.legal x ≡ true) named i.0) j.1,
        text ∙ ap (λ (x : Head). (head.print x ++ print_body b) ++ k.0.1) named,
      );
}

-- ---- of at most 512 bytes

pub read_there : (r : Reading) → legal r ≡ true → read (print r) ≡ Some r
unfolding read legal print
read_there r e =
    let k = and_true (message.legal r) (fits (message.print r)) e in
    rw k.1 (whole_there message_lawful r k.0)

pub read_back : (t : Text) (r : Reading) → read t ≡ Some r → (legal r ≡ true) × (t ≡ print r)
unfolding read legal print
read_back t r e =
    let h = cond_some (fits t) (whole message t) r e in
    let k = whole_back message_lawful t r h.1 in
    (rw k.0 (subst (λ (u : Text). fits u ≡ true) k.1 h.0), k.1)

-- ---- for programs: what is legal, part by part

pub record Legal (r : Reading) : Type 0 where
  pub rcv : is_name r.rcv ≡ true
  pub org : is_name r.org ≡ true
  pub body : legal_body r.body ≡ true
  pub short : fits (print r) ≡ true

pub legal_parts : (r : Reading) → legal r ≡ true → Legal r
unfolding legal
legal_parts r e =
    let k = and_true (message.legal r) (fits (print r)) e in
    let l = and_true (head.legal (head_of r)) (legal_body r.body) k.0 in
    let h = and_true (is_name r.rcv) (is_name r.org && true) l.0 in
    record { rcv = h.0; org = (and_true (is_name r.org) true h.1).0; body = l.1; short = k.1 }
