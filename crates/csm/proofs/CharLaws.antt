-- The text of a legal reading is `CSM(`, characters of the set, `)`.
use Rattle.std.specs.Prelude.{None, Some}
use mathlib.Core.Path.{◌≡◌, refl, sym, ap, ◌∙◌}
use mathlib.Core.Bool.{Bool, true, not, ◌&&◌}
use mathlib.Core.List.{[], ◌∷◌, ◌++◌, append_assoc}
use Prim.Native.Nat.{ℕ}
use Prim.Native.Char.{code}
use lib.Dec.{eqb}
use lib.ListN.{length}
use Rattle.octets.specs.Text.{Text, ascii, blank, all}
use Rattle.octets.proofs.Comparing.{both as and_true}
use Rattle.csm.specs.Format.{maybe_legal, maybe_print}
use Rattle.csm.specs.Fields.{Contents, tag, contents, field}
use Rattle.csm.specs.Fields.{Field, MCL, RCV, ORG, SVR, NOS, KD, IV, EDK, CTP, CTR, ERF, MAC, EDC}
use Rattle.csm.specs.Message.{Row, one, opt, Values, fields, closed, head_row, rsi_row, ksm_row, rsm_row}
use Rattle.csm.specs.Message.{esm_row, rsi_values, ksm_values, rsm_values, esm_values, counts_with_P}
use Rattle.csm.specs.Message.{Body, rsi, ksm, rsm, esm, option, Reading, text_char, legal_body, print_body}
use Rattle.csm.specs.Message.{head, head_of, message, fits, legal, print}
use Rattle.csm.specs.Claims.{MessageText}
use Rattle.csm.proofs.TextLaws.{within_true, all_append, all_weaker, all_free}
use Rattle.csm.proofs.FieldLaws.{contents_char, contents_sound}
use Rattle.csm.proofs.MessageLaws.{rest_right}

-- ---- fields

pub tag_chars : (f : Field) → all text_char (tag f) ≡ true
tag_chars MCL = refl
tag_chars RCV = refl
tag_chars ORG = refl
tag_chars SVR = refl
tag_chars NOS = refl
tag_chars KD = refl
tag_chars IV = refl
tag_chars EDK = refl
tag_chars CTP = refl
tag_chars CTR = refl
tag_chars ERF = refl
tag_chars MAC = refl
tag_chars EDC = refl

contents_text : (x : ℕ) → contents_char x ≡ true → text_char x ≡ true
contents_text x k = (and_true (text_char x) (not (eqb x 47)) k).0

pub field_chars : (f : Field) (a : Contents f) → (field f).legal a ≡ true → all text_char ((field f).print a) ≡ true
field_chars f a k =
    let b = (contents_sound f).blanked a k in
    let i = all_weaker contents_char text_char contents_text b.front b.chars in
    all_append text_char (tag f) ((contents f).print a) (tag_chars f)
    (ap (all text_char) b.text ∙ all_append text_char b.front (blank ∷ []) i refl)

-- ---- rows: what ends a row stands after its fields, and does not decide what is legal

more : (a b c d : Text) → b ≡ c ++ d → a ++ b ≡ (a ++ c) ++ d
more a b c d e = rw (e, append_assoc a c d)

pub row_end : (rs : Row) (end : Text) (v : Values rs) → (fields rs end).print v ≡ (fields rs []).print v ++ end
row_end [] end v = refl
row_end (one f ∷ rs) end v = more ((field f).print v.0) _ _ _ (row_end rs end v.1)
row_end (opt f ∷ rs) end v = more (maybe_print (field f) v.0) _ _ _ (row_end rs end v.1)

pub row_legal : (rs : Row) (end : Text) (v : Values rs) → (fields rs end).legal v ≡ (fields rs []).legal v
row_legal [] end v = refl
row_legal (one f ∷ rs) end v = ap (λ (b : Bool). (field f).legal v.0 && b) (row_legal rs end v.1)
row_legal (opt f ∷ rs) end v = ap (λ (b : Bool). maybe_legal (field f) v.0 && b) (row_legal rs end v.1)

-- a law of the text of a row, from one of each field's text
pub row_made : (P : Row → Text → Type 0) → P [] []
    → ((f : Field) (a : Contents f) → (field f).legal a ≡ true → (rs : Row) (t : Text) → P rs t
    → P (one f ∷ rs) ((field f).print a ++ t) × P (opt f ∷ rs) ((field f).print a ++ t))
    → ((f : Field) (rs : Row) (t : Text) → P rs t → P (opt f ∷ rs) t)
    → (rs : Row) (v : Values rs) → (fields rs []).legal v ≡ true → P rs ((fields rs []).print v)
row_made P z s n [] v k = z
row_made P z s n (one f ∷ rs) (a, v) k =
    let h = and_true ((field f).legal a) ((fields rs []).legal v) k in
    (s f a h.0 rs _ (row_made P z s n rs v h.1)).0
row_made P z s n (opt f ∷ rs) (None, v) k = n f rs _ (row_made P z s n rs v k)
row_made P z s n (opt f ∷ rs) (Some a, v) k =
    let h = and_true ((field f).legal a) ((fields rs []).legal v) k in
    (s f a h.0 rs _ (row_made P z s n rs v h.1)).1

pub row_chars : (rs : Row) (v : Values rs) → (fields rs []).legal v ≡ true
    → all text_char ((fields rs []).print v) ≡ true
row_chars =
    row_made (λ rs t. all text_char t ≡ true) refl
    (λ f a k rs t h. let e = all_append text_char ((field f).print a) t (field_chars f a k) h in (e, e)) (λ f rs t h. h)

-- ---- bodies and the message

-- characters of the set, then `)`
pub record Shut (t : Text) : Type 0 where
  pub inner : Text
  pub text : t ≡ inner ++ ascii ")"
  pub chars : all text_char inner ≡ true

pub closed_shut : (rs : Row) (v : Values rs) → (closed rs).legal v ≡ true → Shut ((closed rs).print v)
closed_shut rs v k = record {
  inner = (fields rs []).print v;
  text = row_end rs (ascii ")") v;
  chars = row_chars rs v (sym (row_legal rs (ascii ")") v) ∙ k);
}

pub body_shut : (b : Body) → legal_body b ≡ true → Shut (print_body b)
body_shut (rsi r) k = closed_shut rsi_row (rsi_values r) k
body_shut (ksm r) k = closed_shut ksm_row (ksm_values r) k
body_shut (rsm r) k = closed_shut rsm_row (rsm_values r) k
body_shut (esm r) k =
    closed_shut esm_row (esm_values r)
    (and_true ((closed esm_row).legal (esm_values r)) (counts_with_P r) k).0
body_shut (option c w) k = record { inner = w; text = refl; chars = (rest_right c).chars w k }

pub join : (p h b c m : Text) → b ≡ c ++ m → (p ++ h) ++ b ≡ p ++ ((h ++ c) ++ m)
join p h b c m e = rw e (simp append_assoc)

pub legal_text : (r : Reading) → legal r ≡ true → MessageText (print r)
unfolding legal print
legal_text r e =
    let k = and_true (message.legal r) (fits (message.print r)) e in
    let l = and_true (head.legal (head_of r)) (legal_body r.body) k.0 in
    let h = (fields head_row []).print (head_of r) in
    let s = body_shut r.body l.1 in
    let c : all text_char (h ++ s.inner) ≡ true =
    all_append text_char h s.inner (row_chars head_row (head_of r) l.0) s.chars in
    let n = within_true 1 512 (length (message.print r)) k.1 in
    record {
      inner = h ++ s.inner;
      shape = join (ascii "CSM(") h (print_body r.body) s.inner (ascii ")") s.text;
      characters = c;
      no_open = all_free text_char (code "(") refl (h ++ s.inner) c;
      no_close = all_free text_char (code ")") refl (h ++ s.inner) c;
      some_byte = n.0;
      at_most = n.1;
    }
