-- What a MAC covers is the same from the text as from its reading, and ends 15 bytes before the text does.
use Rattle.std.specs.Prelude.{Some}
use mathlib.Core.Path.{◌≡◌, refl, sym, ap, ◌∙◌, subst}
use mathlib.Core.Bool.{Bool, true, false, cond, not, ◌&&◌}
use mathlib.Core.List.{[], ◌∷◌, ◌++◌, append_assoc, append-nil}
use Prim.Native.Nat.{ℕ, ◌-◌}
use native.Mathlib.Omega.{arith}
use lib.Dec.{eqb}
use lib.ListN.{length, take, drop, length-append}
use lib.Seq.{take_at}
use borrow.Author.Tests.{eqb-true, eqb-false, not-true, ne_eqb}
use Rattle.octets.specs.Text.{Text, ascii, blank, free, starts}
use Rattle.octets.proofs.Comparing.{both as and_true}
use Rattle.csm.specs.Format.{maybe_legal}
use Rattle.csm.specs.Fields.{tag, field, contents}
use Rattle.csm.specs.Fields.{Field, Contents, NOS, KD, IV, EDK, CTP, MAC}
use Rattle.csm.specs.Message.{Row, one, opt, Values, fields, head_row, flagged, head_of, head}
use Rattle.csm.specs.Message.{print_body, legal_body, message, fits}
use Rattle.csm.specs.Message.{Body, rsi, ksm, rsm, esm, option, Reading, legal, read, print}
use Rattle.csm.specs.Covered.{before, covered, covered_part, covered_fields, keyed_row, keyed_values}
use Rattle.csm.specs.Covered.{mac_of}
use Rattle.csm.proofs.TextLaws.{some_inj, none_some, all_free, clash, clash_starts}
use Rattle.csm.proofs.FieldLaws.{contents_char, contents_sound}
use Rattle.csm.proofs.MessageLaws.{read_back}
use Rattle.csm.proofs.CharLaws.{row_end, row_made, join}

abbrev pub MAC/ : Text
MAC/ = ascii "MAC/"

-- ---- `MAC/` does not begin in u, whatever follows

abbrev pub Passed : Text → Type 0
Passed u = (s : Text) → before MAC/ (u ++ s) ≡ u ++ before MAC/ s

passed_append : (u v : Text) → Passed u → Passed v → Passed (u ++ v)
passed_append u v a b s =
    ap (before MAC/) (append_assoc u v s) ∙ a (v ++ s) ∙ ap (λ (t : Text). u ++ t) (b s)
    ∙ sym (append_assoc u v (before MAC/ s))

-- a text with a slash and no blank does not begin where a blank comes before the next slash
no_front : (v w s : Text) → free blank v ≡ true → free 47 v ≡ false → free 47 w ≡ true
    → starts v (w ++ blank ∷ s) ≡ false
no_front [] w s a b c = cc
no_front (x ∷ v) [] s a b c =
    let h = not-true (eqb x 32) (and_true (not (eqb x 32)) (free blank v) a).0 in
    rw (ne_eqb 32 x (λ e. eqb-false x 32 h (sym e)))
no_front (x ∷ v) (y ∷ w) s a b c = go (eqb y x) refl (eqb x 47) refl (no_front v w s)
  where
    h : (not (eqb y 47) ≡ true) × (free 47 w ≡ true)
    h = and_true (not (eqb y 47)) (free 47 w) c

    go : (m : Bool) → eqb y x ≡ m → (n : Bool) → eqb x 47 ≡ n
        → (free blank v ≡ true → free 47 v ≡ false → free 47 w ≡ true → starts v (w ++ blank ∷ s) ≡ false)
        → m && starts v (w ++ blank ∷ s) ≡ false
    go false q n r f = refl
    go true q true r f =
        let i : y ≡ 47 = eqb-true y x q ∙ eqb-true x 47 r in
        absurd (eqb-false y 47 (not-true (eqb y 47) h.0) i)
    go true q false r f = f (and_true (not (eqb x 32)) (free blank v) a).1 (rw r at b) h.1

before_step : (x : ℕ) (s : Text) → starts MAC/ (x ∷ s) ≡ false → before MAC/ (x ∷ s) ≡ x ∷ before MAC/ s
before_step x s e = ap (λ (b : Bool). cond b [] (x ∷ before MAC/ s)) e

word_passed : (w : Text) → free 47 w ≡ true → Passed (w ++ blank ∷ [])
word_passed [] k s = refl
word_passed (x ∷ w) k s =
    let i = ap (starts MAC/) (append_assoc (x ∷ w) (blank ∷ []) s) ∙ no_front MAC/ (x ∷ w) s refl refl k in
    let j = word_passed w (and_true (not (eqb x 47)) (free 47 w) k).1 s in
    before_step x ((w ++ blank ∷ []) ++ s) i ∙ ap (λ (t : Text). x ∷ t) j

-- ---- every field but MAC is passed, and so is a row of such

-- `MAC/` begins nowhere in w, which is computed
abbrev pub clear : Text → Bool
clear [] = true
clear (x ∷ w) = clash MAC/ (x ∷ w) && clear w

clear_passed : (w : Text) → clear w ≡ true → Passed w
clear_passed [] k s = refl
clear_passed (x ∷ w) k s =
    let h = and_true (clash MAC/ (x ∷ w)) (clear w) k in
    before_step x (w ++ s) (clash_starts MAC/ (x ∷ w) s h.0) ∙ ap (λ (t : Text). x ∷ t) (clear_passed w h.1 s)

pub field_passed : (f : Field) → clear (tag f) ≡ true → (a : Contents f) → (field f).legal a ≡ true
    → Passed ((field f).print a)
field_passed f c a k =
    let b = (contents_sound f).blanked a k in
    passed_append (tag f) ((contents f).print a) (clear_passed (tag f) c)
    (subst Passed (sym b.text) (word_passed b.front (all_free contents_char 47 refl b.front b.chars)))

abbrev pub macless : Row → Bool
macless [] = true
macless (one f ∷ rs) = clear (tag f) && macless rs
macless (opt f ∷ rs) = clear (tag f) && macless rs

pub row_passed : (rs : Row) (v : Values rs) → (fields rs []).legal v ≡ true → macless rs ≡ true
    → Passed ((fields rs []).print v)
row_passed =
    row_made (λ rs t. macless rs ≡ true → Passed t) (λ c s. refl)
    (λ f a k rs t h.
    let on : macless (one f ∷ rs) ≡ true → Passed ((field f).print a ++ t) = λ c.
    let i = and_true (clear (tag f)) (macless rs) c in
    passed_append ((field f).print a) t (field_passed f i.0 a k) (h i.1) in
    (on, on)) (λ f rs t h c. h (and_true (clear (tag f)) (macless rs) c).1)

-- MAC's field and the end
abbrev pub mac_end : ℕ → Text
mac_end m = (field MAC).print m ++ ascii ")"

-- ---- a body that has a MAC: the covered fields, MAC's field, `)`

pub sealed_body : (b : Body) (m : ℕ) → mac_of b ≡ Some m → print_body b ≡ covered_fields b ++ mac_end m
sealed_body (rsi r) m e = absurd (none_some m e)
sealed_body (ksm r) m e =
    row_end keyed_row (mac_end r.mac) (keyed_values r)
    ∙ ap (λ (n : ℕ). covered_fields (ksm r) ++ mac_end n) (some_inj e)
sealed_body (rsm r) m e = ap mac_end (some_inj e)
sealed_body (esm r) m e = absurd (none_some m e)
sealed_body (option c w) m e = absurd (none_some m e)

pub sealed_passed : (b : Body) (m : ℕ) → mac_of b ≡ Some m → legal_body b ≡ true → Passed (covered_fields b)
sealed_passed (rsi r) m e k = absurd (none_some m e)
sealed_passed (ksm r) m e k =
    let nos = and_true (maybe_legal (field NOS) (flagged r.nos)) _ k in
    let first = and_true ((field KD).legal r.kd) _ nos.1 in
    let second = and_true (maybe_legal (field KD) r.second) _ first.1 in
    let iv = and_true (maybe_legal (field IV) r.iv) _ second.1 in
    let edk = and_true (maybe_legal (field EDK) r.edk) _ iv.1 in
    let ctp = and_true ((field CTP).legal r.ctp) _ edk.1 in
    row_passed keyed_row (keyed_values r) (rw (nos.0, first.0, second.0, iv.0, edk.0, ctp.0)) refl
sealed_passed (rsm r) m e k = λ s. refl
sealed_passed (esm r) m e k = absurd (none_some m e)
sealed_passed (option c w) m e k = absurd (none_some m e)

pub sealed_text : (r : Reading) (m : ℕ) → mac_of r.body ≡ Some m
    → print r ≡ ascii "CSM(" ++ (covered_part r ++ mac_end m)
unfolding print covered_part
sealed_text r m e =
    join (ascii "CSM(") ((fields head_row []).print (head_of r)) (print_body r.body)
    (covered_fields r.body) (mac_end m)
    (sealed_body r.body m e)

-- ---- text and reading agree, and so does the place

pub covered_agrees : (t : Text) (r : Reading) (m : ℕ) → read t ≡ Some r → mac_of r.body ≡ Some m
    → covered t ≡ covered_part r
unfolding covered covered_part legal print
covered_agrees t r m e s =
    let u = read_back t r e in
    let k = and_true (message.legal r) (fits (print r)) u.0 in
    let l = and_true (head.legal (head_of r)) (legal_body r.body) k.0 in
    let h = (fields head_row []).print (head_of r) in
    let c = covered_fields r.body in
    let p = passed_append h c (row_passed head_row (head_of r) l.0 refl)
    (sealed_passed r.body m s l.1) in
    ap covered (u.1 ∙ sealed_text r m s) ∙ p (mac_end m) ∙ append-nil (h ++ c)

-- `MAC/`, four hex digits, blank, four hex digits, blank, `)`: 15 bytes
pub mac_end_length : (m : ℕ) → length (mac_end m) ≡ 15
mac_end_length m = refl

pub covered_place : (t : Text) (r : Reading) (m : ℕ) → read t ≡ Some r → mac_of r.body ≡ Some m
    → covered t ≡ drop 4 (take (length t - 15) t)
covered_place t r m e s =
    let u = covered_part r in
    let q = (read_back t r e).1 ∙ sealed_text r m s in
    let front = ascii "CSM(" ++ u in
    let text = ascii "CSM(" ++ (u ++ mac_end m) in
    let i : take (length text - 15) text ≡ front =
    take_at front (mac_end m) (length text - 15) (simp length-append (omega arith)) in
    covered_agrees t r m e s ∙ ap (drop 4) (sym i) ∙ ap (λ (x : Text). drop 4 (take (length x - 15) x)) (sym q)
