-- Every field is lawful: the guess of each kind of contents is right, and they hold no slash and end at
-- their blank.
use Rattle.std.specs.Prelude.{Option, None, Some}
use mathlib.Core.Path.{◌≡◌, refl, sym, ap, ◌∙◌}
use mathlib.Core.Bool.{Bool, true, false, not, ◌&&◌, ◌||◌}
use mathlib.Core.List.{List, [], ◌∷◌, ◌++◌, append_assoc, append-nil}
use Prim.Native.Nat.{ℕ, ◌/◌, ◌%◌, ◌^◌, ◌≤◌, ◌<◌}
use native.Mathlib.Omega.{arith}
use native.Mathlib.Nat.{div-add-mod'}
use lib.Arith.{digits_div, digits_mod}
use lib.Dec.{eqb, ltb}
use lib.ListN.{length}
use borrow.Author.Tests.{eqb-true, ne_eqb, ltb-true, not-true}
use Rattle.octets.specs.Text.{Text, ascii, blank, dot, all, free, same, within, run_char, is_run}
use Rattle.octets.proofs.Comparing.{both as and_true}
use Rattle.csm.specs.Format.{Word, Format, plain, upto}
use Rattle.csm.specs.Fields.{nothing, numeral, hex_text, hex, decimal, count, svr}
use Rattle.csm.specs.Fields.{erf, Kd, sub, mark, named, subfields, legal_name, split, nonempty}
use Rattle.csm.specs.Fields.{kd_guess, keyed, mcl, class_text, join_halves, halves, in_halves}
use Rattle.csm.specs.Fields.{half_digits}
use Rattle.csm.specs.Fields.{tag, contents, field}
use Rattle.csm.specs.Fields.{Class, RSI, KSM, RSM, ESM, DSM, ERS, RFS, RTR}
use Rattle.csm.specs.Fields.{Field, MCL, RCV, ORG, SVR, NOS, KD, IV, EDK, CTP, CTR, ERF, MAC, EDC}
use Rattle.csm.specs.Message.{text_char}
use Rattle.csm.proofs.TextLaws.{within_true, true_within, all_append, all_weaker, all_free, below}
pub use Rattle.csm.proofs.TextLaws.{below_at}
use Rattle.csm.proofs.FormatLaws.{Right, Lawful, upto_lawful, pre_lawful, both_lawful, as_form_lawful}
use Rattle.csm.proofs.NumberLaws.{hex_number, hex_run, decimal_number, decimal_counted}

-- ---- the characters of contents: no slash; and of a word: no blank either

abbrev pub contents_char : ℕ → Bool
contents_char x = text_char x && not (eqb x 47)

abbrev pub word_char : ℕ → Bool
word_char x = contents_char x && not (eqb x 32)

pub run_word : (top : ℕ) → top ≤ 90 → (x : ℕ) → run_char top x ≡ true → word_char x ≡ true
run_word top l x k = go (within 48 57 x) refl k
  where
    go : (b : Bool) → within 48 57 x ≡ b → b || within 65 top x ≡ true → word_char x ≡ true
    go true q k =
        let h = within_true 48 57 x q in
        rw (q, ne_eqb x 47 (λ e. omega arith), ne_eqb x 32 (λ e. omega arith))
    go false q k =
        let h = within_true 65 top x k in
        let w : within 65 90 x ≡ true = true_within 65 90 x (omega arith) (omega arith) in
        rw (q, w, ne_eqb x 47 (λ e. omega arith), ne_eqb x 32 (λ e. omega arith))

pub all_run_word : (top : ℕ) → top ≤ 90 → (w : Text) → all (run_char top) w ≡ true → all word_char w ≡ true
all_run_word top l w k = all_weaker (run_char top) word_char (run_word top l) w k

pub is_run_word : (top low high : ℕ) → top ≤ 90 → (w : Text) → is_run top low high w ≡ true
    → all word_char w ≡ true
is_run_word top low high l w k =
    all_run_word top l w (and_true (all (run_char top) w) (within low high (length w)) k).0

-- runs: names, IV, EDK
pub run_right : (top low high : ℕ) → top ≤ 90 → Right word_char (plain (is_run top low high))
run_right top low high l = record { right = λ w k. refl; chars = is_run_word top low high l }

-- NOS
nothing_right : Right word_char nothing
nothing_right = record { right = λ u k. refl; chars = λ u k. refl }

-- ---- numbers

pub hex_word : (k n : ℕ) → all word_char (hex_text k n) ≡ true
hex_word k n = all_run_word 70 (omega arith) (hex_text k n) (hex_run k n)

pub hex_right : (k : ℕ) → Right word_char (hex k)
hex_right k = record {
  right = λ n l. hex_number k n (ltb-true n (16 ^ k) l);
  chars = λ n l. hex_word k n;
}

pub count_right : Right word_char count
count_right = record {
  right = λ n k. let h = within_true 1 99_999_999 n k in decimal_number 7 n (omega arith);
  chars = λ n k.
      let h = within_true 1 99_999_999 n k in
      let c = decimal_counted 7 n (omega arith) (omega arith) in
      all_run_word 0 (omega arith) (decimal 7 n) c.digits;
}

-- ---- a word of numbers below n, each tried once

pub table_right : (n : ℕ) (c : Word ℕ) → ((i : ℕ) → c.legal i ≡ true → i < n)
    → below n (λ i. eqb (c.guess (c.text i)) i) ≡ true → below n (λ i. all word_char (c.text i)) ≡ true
    → Right word_char c
table_right n c low r f = record {
  right = λ i k. eqb-true (c.guess (c.text i)) i
      (below_at n (λ i. eqb (c.guess (c.text i)) i) r i (low i k));
  chars = λ i k. below_at n (λ i. all word_char (c.text i)) f i (low i k);
}

pub svr_right : Right word_char svr
svr_right = table_right 12 svr (λ i k. ltb-true i 12 k) refl refl

pub erf_right : Right word_char erf
erf_right = table_right 512 erf (λ i k. let h = within_true 1 511 i k in omega arith) refl refl

-- ---- KD

pub split_one : (w : Text) → free dot w ≡ true → split w ≡ w ∷ []
split_one [] k = refl
split_one (x ∷ w) k =
    let h = and_true (not (eqb x dot)) (free dot w) k in
    rw (not-true (eqb x dot) h.0, split_one w h.1)

pub split_more : (w v : Text) → free dot w ≡ true → split (w ++ dot ∷ v) ≡ w ∷ split v
split_more [] v k = refl
split_more (x ∷ w) v k =
    let h = and_true (not (eqb x dot)) (free dot w) k in
    rw (not-true (eqb x dot) h.0, split_more w v h.1)

-- no dot stands in a key, a mark or a name
run_dotless : (top : ℕ) → run_char top dot ≡ false → (w : Text) → all (run_char top) w ≡ true → free dot w ≡ true
run_dotless top z w k = all_free (run_char top) dot z w k

pub hex_dotless : (k n : ℕ) → free dot (hex_text k n) ≡ true
hex_dotless k n = run_dotless 70 refl (hex_text k n) (hex_run k n)

pub mark_dotless : (p : Bool) → free dot (mark p) ≡ true
mark_dotless true = refl
mark_dotless false = refl

pub name_dotless : (o : Option Text) → legal_name o ≡ true → free dot (named o) ≡ true
name_dotless None k = refl
name_dotless (Some w) k = run_dotless 90 refl w (and_true (all (run_char 90) w) (within 1 16 (length w)) k).0

mark_right : (p : Bool) → same (mark p) (ascii "P") ≡ p
mark_right true = refl
mark_right false = refl

pub name_right : (o : Option Text) → legal_name o ≡ true → nonempty (named o) ≡ o
name_right None k = refl
name_right (Some []) k = cc
name_right (Some (x ∷ w)) k = refl

-- the pieces behind the key
abbrev pub behind : Bool → Option Text → Option Text → List Text
behind p i (Some w) = mark p ∷ named i ∷ w ∷ []
behind p (Some v) None = mark p ∷ v ∷ []
behind true None None = ascii "P" ∷ []
behind false None None = []

pub split_kd : (k : Text) → free dot k ≡ true → (p : Bool) (i j : Option Text) → legal_name i ≡ true
    → legal_name j ≡ true → split (k ++ subfields p i j) ≡ k ∷ behind p i j
split_kd k f p i (Some w) a b =
    rw (
      split_more k (mark p ++ (sub (named i) ++ sub w)) f,
      split_more (mark p) (named i ++ sub w) (mark_dotless p),
      split_more (named i) w (name_dotless i a),
      split_one w (name_dotless (Some w) b),
    )
split_kd k f p (Some v) None a b =
    rw (
      split_more k (mark p ++ sub v) f,
      split_more (mark p) v (mark_dotless p),
      split_one v (name_dotless (Some v) a),
    )
split_kd k f true None None a b = rw (split_more k (ascii "P") f)
split_kd k f false None None a b = rw (append-nil k, split_one k f)

-- what they are guessed to be
guessed : (k : Text) (p : Bool) (i j : Option Text) → legal_name i ≡ true → legal_name j ≡ true
    → kd_guess (k ∷ behind p i j) ≡ record { key = numeral 16 0 k; p = p; idk1 = i; idk2 = j }
guessed k p i (Some w) a b = rw (mark_right p, name_right i a, name_right (Some w) b)
guessed k p (Some v) None a b = rw (mark_right p, name_right (Some v) a)
guessed k true None None a b = refl
guessed k false None None a b = refl

mark_word : (p : Bool) → all word_char (sub (mark p)) ≡ true
mark_word true = refl
mark_word false = refl

name_word : (o : Option Text) → legal_name o ≡ true → all word_char (sub (named o)) ≡ true
name_word None k = refl
name_word (Some w) k = is_run_word 90 1 16 (omega arith) w k

subfields_word : (p : Bool) (i j : Option Text) → legal_name i ≡ true → legal_name j ≡ true
    → all word_char (subfields p i j) ≡ true
subfields_word p i (Some w) a b =
    all_append word_char (sub (mark p)) (sub (named i) ++ sub w) (mark_word p)
    (all_append word_char (sub (named i)) (sub w) (name_word i a) (name_word (Some w) b))
subfields_word p (Some v) None a b =
    all_append word_char (sub (mark p)) (sub v) (mark_word p) (name_word (Some v) a)
subfields_word true None None a b = refl
subfields_word false None None a b = refl

pub keyed_right : (d : ℕ) → Right word_char (keyed d)
keyed_right d = record {
  right = λ r k.
      let h = and_true ((hex d).legal r.key) (legal_name r.idk1 && legal_name r.idk2) k in
      let i = and_true (legal_name r.idk1) (legal_name r.idk2) h.1 in
      let n : numeral 16 0 (hex_text d r.key) ≡ r.key = (hex_right d).right r.key h.0 in
      let put : ℕ → Kd = λ (n : ℕ). record { key = n; p = r.p; idk1 = r.idk1; idk2 = r.idk2 } in
      ap kd_guess (split_kd (hex_text d r.key) (hex_dotless d r.key) r.p r.idk1 r.idk2 i.0 i.1)
      ∙ guessed (hex_text d r.key) r.p r.idk1 r.idk2 i.0 i.1 ∙ ap put n;
  chars = λ r k.
      let h = and_true ((hex d).legal r.key) (legal_name r.idk1 && legal_name r.idk2) k in
      let i = and_true (legal_name r.idk1) (legal_name r.idk2) h.1 in
      all_append word_char (hex_text d r.key) (subfields r.p r.idk1 r.idk2)
      (hex_word d r.key) (subfields_word r.p r.idk1 r.idk2 i.0 i.1);
}

-- ---- MCL

-- each class has a name of three characters, which is read as it
pub class_named : (c : Class)
    → (mcl.guess (class_text c) ≡ c) × (all word_char (class_text c) ≡ true) × (length (class_text c) ≡ 3)
class_named RSI = (refl, refl, refl)
class_named KSM = (refl, refl, refl)
class_named RSM = (refl, refl, refl)
class_named ESM = (refl, refl, refl)
class_named DSM = (refl, refl, refl)
class_named ERS = (refl, refl, refl)
class_named RFS = (refl, refl, refl)
class_named RTR = (refl, refl, refl)

pub mcl_right : Right word_char mcl
mcl_right = record { right = λ c k. (class_named c).0; chars = λ c k. (class_named c).1 }

pub class_size : (c : Class) → length (class_text c) ≡ 3
class_size c = (class_named c).2

-- ---- contents: lawful, and their text is a blank after bytes that are no slash

pub record Blanked (t : Text) : Type 0 where
  pub front : Text
  pub text : t ≡ front ++ blank ∷ []
  pub chars : all contents_char front ≡ true

pub record Sound {A : Type 0} (c : Format A) : Type 0 where
  pub lawful : Lawful c
  pub blanked : (a : A) → c.legal a ≡ true → Blanked (c.print a)

word_contents : (x : ℕ) → word_char x ≡ true → contents_char x ≡ true
word_contents x k = (and_true (contents_char x) (not (eqb x 32)) k).0

pub word_sound : {A : Type 0} {c : Word A} → Right word_char c → Sound (upto blank c)
word_sound {c = c} r = record {
  lawful = upto_lawful blank c refl r;
  blanked = λ a k. record {
    front = c.text a;
    text = refl;
    chars = all_weaker word_char contents_char word_contents (c.text a) (r.chars a k);
  };
}

-- MAC, EDC
pub halves_sound : (k : ℕ) → Sound (in_halves k)
halves_sound k = record {
  lawful = as_form_lawful (join_halves k) (halves k) (both_lawful half half) right (λ n. div-add-mod' n (16 ^ k));
  blanked = λ n l. record {
    front = (hex_text k (n / 16 ^ k) ++ blank ∷ []) ++ hex_text k (n % 16 ^ k);
    text = sym (append_assoc (hex_text k (n / 16 ^ k) ++ blank ∷ []) (hex_text k (n % 16 ^ k)) (blank ∷ []));
    chars = all_append contents_char (hex_text k (n / 16 ^ k) ++ blank ∷ []) (hex_text k (n % 16 ^ k))
        (all_append contents_char (hex_text k (n / 16 ^ k)) (blank ∷ []) (digits (n / 16 ^ k)) refl)
        (digits (n % 16 ^ k));
  };
}
  where
    half : Lawful (upto blank (hex k))
    half = (word_sound (hex_right k)).lawful

    right : (p : ℕ × ℕ) → ltb p.0 (16 ^ k) && ltb p.1 (16 ^ k) ≡ true → halves k (join_halves k p) ≡ p
    right p l =
        let h = ltb-true p.1 (16 ^ k) (and_true (ltb p.0 (16 ^ k)) (ltb p.1 (16 ^ k)) l).1 in
        λ x. (digits_div p.0 h x, digits_mod p.0 h x)

    digits : (n : ℕ) → all contents_char (hex_text k n) ≡ true
    digits n = all_weaker word_char contents_char word_contents (hex_text k n) (hex_word k n)

-- ---- every field

pub contents_sound : (f : Field) → Sound (contents f)
contents_sound MCL = word_sound mcl_right
contents_sound RCV = word_sound (run_right _ _ _ (omega arith))
contents_sound ORG = word_sound (run_right _ _ _ (omega arith))
contents_sound SVR = word_sound svr_right
contents_sound NOS = word_sound nothing_right
contents_sound KD = word_sound (keyed_right 16)
contents_sound IV = word_sound (run_right _ _ _ (omega arith))
contents_sound EDK = word_sound (run_right _ _ _ (omega arith))
contents_sound CTP = word_sound count_right
contents_sound CTR = word_sound count_right
contents_sound ERF = word_sound erf_right
contents_sound MAC = halves_sound half_digits
contents_sound EDC = halves_sound half_digits

pub contents_lawful : (f : Field) → Lawful (contents f)
contents_lawful f = (contents_sound f).lawful

pub field_lawful : (f : Field) → Lawful (field f)
field_lawful f = pre_lawful (tag f) (contents_lawful f)
