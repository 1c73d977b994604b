-- Laws of pieces: what stands before the first of a byte, and what a field then reads.
use Rattle.std.proofs.Common.{◌≡◌, Option, None, Some, option_map, is_some, refl, sym, ap, ◌∙◌, subst, Bool, true, false, cond, not, ◌&&◌, List, [], ◌∷◌, ◌++◌, append_assoc, ℕ, suc, ◌+◌, ◌*◌, ◌<◌, arith, add-one, length, length-take-le, take, drop, nat_lt, ◌==◌}
use Rattle.std.specs.List.{position, position_or_len}
use Rattle.std.proofs.lemmas.List.Quantifiers.{position-Some}
use lib.Seq.{drop-drop, drop_at}
use borrow.Author.Tests.{lt-ltb, ltb-true}
use lib.Dec.{eqb, leb-suc-suc}
use lib.Pointwise.{pointwise}
use Rattle.octets.specs.Text.{Text, blank, dot, starts}
use Rattle.octets.proofs.Comparing.{drop_end}
use Rattle.octets.specs.declared.Span.{Span}
use Rattle.csm.specs.Format.{Word, Format, bind, after, until, value, upto, pre}
use Rattle.csm.specs.Fields.{split, onto, hex, hex_text, half_digits, join_halves, check}
use Rattle.csm.proofs.TextLaws.{some_inj}
use Rattle.csm.proofs.FormatLaws.{value_back, pre_lawful, upto_lawful}
use Rattle.csm.proofs.FieldLaws.{word_char, hex_right}
use Rattle.fields.specs.Seen.{taken, itself, check_text, next_of, as_number, field_at, name_at}
use Rattle.fields.specs.Steps.{piece, placed, shown_as, ReadAs, Parted}
use Rattle.fields.specs.declared.Field.{Field}
use Rattle.fields.specs.declared.Numeral.{Numeral}

-- ---- the first x of a text

position_step : (x y : ℕ) (s : Text)
    → position (λ b. b == x) (y ∷ s) ≡ cond (eqb y x) (Some 0) (option_map suc (position (λ b. b == x) s))
position_step x y s = go (eqb y x) (position_or_len (λ b. b == x) s) (length s)
  where
    go : (b : Bool) (n l : ℕ)
        → cond (nat_lt (cond (not b) (1 + n) 0) (suc l)) (Some (cond (not b) (1 + n) 0)) None
        ≡ cond b (Some 0) (option_map suc (cond (nat_lt n l) (Some n) None))
    go true n l = ap (λ b. cond b (Some 0) None) (lt-ltb 0 (suc l) (omega arith))
    go false n l =
        let e : 1 + n ≡ suc n = omega arith in
        ap (λ i. cond (nat_lt i (suc l)) (Some i) None) e
        ∙ ap (λ b. cond b (Some (suc n)) None) (leb-suc-suc (suc n) l) ∙ more (nat_lt n l)
      where
        more : (c : Bool) → cond c (Some (suc n)) None ≡ option_map suc (cond c (Some n) None)
        more true = refl
        more false = refl

-- what stands before and behind it
abbrev pub parts : Text → ℕ → Text × Text
parts s n = (take n s, drop (suc n) s)

pub until_found : (x : ℕ) (s : Text) → until x s ≡ option_map (parts s) (position (λ b. b == x) s)
until_found x [] = refl
until_found x (y ∷ s) =
    go (eqb y x) (position (λ b. b == x) s) (until_found x s) ∙ ap (option_map (parts (y ∷ s))) (sym (position_step x y s))
  where
    go : (b : Bool) (o : Option ℕ) → until x s ≡ option_map (parts s) o
        → cond b (Some ([], s)) (bind (until x s) (λ p. Some (y ∷ p.0, p.1)))
        ≡ option_map (parts (y ∷ s)) (cond b (Some 0) (option_map suc o))
    go true o e = refl
    go false None e = rw e
    go false (Some n) e = ap (λ o. bind o (λ p. Some (y ∷ p.0, p.1))) e

-- ---- the pieces between dots

abbrev pub cut : Text → Option (Text × Text) → List Text
cut w None = w ∷ []
cut w (Some p) = p.0 ∷ split p.1

pub split_cut : (w : Text) → split w ≡ cut w (until dot w)
split_cut [] = refl
split_cut (x ∷ w) = go (eqb x dot) (until dot w) (split_cut w)
  where
    go : (b : Bool) (o : Option (Text × Text)) → split w ≡ cut w o
        → cond b ([] ∷ split w) (onto x (split w))
        ≡ cut (x ∷ w) (cond b (Some ([], w)) (bind o (λ p. Some (x ∷ p.0, p.1))))
    go true o e = refl
    go false None e = rw e
    go false (Some p) e = rw e

pub split_at_dot : (w : Text) (n : ℕ) → position (λ b. b == dot) w ≡ Some n → split w ≡ take n w ∷ split (drop (n + 1) w)
split_at_dot w n e =
    split_cut w ∙ ap (cut w) (until_found dot w) ∙ ap (λ o. cut w (option_map (parts w) o)) e
    ∙ ap (λ i. take n w ∷ split (drop i w)) (sym (add-one n))

pub split_dotless : (w : Text) → position (λ b. b == dot) w ≡ None → split w ≡ w ∷ []
split_dotless w e = split_cut w ∙ ap (cut w) (until_found dot w) ∙ ap (λ o. cut w (option_map (parts w) o)) e

-- what `parted` says where a dot stands, and where none does
pub record Behind (p q r : ℕ × Text) : Type 0 where
  pub text : split p.1 ≡ q.1 ∷ split r.1
  pub at : r.0 ≡ p.0 + length q.1 + 1

module _ {A : Type 0} (f : A → ℕ × Text) {p q : ℕ × Text} where
  pub parted_some : (r : Option A) (x : A) → r ≡ Some x → Parted p q (option_map f r) → Behind p q (f x)
  parted_some r x e h =
      let k = subst (λ r. Parted p q (option_map f r)) e h in
      record { text = k.text; at = some_inj k.next }

  pub parted_none : (r : Option A) → r ≡ None → Parted p q (option_map f r) → split p.1 ≡ q.1 ∷ []
  parted_none r e h = (subst (λ r. Parted p q (option_map f r)) e h).text

-- what stands before the first x is as long as its place says
pub before_length : (x : ℕ) (w : Text) (n : ℕ) → position (λ b. b == x) w ≡ Some n → length (take n w) ≡ n
before_length x w n e = length-take-le n w (omega (arith, (position-Some (λ b. b == x) w n 0 e).0))

-- ---- the piece behind a tag

-- past the end there is no blank
pub no_text : (tag s : Text) (at : ℕ) → length s < at → taken (piece tag (drop at s)) ≡ None
unfolding piece
no_text tag s at h = ap (λ t. taken (bind (after tag t) (until blank))) (drop_end s at (omega arith)) ∙ go tag
  where
    go : (tag : Text) → taken (bind (after tag []) (until blank)) ≡ None
    go [] = refl
    go (x ∷ tag) = refl

-- as a slice's `strip_prefix` tests it
starts_is : (w s : Text) → starts w s ≡ pointwise eqb (take (length w) s) w
starts_is [] s = refl
starts_is (c ∷ w) [] = refl
starts_is (c ∷ w) (x ∷ s) = ap (λ b. eqb x c && b) (starts_is w s)

pub no_tag : (tag s : Text) → pointwise eqb (take (length tag) s) tag ≡ false → taken (piece tag s) ≡ None
unfolding piece
no_tag tag s e = ap (λ b. taken (bind (cond b (Some (drop (length tag) s)) None) (until blank))) (starts_is tag s ∙ e)

pub behind_tag : (tag s rest : Text) → pointwise eqb (take (length tag) s) tag ≡ true → rest ≡ drop (length tag) s
    → taken (piece tag s) ≡ option_map (λ n. take n rest) (position (λ b. b == blank) rest)
unfolding piece
behind_tag tag s rest e d =
    ap (λ b. taken (bind (cond b (Some (drop (length tag) s)) None) (until blank))) (starts_is tag s ∙ e)
    ∙ ap (λ t. taken (until blank t)) (sym d)
    ∙ ap taken (until_found blank rest) ∙ go (position (λ b. b == blank) rest)
  where
    go : (o : Option ℕ) → taken (option_map (parts rest) o) ≡ option_map (λ n. take n rest) o
    go None = refl
    go (Some n) = refl

-- what a call of the code found there
module _ {P : Type 0} (told : P → ℕ × Text) (i : ℕ) where
  pub piece_none : (o : Option Text) → option_map told None ≡ option_map (placed i) o → o ≡ None
  piece_none None e = refl
  piece_none (Some w) e = cc

  pub piece_some : (o : Option Text) (p : P) → option_map told (Some p) ≡ option_map (placed i) o
      → (w : Text) × (o ≡ Some w) × (told p ≡ placed i w)
  piece_some None p e = absurd (let z : ◌≡◌ {A = ℕ} 0 1 = cc in omega arith)
  piece_some (Some w) p e = (w, refl, some_inj e)

-- what a closure makes of a piece that was found
pub read_made : {P A : Type 0} (told : P → ℕ × Text) (gives : P → Option A → Type 0) (at : ℕ) (tag : Text)
    (o : Option Text) (p : P) → option_map told (Some p) ≡ option_map (placed (at + length tag)) o
    → (v : Option A) → gives p v → (r : Field A)
    → r ≡ record { contents = v; next = cond (is_some v) ((told p).0 + length (told p).1 + 1) at }
    → ReadAs told gives at tag o r
read_made {P} {A} told gives at tag o p e v g r q =
    let h = piece_some told (at + length tag) o p e in
    let i : r ≡ shown_as at tag h.0 v =
    q ∙ ap (λ (t : ℕ × Text). record { contents = v; next = cond (is_some v) (t.0 + length t.1 + 1) at }) h.2 ∙ go h.0 v in
    subst (λ o. ReadAs told gives at tag o r) (sym h.1) (p, v, h.2, g, i)
  where
    go : (w : Text) (v : Option A) → ◌≡◌ {A = Field A}
        (record { contents = v; next = cond (is_some v) (at + length tag + length w + 1) at }) (shown_as at tag w v)
    go w None = refl
    go w (Some a) = refl

-- ---- what a field reads

bind_bind : {A B C : Type 0} (o : Option A) (f : A → Option B) (g : B → Option C)
    → bind o (λ a. bind (f a) g) ≡ bind (bind o f) g
bind_bind None f g = refl
bind_bind (Some a) f g = refl

module _ {A : Type 0} (c : Word A) (tag : Text) where
  pub field_read : (s : Text)
      → (pre tag (upto blank c)).read s ≡ bind (piece tag s) (λ p. bind (value c p.0) (λ a. Some (a, p.1)))
  unfolding piece
  field_read s = bind_bind (after tag s) (until blank) (λ p. bind (value c p.0) (λ a. Some (a, p.1)))

  pub field_taken : (s : Text) → taken ((pre tag (upto blank c)).read s) ≡ bind (taken (piece tag s)) (value c)
  field_taken s = ap taken (field_read s) ∙ go (piece tag s)
    where
      one : (o : Option A) (t : Text) → taken (bind o (λ a. Some (a, t))) ≡ o
      one None t = refl
      one (Some a) t = refl

      go : (o : Option (Text × Text))
          → taken (bind o (λ p. bind (value c p.0) (λ a. Some (a, p.1)))) ≡ bind (taken o) (value c)
      go None = refl
      go (Some p) = one (value c p.0) p.1

  -- from what a closure makes of the contents
  pub read_as : {B P : Type 0} (show : Span → A → B) (told : P → ℕ × Text) (gives : P → Option B → Type 0) (s : Text)
      (at : ℕ) (r : Field B) → ReadAs told gives at tag (taken (piece tag (drop at s))) r
      → ((p : P) (o : Option B) → gives p o → o ≡ option_map (show (name_at (told p).0 (told p).1)) (value c (told p).1))
      → r ≡ field_at show c.text at tag (taken ((pre tag (upto blank c)).read (drop at s)))
  read_as {B} {P} show told gives s at r h k =
      go (taken (piece tag (drop at s))) h ∙ ap (field_at show c.text at tag) (sym (field_taken (drop at s)))
    where
      there : (w : Text) (o : Option A) → value c w ≡ o
          → shown_as at tag w (option_map (show (name_at (at + length tag) w)) o) ≡ field_at show c.text at tag o
      there w None e = refl
      there w (Some a) e =
          ap (λ (u : Text). shown_as at tag u (Some (show (name_at (at + length tag) u) a))) (value_back c w a e).1

      go : (o : Option Text) → ReadAs told gives at tag o r → r ≡ field_at show c.text at tag (bind o (value c))
      go None h = h
      go (Some w) (p, o, e, g, q) =
          let i : o ≡ option_map (show (name_at (at + length tag) w)) (value c w) =
          k p o g ∙ ap (λ (t : ℕ × Text). option_map (show (name_at t.0 t.1)) (value c t.1)) e in
          q ∙ ap (shown_as at tag w) i ∙ there w (value c w) refl

-- ---- contents that were found

-- behind a tag at a place stand w, a blank and t
pub record Stands (tag s : Text) (at : ℕ) (w t : Text) : Type 0 where
  pub contents : drop (at + length tag) s ≡ w ++ blank ∷ t
  pub rest : drop (next_of itself at tag (Some w)) s ≡ t

pub stands : (tag s : Text) (at : ℕ) (w t : Text) → drop at s ≡ tag ++ (w ++ blank ∷ t) → Stands tag s at w t
stands tag s at w t e =
    let u : drop (at + length tag) s ≡ w ++ blank ∷ t =
    sym (drop-drop (length tag) at s) ∙ ap (drop (length tag)) e ∙ drop_at tag (w ++ blank ∷ t) (length tag) refl in
    let m : at + length tag + length w + 1 ≡ at + length tag + suc (length w) = omega arith in
    record {
      contents = u;
      rest = ap (λ (i : ℕ). drop i s) m ∙ sym (drop-drop (suc (length w)) (at + length tag) s)
          ∙ ap (drop (suc (length w))) u ∙ behind w;
    }
  where
    behind : (w : Text) → drop (suc (length w)) (w ++ blank ∷ t) ≡ t
    behind [] = refl
    behind (x ∷ w) = behind w

-- ---- MAC, EDC: two halves

abbrev pub half : Format ℕ
half = upto blank (hex half_digits)

abbrev pub half_at : Text → Text → ℕ → Option ℕ → Field Numeral
half_at tag s at o = field_at as_number (hex half_digits).text at tag o

-- of a half that was read: it is small, and what follows it
pub record Half (tag s : Text) (at h : ℕ) (t : Text) : Type 0 where
  pub small : h < 65536
  pub rest : t ≡ drop (at + length tag + 5) s

half_read : (tag s : Text) (at h : ℕ) (t : Text) → (pre tag half).read (drop at s) ≡ Some (h, t) → Half tag s at h t
half_read tag s at h t e =
    let b = (pre_lawful tag (upto_lawful {p = word_char} blank (hex half_digits) refl (hex_right half_digits))).back (drop at s) h t e in
    let w = hex_text half_digits h in
    let r = stands tag s at w t (b.1 ∙ grouped tag w t) in
    let n : at + length tag + 5 ≡ at + length tag + length w + 1 = omega arith in
    record {
      small = ltb-true h 65536 b.0;
      rest = sym r.rest ∙ ap (λ (i : ℕ). drop i s) (sym n);
    }
  where
    grouped : (g w t : Text) → (g ++ (w ++ blank ∷ [])) ++ t ≡ g ++ (w ++ blank ∷ t)
    grouped g w t = simp append_assoc

-- a half that is shown is small
pub half_bound : (tag s : Text) (at : ℕ) (f : Field Numeral)
    → f ≡ half_at tag s at (taken ((pre tag half).read (drop at s))) → (m : Numeral) → f.contents ≡ Some m → m.value < 65536
half_bound tag s at f e m i = go ((pre tag half).read (drop at s)) refl (sym (ap (λ (g : Field Numeral). g.contents) e) ∙ i)
  where
    go : (o : Option (ℕ × Text)) → (pre tag half).read (drop at s) ≡ o → (half_at tag s at (taken o)).contents ≡ Some m
        → m.value < 65536
    go None q j = cc
    go (Some (h, t)) q j =
        let l = (half_read tag s at h t q).small in
        let k : h ≡ m.value = ap (λ (n : Numeral). n.value) (some_inj j) in
        omega arith

-- both halves, from what is shown of each
abbrev pub joined : ℕ → Option Numeral → Field Numeral → Field Numeral
joined at None low = record { contents = None; next = at }
joined at (Some l) low = record {
  contents = option_map (λ r. record { value = l.value * 65536 + r.value; span = record { at = l.span.at; length = 9 } }) low.contents;
  next = cond (is_some low.contents) low.next at;
}

halves_read : (o : Option Text) (f : Text → Option (ℕ × Text))
    → bind {B = ℕ × Text} o (λ u.
    bind (bind {B = (ℕ × ℕ) × Text} (f u) (λ p. bind (f p.1) (λ q. Some ((p.0, q.0), q.1))))
    (λ p. Some (join_halves half_digits p.0, p.1)))
    ≡ bind (bind o f) (λ p. bind (f p.1) (λ q. Some (join_halves half_digits (p.0, q.0), q.1)))
halves_read o f = simp (← bind_bind)

pub check_seen : (tag s : Text) (at : ℕ) (high low : Field Numeral)
    → high ≡ half_at tag s at (taken ((pre tag half).read (drop at s)))
    → low ≡ half_at [] s high.next (taken ((pre [] half).read (drop high.next s)))
    → field_at as_number check_text at tag (taken ((pre tag check).read (drop at s))) ≡ joined at high.contents low
check_seen tag s at high low e f =
    ap (λ o. field_at as_number check_text at tag (taken o)) (halves_read (after tag (drop at s)) half.read)
    ∙ first ((pre tag half).read (drop at s)) refl
    ∙ (λ i. joined at (sym e i).contents (sym g i))
  where
    low_of : Field Numeral → Field Numeral
    low_of h = half_at [] s h.next (taken ((pre [] half).read (drop h.next s)))

    g : low ≡ low_of (half_at tag s at (taken ((pre tag half).read (drop at s))))
    g = f ∙ ap low_of e

    first : (o : Option (ℕ × Text)) → (pre tag half).read (drop at s) ≡ o
        → field_at as_number check_text at tag
        (taken (bind o (λ p. bind (half.read p.1) (λ q. Some (join_halves half_digits (p.0, q.0), q.1)))))
        ≡ joined at (half_at tag s at (taken o)).contents (low_of (half_at tag s at (taken o)))
    first None q = refl
    first (Some (h, t)) q =
        let n : at + length tag + 5 ≡ at + length tag + length (hex_text half_digits h) + 1 = omega arith in
        ap (λ (u : Text). field_at as_number check_text at tag (taken (bind (half.read u) (λ q. Some (join_halves half_digits (h, q.0), q.1)))))
        ((half_read tag s at h t q).rest ∙ ap (λ (i : ℕ). drop i s) n)
        ∙ second h (half.read (drop (at + length tag + length (hex_text half_digits h) + 1) s))
      where
        second : (h : ℕ) (o : Option (ℕ × Text))
            → field_at as_number check_text at tag (taken (bind o (λ q. Some (join_halves half_digits (h, q.0), q.1))))
            ≡ joined at (Some (record { value = h; span = record { at = at + length tag; length = length (hex_text half_digits h) } }))
            (half_at [] s (at + length tag + length (hex_text half_digits h) + 1) (taken o))
        second h None = refl
        second h (Some (l, u)) =
            let n : at + length tag + 9 + 1 ≡ at + length tag + 4 + 1 + 0 + 4 + 1 = omega arith in
            ap (λ (i : ℕ). record {
              contents = Some (record { value = h * 65536 + l; span = record { at = at + length tag; length = 9 } });
              next = i;
            }) n
