-- Laws of writing: what is laid over the front of a buffer, byte by byte, and one writer after the other.
use mathlib.Core.Path.{◌≡◌, refl, sym, ap, ◌∙◌, subst}
use mathlib.Core.List.{[], ◌∷◌, ◌++◌, append_assoc, append-nil}
use Prim.Native.Nat.{ℕ, zero, suc, ◌+◌, ◌-◌, ◌≤◌, ◌<◌, min}
use native.Mathlib.Nat.{le_of_suc-le-suc, not-suc-le-zero}
use native.Mathlib.Numerals.{add-one}
use native.Mathlib.Omega.{arith}
use lib.ListN.{length, take, drop, get_or, set, length-append, length-set, length-take, length-drop, drop_of_length-le}
use lib.Seq.{take_all}
use Rattle.octets.specs.Text.{Text}
use Rattle.octets.specs.Wrote.{Wrote, over}

-- ---- over the front

pub over_none : (t : Text) → over t [] ≡ []
over_none [] = refl
over_none (x ∷ t) = refl

pub length_over : (t l : Text) → length (over t l) ≡ length l
length_over [] l = refl
length_over (x ∷ t) [] = refl
length_over (x ∷ t) (y ∷ l) = ap suc (length_over t l)

-- a text that fits: it, and what was behind it
pub over_fits : (t l : Text) → length t ≤ length l → over t l ≡ t ++ drop (length t) l
over_fits [] l h = refl
over_fits (x ∷ t) [] h = absurd (not-suc-le-zero h)
over_fits (x ∷ t) (y ∷ l) h = ap (λ (r : Text). x ∷ r) (over_fits t l (le_of_suc-le-suc h))

-- one that fills the buffer
pub over_full : (t l : Text) → length l ≤ length t → over t l ≡ take (length l) t
over_full [] [] h = refl
over_full [] (y ∷ l) h = absurd (not-suc-le-zero h)
over_full (x ∷ t) [] h = refl
over_full (x ∷ t) (y ∷ l) h = ap (λ (r : Text). x ∷ r) (over_full t l (le_of_suc-le-suc h))

-- one of the buffer's length is all that is left
pub over_whole : (t l : Text) → length t ≡ length l → over t l ≡ t
over_whole t l h = over_full t l (omega arith) ∙ take_all (length l) t (omega arith)

-- the first n bytes where they stand
over_front : (n : ℕ) (l : Text) → over (take n l) l ≡ l
over_front zero l = refl
over_front (suc n) [] = refl
over_front (suc n) (x ∷ l) = ap (λ (t : Text). x ∷ t) (over_front n l)

-- y over what is left behind x
over_then : (x y l : Text) (n : ℕ) → n ≡ min (length x) (length l)
    → take n (over x l) ++ over y (drop n (over x l)) ≡ over (x ++ y) l
over_then [] y l n e =
    let z : n ≡ 0 = omega arith in
    ap (λ (k : ℕ). take k l ++ over y (drop k l)) z
over_then (a ∷ x) y [] n e =
    let z : n ≡ 0 = omega arith in
    ap (λ (k : ℕ). take k [] ++ over y (drop k [])) z ∙ over_none y
over_then (a ∷ x) y (b ∷ l) zero e = absurd (omega arith)
over_then (a ∷ x) y (b ∷ l) (suc n) e = ap (λ (t : Text). a ∷ t) (over_then x y l n (omega arith))

-- ---- byte by byte

store : (t l : Text) (i : ℕ) → i < length t → i < length l
    → set (over (take i t) l) i (get_or t i 0) ≡ over (take (suc i) t) l
store [] l i h k = absurd (not-suc-le-zero h)
store (x ∷ t) [] i h k = absurd (not-suc-le-zero k)
store (x ∷ t) (y ∷ l) zero h k = refl
store (x ∷ t) (y ∷ l) (suc i) h k = ap (λ (r : Text). x ∷ r) (store t l i (le_of_suc-le-suc h) (le_of_suc-le-suc k))

over_all : (t l : Text) (i : ℕ) → min (length t) (length l) ≤ i → over (take i t) l ≡ over t l
over_all [] l zero h = refl
over_all [] l (suc i) h = refl
over_all (x ∷ t) [] i h = over_none (take i (x ∷ t))
over_all (x ∷ t) (y ∷ l) zero h = absurd (omega arith)
over_all (x ∷ t) (y ∷ l) (suc i) h = ap (λ (r : Text). x ∷ r) (over_all t l i (omega arith))

-- a loop that lays n bytes of t over l, as many as there is room for: after i of them
pub record Laying (t l l₁ : Text) (n i : ℕ) : Type 0 where
  pub within : i ≤ n
  pub room : n ≡ min (length t) (length l)
  pub size : length l₁ ≡ length l
  pub laid : l₁ ≡ over (take i t) l

pub laying_none : {t l : Text} {n : ℕ} → n ≡ min (length t) (length l) → Laying t l l n 0
laying_none e = record { within = omega arith; room = e; size = refl; laid = refl }

pub laying_more : {t l l₁ : Text} {n i v : ℕ} → Laying t l l₁ n i → i < n → v ≡ get_or t i 0
    → Laying t l (set l₁ i v) n (i + 1)
laying_more {t} {l} {l₁} {n} {i} {v} p h e =
    let r : n ≡ min (length t) (length l) = p.room in
    record {
      within = omega arith;
      room = p.room;
      size = length-set l₁ i v ∙ p.size;
      laid = ap (λ (m : Text). set m i v) p.laid ∙ rw (add-one i, e) (store t l i (omega arith) (omega arith));
    }

pub laying_all : {t l l₁ : Text} {n i : ℕ} → Laying t l l₁ n i → n ≤ i → Wrote t l l₁ i
laying_all {t} {l} {l₁} {n} {i} p h =
    let r : n ≡ min (length t) (length l) = p.room in
    let w : i ≤ n = p.within in
    record { text = p.laid ∙ over_all t l i (omega arith); count = omega arith }

-- ---- one writer after the other

-- what is lent by `&s[n..]`
pub rest_is : (n : ℕ) (s : Text) → take (length s - n) (drop n s) ≡ drop n s
rest_is n s = take_all (length s - n) (drop n s) (omega (arith, length-drop n s))

-- x was written to l, giving l₁; then y through `&mut rest[n..]` to what is left behind: the slice when it is back
pub wrote_rest : {x y l l₁ e : Text} {n m : ℕ} → Wrote x l l₁ n → Wrote y (take (length l₁ - n) (drop n l₁)) e m
    → Wrote (x ++ y) l (take n l₁ ++ (e ++ drop (length l₁ - n) (drop n l₁))) (n + m)
wrote_rest {x} {y} {l} {l₁} {e} {n} {m} p q =
    let c = p.count in
    let d = q.count in
    let a = rest_is n l₁ in
    let s : length l₁ ≡ length l = ap length p.text ∙ length_over x l in
    let k : length (drop n l₁) ≤ length l₁ - n = omega (arith, length-drop n l₁) in
    let b : e ++ drop (length l₁ - n) (drop n l₁) ≡ over y (drop n l₁) =
    ap (λ (r : Text). e ++ r) (drop_of_length-le (drop n l₁) k) ∙ append-nil e ∙ q.text ∙ ap (over y) a in
    record {
      text = ap (λ (r : Text). take n l₁ ++ r) b
          ∙ ap (λ (r : Text). take n r ++ over y (drop n r)) p.text ∙ over_then x y l n c;
      count = omega (arith, ap length a, length-drop n l₁, length-append x y);
    }

-- the same text, grouped otherwise
pub wrote_as : {x y l l₁ : Text} {n : ℕ} → x ≡ y → Wrote x l l₁ n → Wrote y l l₁ n
wrote_as {l} {l₁} {n} e p = subst (λ (t : Text). Wrote t l l₁ n) e p

-- and then z behind both: the three texts one after the other
pub wrote_three : {x y z l l₁ e f : Text} {n m k : ℕ} → Wrote x l l₁ n → Wrote y (take (length l₁ - n) (drop n l₁)) e m
    → let l₂ = take n l₁ ++ (e ++ drop (length l₁ - n) (drop n l₁)) in
    Wrote z (take (length l₂ - (n + m)) (drop (n + m) l₂)) f k
    → Wrote (x ++ (y ++ z)) l (take (n + m) l₂ ++ (f ++ drop (length l₂ - (n + m)) (drop (n + m) l₂))) (n + m + k)
wrote_three {x} {y} {z} p q r = wrote_as (append_assoc x y z) (wrote_rest (wrote_rest p q) r)

pub wrote_nothing : (l : Text) → Wrote [] l l 0
wrote_nothing l = record { text = refl; count = omega arith }

-- the first n bytes, which stand there
pub wrote_front : (n : ℕ) (l : Text) → n ≤ length l → Wrote (take n l) l l n
wrote_front n l h = record { text = sym (over_front n l); count = omega (arith, length-take n l) }

-- where there was room, the whole text and what was behind it
pub wrote_fits : {t l l₁ : Text} {n : ℕ} → Wrote t l l₁ n → length t ≤ length l
    → (l₁ ≡ t ++ drop (length t) l) × (n ≡ length t)
wrote_fits {t} {l} {l₁} {n} p h =
    let c = p.count in
    (p.text ∙ over_fits t l h, omega arith)
