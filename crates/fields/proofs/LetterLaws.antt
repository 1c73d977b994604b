-- Laws of the letters of an ERF: letter by letter, the bits that were found and those still to come.
use Rattle.std.proofs.Common.{◌≡◌, refl, sym, ap, ◌∙◌, None, Some, Bool, true, false, cond, ◌&&◌, [], ◌∷◌, ℕ, ◌+◌, ◌*◌, ◌^◌, ◌≤◌, ◌<◌, add-one, arith, length, take, drop, get_or, subst}
use native.Mathlib.Nat.{mul-add, mul_comm, mul_assoc, mul-le-mul_right, zero-add, pow-suc}
use lib.Dec.{eqb, leb}
use lib.Pointwise.{pointwise}
use borrow.Author.Tests.{le-leb}
use mathlib.Core.Bool.{true≢false}
use Rattle.octets.specs.Text.{Text}
use Rattle.octets.proofs.Comparing.{drop_step, both}
use Rattle.csm.specs.Format as format
use Rattle.csm.specs.Fields.{letters_guess, error_letters, erf}
use Rattle.csm.proofs.WordTests.{in_order, erf_value}

-- ---- after k letters of cs, where rest is left of w

pub record Sought (cs w : Text) (value k : ℕ) (rest : Text) : Type 0 where
  pub small : value < 2 ^ k
  pub bits : letters_guess cs w ≡ value + 2 ^ k * letters_guess (drop k cs) rest
  pub order : in_order cs w ≡ in_order (drop k cs) rest

guess_nil : (cs : Text) → letters_guess cs [] ≡ 0
guess_nil [] = refl
guess_nil (c ∷ cs) = refl

order_nil : (cs : Text) → in_order cs [] ≡ true
order_nil [] = refl
order_nil (c ∷ cs) = refl

-- the next letter stands there or does not: n is 1 or 0, and t what is left then
pub record Next (c : ℕ) (rest : Text) (n : ℕ) (t : Text) : Type 0 where
  pub bit : n ≤ 1
  pub bits : (cs : Text) → letters_guess (c ∷ cs) rest ≡ n + 2 * letters_guess cs t
  pub order : (cs : Text) → in_order (c ∷ cs) rest ≡ in_order cs t

-- as a slice's `strip_prefix` tests it
pub next_here : (c : ℕ) (rest t : Text) → pointwise eqb (take 1 rest) (c ∷ []) ≡ true → t ≡ drop 1 rest
    → Next c rest 1 t
next_here c [] t e d = absurd (true≢false (sym e))
next_here c (x ∷ rest) t e d =
    let q : eqb x c ≡ true = (both (eqb x c) true e).0 in
    let here : Next c (x ∷ rest) 1 rest = record { bit = omega arith; bits = λ cs. rw q; order = λ cs. rw q } in
    subst (λ (u : Text). Next c (x ∷ rest) 1 u) (sym d) here

pub next_other : (c : ℕ) (rest : Text) → pointwise eqb (take 1 rest) (c ∷ []) ≡ false → Next c rest 0 rest
next_other c [] e = record { bit = omega arith; bits = λ cs. rw (guess_nil cs); order = λ cs. sym (order_nil cs) }
next_other c (x ∷ rest) e = go (eqb x c) refl e
  where
    go : (b : Bool) → eqb x c ≡ b → b && true ≡ false → Next c (x ∷ rest) 0 (x ∷ rest)
    go true q e = absurd (true≢false e)
    go false q e =
        record { bit = omega arith; bits = λ cs. rw q (sym (zero-add (2 * letters_guess cs (x ∷ rest)))); order = λ cs. rw q }

weigh : (p n g : ℕ) → p * (n + 2 * g) ≡ n * p + p * 2 * g
weigh p n g = mul-add p n (2 * g) ∙ (λ i. mul_comm p n i + sym (mul_assoc p 2 g) i)

module _ (cs w rest t : Text) (value k n : ℕ) (h : k < length cs) (r : Sought cs w value k rest)
    (m : Next (get_or cs k 0) rest n t) where
  pub sought_more : Sought cs w (value + n * 2 ^ k) (k + 1) t
  sought_more =
      let c = get_or cs k 0 in
      let l = drop (k + 1) cs in
      let g = letters_guess l t in
      let p : 2 ^ (k + 1) ≡ 2 ^ k * 2 = ap (λ (j : ℕ). 2 ^ j) (add-one k) ∙ pow-suc 2 k in
      let q : n * 2 ^ k ≤ 1 * 2 ^ k = mul-le-mul_right (2 ^ k) m.bit in
      let s : letters_guess (drop k cs) rest ≡ n + 2 * g =
      ap (λ (u : Text). letters_guess u rest) (drop_step cs k h) ∙ m.bits l in
      let x : 2 ^ k * letters_guess (drop k cs) rest ≡ n * 2 ^ k + 2 ^ (k + 1) * g =
      ap (λ (j : ℕ). 2 ^ k * j) s ∙ weigh (2 ^ k) n g ∙ ap (λ (j : ℕ). n * 2 ^ k + j * g) (sym p) in
      let v = r.small in
      let y = r.bits in
      record {
        small = omega arith;
        bits = omega arith;
        order = r.order ∙ ap (λ (u : Text). in_order u rest) (drop_step cs k h) ∙ m.order l;
      }

-- ---- after all nine

module _ (w rest : Text) (value : ℕ) (r : Sought error_letters w value 9 rest) where
  guess_is : letters_guess error_letters w ≡ value
  guess_is = r.bits ∙ omega arith

  -- a byte is left that is no letter, or stands out of order
  pub erf_left : 0 < length rest → format.value erf w ≡ None
  erf_left h =
      erf_value w
      ∙ ap (λ (b : Bool). cond (b && leb 1 (length w)) (Some (letters_guess error_letters w)) None) (r.order ∙ left rest h)
    where
      left : (u : Text) → 0 < length u → in_order [] u ≡ false
      left [] h = absurd (omega arith)
      left (x ∷ u) h = refl

  -- each byte is a letter in its place
  pub erf_found : length rest ≡ 0 → 1 ≤ length w → format.value erf w ≡ Some value
  erf_found h l = let o = r.order ∙ none_left rest h in erf_value w ∙ (λ j. cond (o j && le-leb 1 (length w) l j) (Some (guess_is j)) None)
    where
      none_left : (u : Text) → length u ≡ 0 → in_order [] u ≡ true
      none_left [] h = refl
      none_left (x ∷ u) h = absurd (omega arith)

-- there is no letter
pub erf_empty : (w : Text) → length w ≡ 0 → format.value erf w ≡ None
erf_empty [] h = erf_value []
erf_empty (x ∷ w) h = absurd (omega arith)
