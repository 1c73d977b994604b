-- Laws of ERF's letters for their writer: what is written and what is left are the whole.
use mathlib.Core.Path.{◌≡◌, refl, sym, ap, ◌∙◌}
use mathlib.Core.Bool.{Bool, true, false, cond}
use mathlib.Core.List.{[], ◌∷◌, ◌++◌, append_assoc}
use Prim.Native.Nat.{ℕ, ◌+◌, ◌-◌, ◌/◌, ◌%◌, ◌≤◌, ◌<◌}
use native.Mathlib.Numerals.{add-one}
use native.Mathlib.Omega.{arith}
use lib.Dec.{eqb}
use lib.ListN.{length, take, drop, get_or}
use lib.Seq.{drop-cons}
use Rattle.octets.specs.Text.{Text}
use Rattle.octets.proofs.Writing.{length_over}
use Rattle.csm.specs.Fields.{error_letters, letters_of}
use Rattle.octets.specs.Wrote.{Wrote}
use Rattle.octets.proofs.Writing.{wrote_rest}

-- a letter that is in, or nothing
abbrev pub maybe_letter : ℕ → ℕ → Text
maybe_letter left c = cond (eqb (left % 2) 1) (c ∷ []) []

-- the letters of the first i are laid over l, and left has the bits of the others
pub record Spelling (letters : ℕ) (l l₁ : Text) (left n i : ℕ) : Type 0 where
  pub text : Text
  pub laid : Wrote text l l₁ n
  pub rest : text ++ letters_of (drop i error_letters) left ≡ letters_of error_letters letters
  pub within : i ≤ 9
  pub size : length l₁ ≡ length l
  pub low : n ≤ length l

-- the letter at i, if it is in, and then the others
next : (i left : ℕ) → i < 9
    → letters_of (drop i error_letters) left
    ≡ maybe_letter left (get_or error_letters i 0) ++ letters_of (drop (i + 1) error_letters) (left / 2)
next i left h =
    let c = get_or error_letters i 0 in
    let cs = drop (i + 1) error_letters in
    let d : drop i error_letters ≡ c ∷ cs = rw (add-one i) (drop-cons error_letters i 0 h) in
    ap (λ (t : Text). letters_of t left) d ∙ go (eqb (left % 2) 1) c (letters_of cs (left / 2))
  where
    go : (b : Bool) (c : ℕ) (t : Text) → cond b (c ∷ t) t ≡ cond b (c ∷ []) [] ++ t
    go true c t = refl
    go false c t = refl

pub spelling_more : {letters left n m i : ℕ} {l l₁ e : Text} → Spelling letters l l₁ left n i → i < 9
    → Wrote (maybe_letter left (get_or error_letters i 0)) (take (length l₁ - n) (drop n l₁)) e m
    → Spelling letters l (take n l₁ ++ (e ++ drop (length l₁ - n) (drop n l₁))) (left / 2) (n + m) (i + 1)
spelling_more {letters} {left} {n} {m} {i} {l} {l₁} {e} p h q =
    let x = maybe_letter left (get_or error_letters i 0) in
    let t = letters_of (drop (i + 1) error_letters) (left / 2) in
    let w = wrote_rest p.laid q in
    let k = w.count in
    record {
      text = p.text ++ x;
      laid = w;
      rest = append_assoc p.text x t ∙ ap (λ (s : Text). p.text ++ s) (sym (next i left h)) ∙ p.rest;
      within = omega arith;
      size = ap length w.text ∙ length_over (p.text ++ x) l;
      low = omega arith;
    }
