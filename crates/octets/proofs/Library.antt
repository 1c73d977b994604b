-- What the library's words say, in the words of specs/.
use mathlib.Core.Path.{◌≡◌, refl, sym, ap, ◌∙◌}
use mathlib.Core.Bool.{Bool, true, cond, ◌&&◌}
use mathlib.Core.List.{[], ◌∷◌, ◌++◌}
use Prim.Native.Nat.{ℕ, zero, suc, ◌+◌, ◌-◌, ◌*◌, ◌%◌, ◌^◌, ◌≤◌, ◌<◌, min}
use native.Mathlib.Omega.{arith}
use Rattle.std.proofs.lemmas.Bool.Decides.{nat_tests}
use borrow.Author.Tests.{eq-eqb, eqb-true, ltb-true}
use lib.Dec.{eqb, ltb}
use lib.ListN.{length, take, drop, replicate}
use Rattle.std.specs.List.{list_all, starts_with, fold, position, position_or_len}
use Rattle.std.specs.Option.{unwrap_or}
use Rattle.std.specs.Int.{from_be_bytes, w64}
use Rattle.std.proofs.lemmas.List.{drop_min, take_min, take-replicate}
use Rattle.std.proofs.lemmas.List.Recursion.{is_position_or_len}
use Rattle.octets.specs.Text.{Text, all, starts}
use Rattle.octets.specs.Part.{before, part, all_octets}
use Rattle.octets.specs.Number.{number, number_after, copies}
use Rattle.octets.specs.Wrote.{Wrote, over}
use Rattle.octets.specs.declared.Span.{Span}
use Rattle.octets.proofs.Comparing.{both, iff}
use Rattle.octets.proofs.Parting.{before_fits}
use Rattle.octets.proofs.Numbers.{length_copies}
use Rattle.octets.proofs.Words.{picked_all}
use Rattle.octets.proofs.Writing.{rest_is}

-- `s.iter().all(p)`
pub all_is : (p : ℕ → Bool) (s : Text) → list_all p s ≡ all p s
all_is p [] = refl
all_is p (x ∷ s) = ap (λ (b : Bool). p x && b) (all_is p s)

eqb_swapped : (a b : ℕ) → eqb a b ≡ eqb b a
eqb_swapped a b =
    iff (eqb a b) (eqb b a) (λ e. eq-eqb b a (sym (eqb-true a b e))) (λ e. eq-eqb a b (sym (eqb-true b a e)))

-- `s.starts_with(w)`
pub starts_is : (w s : Text) → starts_with eqb s w ≡ starts w s
starts_is [] s = refl
starts_is (c ∷ w) [] = refl
starts_is (c ∷ w) (x ∷ s) =
    ap (λ (b : Bool). b && starts_with eqb s w) (eqb_swapped c x) ∙ ap (λ (b : Bool). eqb x c && b) (starts_is w s)

-- `s.iter().position(|b| *b == x)`
pub before_is : (x : ℕ) (s : Text) → before x s ≡ position_or_len (λ y. eqb y x) s
before_is x s =
    is_position_or_len (before x) (λ y. eqb y x) refl
    (λ y t. let e : suc (before x t) ≡ 1 + before x t = omega arith in ap (λ (n : ℕ). cond (eqb y x) 0 n) e) s

-- `s.iter().position(|b| *b == x).unwrap_or(s.len())`
pub before_found : (x : ℕ) (s : Text) → unwrap_or (position (λ y. eqb y x) s) (length s) ≡ before x s
before_found x s = go (before x s) (before_is x s) (before_fits x s)
  where
    go : (n : ℕ) → n ≡ position_or_len (λ y. eqb y x) s → n ≤ length s
        → unwrap_or (position (λ y. eqb y x) s) (length s) ≡ n
    go n e h = rw (← e) (grind (arith, nat_tests))

-- `[b].repeat(k)`
pub copies_is : (k b : ℕ) → copies k b ≡ replicate k b
copies_is zero b = refl
copies_is (suc k) b = ap (λ (t : Text). b ∷ t) (copies_is k b)

-- `&s[at.min(s.len())..]`
pub rest_from : (at : ℕ) (s : Text) → take (length s - min at (length s)) (drop (min at (length s)) s) ≡ drop at s
rest_from at s = rest_is (min at (length s)) s ∙ drop_min at s

-- `s.iter().fold(0, |x, b| (x << 8) + b)`
pub fold_is : (n : ℕ) (s : Text) → all_octets s ≡ true
    → fold (λ x b. x * 2 ^ 8 % 2 ^ 64 + b) (n % 2 ^ 64) s ≡ number_after n s % 2 ^ 64
fold_is n [] e = refl
fold_is n (b ∷ s) e =
    let h = both (ltb b 256) (all_octets s) e in
    let k : b < 256 = ltb-true b 256 h.0 in
    let i : n % 2 ^ 64 * 2 ^ 8 % 2 ^ 64 + b ≡ (n * 256 + b) % 2 ^ 64 = omega arith in
    ap (λ (x : ℕ). fold (λ x b. x * 2 ^ 8 % 2 ^ 64 + b) x s) i ∙ fold_is (n * 256 + b) s h.1

-- `u64::from_be_bytes(s)`
pub from_bytes_is : (s : Text) → length s ≡ 8 → from_be_bytes w64 s ≡ number s
unfolding number
from_bytes_is s h = rw (picked_all 8 s h) (omega arith)

over_min : (t l : Text) (n : ℕ) → n ≡ min (length t) (length l) → over t l ≡ take n t ++ drop n l
over_min [] l n e = let z : n ≡ 0 = omega arith in rw z
over_min (x ∷ t) [] n e = let z : n ≡ 0 = omega arith in rw z
over_min (x ∷ t) (y ∷ l) zero e = absurd (omega arith)
over_min (x ∷ t) (y ∷ l) (suc n) e = ap (λ (r : Text). x ∷ r) (over_min t l n (omega arith))

-- what is copied over the first n bytes
pub wrote_copied : {t l x : Text} {n : ℕ} → n ≡ min (length t) (length l) → x ≡ take n t → Wrote t l (x ++ drop n l) n
wrote_copied {t} {l} {x} {n} e c =
    record { text = ap (λ (r : Text). r ++ drop n l) c ∙ sym (over_min t l n e); count = e }

-- what is filled in over the first n bytes
pub wrote_filled : (k b : ℕ) {n : ℕ} {l x : Text} → n ≡ min k (length l) → x ≡ replicate n b → Wrote (copies k b) l (x ++ drop n l) n
wrote_filled k b {n} {l} {x} e c =
    let h : n ≤ k = omega arith in
    wrote_copied (e ∙ ap (λ (m : ℕ). min m (length l)) (sym (length_copies k b)))
    (c ∙ sym (ap (take n) (copies_is k b) ∙ take-replicate n k b h))

-- `&rest[..span.length.min(rest.len())]`, of `rest = &s[span.at.min(s.len())..]`
pub part_lent : (s : Text) (p : Span) {m n : ℕ} → m ≡ min p.at (length s) → n ≡ min p.length (length (take (length s - m) (drop m s)))
    → take n (take (length s - m) (drop m s)) ≡ part s p
unfolding part
part_lent s p {m} {n} e f =
    let l = take (length s - m) (drop m s) in
    let r : l ≡ drop p.at s = rw e (rest_from p.at s) in
    ap (λ (i : ℕ). take i l) f ∙ take_min p.length l ∙ ap (take p.length) r
