-- Laws of texts that are filled up, and of parts of a text that are zero past its end.
use mathlib.Core.Path.{◌≡◌, refl, sym, ap, ◌∙◌}
use mathlib.Core.Bool.{true}
use mathlib.Core.List.{[], ◌∷◌, ◌++◌, append_assoc}
use Prim.Native.Nat.{ℕ, zero, suc, ◌+◌, ◌-◌, ◌^◌, ◌%◌, ◌≤◌, ◌<◌}
use native.Mathlib.Nat.{le_of_suc-le-suc, not-suc-le-zero, zero-add}
use native.Mathlib.Omega.{arith}
use lib.Dec.{ltb}
use lib.ListN.{length, take, drop, get_or, length-append, length-take, length-drop}
use lib.Seq.{take_at, take-add, take-take, take-append-le, drop_at, drop-drop, drop-nil}
use Rattle.octets.specs.Text.{Text}
use Rattle.octets.specs.Part.{all_octets}
use Rattle.octets.specs.Number.{number_after, number, copies}
use Rattle.octets.specs.Wrote.{over}
use Rattle.octets.specs.Codec.{part_or_zeros}
use Rattle.octets.proofs.Comparing.{drop_step, all_append, all_take, all_drop}
use Rattle.octets.proofs.Numbers.{length_copies, number_fits}

-- ---- a text filled up

pub take_copies : (k j b : ℕ) → k ≤ j → take k (copies j b) ≡ copies k b
take_copies zero j b h = refl
take_copies (suc k) zero b h = absurd (not-suc-le-zero h)
take_copies (suc k) (suc j) b h = ap (λ (t : Text). b ∷ t) (take_copies k j b (le_of_suc-le-suc h))

-- with as many bytes as are wanted, or with more
pub take_filled : (w : Text) (k j b : ℕ) → k ≤ j → take k (w ++ copies j b) ≡ take k (w ++ copies k b)
take_filled w k j b h = go w k j k h (omega arith)
  where
    go : (w : Text) (k j i : ℕ) → k ≤ j → k ≤ i → take k (w ++ copies j b) ≡ take k (w ++ copies i b)
    go [] k j i h g = take_copies k j b h ∙ sym (take_copies k i b g)
    go (x ∷ w) zero j i h g = refl
    go (x ∷ w) (suc k) j i h g = ap (λ (t : Text). x ∷ t) (go w k j i (omega arith) (omega arith))

-- laid over as many bytes
pub over_copies : (w : Text) (k b : ℕ) → over w (copies k b) ≡ take k (w ++ copies k b)
over_copies w k b = go w k ∙ refl
  where
    go : (w : Text) (k : ℕ) → over w (copies k b) ≡ take k (w ++ copies k b)
    go [] k = sym (take_copies k k b (omega arith))
    go (x ∷ w) zero = refl
    go (x ∷ w) (suc k) =
        ap (λ (t : Text). x ∷ t) (go w k ∙ sym (take_filled w k (suc k) b (omega arith)))

-- ---- parts

pub octets_copies : (k : ℕ) → all_octets (copies k 0) ≡ true
octets_copies zero = refl
octets_copies (suc k) = octets_copies k

pub length_part : (k at : ℕ) (s : Text) → length (part_or_zeros k at s) ≡ k
length_part k at s =
    length-take k (drop at s ++ copies k 0) ∙ omega (arith, length-append (drop at s) (copies k 0), length_copies k 0)

pub octets_part : (k at : ℕ) (s : Text) → all_octets s ≡ true → all_octets (part_or_zeros k at s) ≡ true
octets_part k at s h =
    let a : all_octets (drop at s ++ copies k 0) ≡ true =
    all_append (λ b. ltb b 256) (drop at s) (copies k 0) ∙ rw (all_drop (λ b. ltb b 256) at s h, octets_copies k) in
    all_take (λ b. ltb b 256) k (drop at s ++ copies k 0) a

-- a shorter part is the front of a longer one
pub part_front : (k j at : ℕ) (s : Text) → k ≤ j → take k (part_or_zeros j at s) ≡ part_or_zeros k at s
part_front k j at s h = take-take k j (drop at s ++ copies j 0) h ∙ take_filled (drop at s) k j 0 h

-- within the text, cut out from one place to another
pub part_cut : (k at end : ℕ) (s : Text) → end ≡ at + k → end ≤ length s
    → take (end - at) (drop at s) ≡ part_or_zeros k at s
part_cut k at end s e h =
    let n : end - at ≡ k = omega arith in
    ap (λ (m : ℕ). take m (drop at s)) n
    ∙ sym (take-append-le k (drop at s) (copies k 0) (omega (arith, length-drop at s)))

-- one byte
pub part_byte : (at : ℕ) (s : Text) → at < length s → get_or s at 0 ≡ number (part_or_zeros 1 at s)
unfolding number
part_byte at s h =
    let e : part_or_zeros 1 at s ≡ get_or s at 0 ∷ [] = ap (λ (t : Text). take 1 (t ++ copies 1 0)) (drop_step s at h) in
    sym (ap (number_after 0) e ∙ zero-add (get_or s at 0))

-- up to eight bytes are a number of 64 bits
pub part_fits : (k at : ℕ) (s : Text) → all_octets s ≡ true → k ≤ 8
    → number (part_or_zeros k at s) % 2 ^ 64 ≡ number (part_or_zeros k at s)
part_fits k at s h e = number_fits (part_or_zeros k at s) (octets_part k at s h) (omega (arith, length_part k at s))

-- what stands at a place
pub part_at : (x q y : Text) → part_or_zeros (length q) (length x) (x ++ (q ++ y)) ≡ q
part_at x q y =
    ap (λ (t : Text). take (length q) (t ++ copies (length q) 0)) (drop_at x (q ++ y) (length x) refl)
    ∙ ap (take (length q)) (append_assoc q y (copies (length q) 0)) ∙ take_at q (y ++ copies (length q) 0) (length q) refl

drop_filled : (d : Text) (j k n : ℕ) → j + k ≤ n → take k (drop j (d ++ copies n 0)) ≡ take k (drop j d ++ copies k 0)
drop_filled [] zero k n h = take_copies k n 0 (omega arith) ∙ sym (take_copies k k 0 (omega arith))
drop_filled [] (suc j) k zero h = absurd (omega arith)
drop_filled [] (suc j) k (suc n) h =
    drop_filled [] j k n (omega arith) ∙ ap (λ (t : Text). take k (t ++ copies k 0)) (drop-nil j)
drop_filled (x ∷ d) zero k n h = take_filled (x ∷ d) k n 0 (omega arith)
drop_filled (x ∷ d) (suc j) k n h = drop_filled d j k n (omega arith)

-- parts side by side are one part
pub part_join : (j k at : ℕ) (s : Text) {x y : Text} → x ≡ part_or_zeros j at s → y ≡ part_or_zeros k (at + j) s
    → x ++ y ≡ part_or_zeros (j + k) at s
part_join j k at s {x} {y} p q =
    let d = drop at s in
    let l = d ++ copies (j + k) 0 in
    let a : take j l ≡ part_or_zeros j at s = take_filled d j (j + k) 0 (omega arith) in
    let b : take k (drop j l) ≡ part_or_zeros k (at + j) s =
    drop_filled d j k (j + k) (omega arith) ∙ ap (λ (t : Text). take k (t ++ copies k 0)) (drop-drop j at s) in
    ap (λ (t : Text). t ++ y) p ∙ ap (λ (t : Text). part_or_zeros j at s ++ t) q
    ∙ sym (take-add j k l ∙ ap (λ (t : Text). t ++ take k (drop j l)) a ∙ ap (λ (t : Text). part_or_zeros j at s ++ t) b)
