-- A text's first block by its bytes, and chaining block by block.
use mathlib.Core.Path.{◌≡◌, refl, sym, ap, ap₂, ◌∙◌}
use mathlib.Core.List.{List, [], ◌∷◌, ◌++◌, append_assoc, append-nil}
use Prim.Native.Nat.{ℕ, zero, suc, ◌+◌, ◌/◌, ◌≤◌, ◌<◌, min}
use native.Mathlib.Omega.{arith}
use native.Mathlib.Nat.{le_of_suc-le-suc}
use lib.ListN.{length, take, drop, length-take, length-append}
use lib.Bits.{bit_xor}
use Rattle.std.specs.Int.{from_be_bytes, w64}
use Rattle.std.proofs.lemmas.List.{take-append-le}
use Rattle.std.proofs.Math.Seq.{drop-append_seam}
use Rattle.octets.specs.Text.{Text}
use Rattle.octets.specs.Number.{number, copies}
use Rattle.octets.proofs.Library.{from_bytes_is}
use Rattle.dea.specs.Dea.{cipher}
use Rattle.dea.specs.Chain.{first_block, blocks, blocks_of, chain, chained}

-- ---- the first block

zeros : (k m : ℕ) → k ≤ m → copies k 0 ≡ take k (copies m 0)
zeros zero m h = refl
zeros (suc k) zero h = absurd (omega arith)
zeros (suc k) (suc m) h = ap (λ (t : Text). 0 ∷ t) (zeros k m (le_of_suc-le-suc h))

padded : (k m : ℕ) (s : Text) → length s ≤ k → k ≤ m → s ++ drop (length s) (copies k 0) ≡ take k (s ++ copies m 0)
padded k m [] h g = zeros k m g
padded zero m (x ∷ s) h g = absurd (omega arith)
padded (suc k) m (x ∷ s) h g = ap (λ (t : Text). x ∷ t) (padded k m s (le_of_suc-le-suc h) (omega arith))

-- a text over the front of eight zero bytes
pub block_of : (s : Text) → length s ≤ 8 → from_be_bytes w64 (s ++ drop (length s) (copies 8 0)) ≡ first_block s
unfolding first_block
block_of s h =
    let e = padded 8 8 s h (omega arith) in
    let l : length (take 8 (s ++ copies 8 0)) ≡ 8 = simp (length-take, length-append) (omega arith) in
    ap (from_be_bytes w64) e ∙ from_bytes_is (take 8 (s ++ copies 8 0)) l

-- ---- the blocks

-- where nothing is left, no block
pub no_block : (ks : List ℕ) (output : ℕ) (s : Text) → length s ≡ 0 → chained ks output s ≡ output
unfolding chained blocks_of
no_block ks output s h = let n : (length s + 7) / 8 ≡ 0 = omega arith in ap (λ (m : ℕ). chain ks output (blocks m s)) n

same_block : (s t : Text) → length s ≡ min 8 (length (s ++ t)) → first_block (s ++ t) ≡ first_block s
unfolding first_block
same_block s [] e = simp append-nil
same_block s (x ∷ t) e =
    let l : length s ≡ 8 = omega (arith, length-append s (x ∷ t)) in
    ap number (ap (take 8) (append_assoc s (x ∷ t) (copies 8 0)) ∙ take-append-le 8 s _ (omega arith)
    ∙ sym (take-append-le 8 s (copies 8 0) (omega arith)))

blocks_after : (s t : Text) → length s ≡ min 8 (length (s ++ t))
    → blocks ((length t + 7) / 8) (drop 8 (s ++ t)) ≡ blocks ((length t + 7) / 8) t
blocks_after s [] e = refl
blocks_after s (x ∷ t) e =
    let l : 8 ≡ length s = omega (arith, length-append s (x ∷ t)) in
    ap (blocks ((length (x ∷ t) + 7) / 8)) (ap (λ (n : ℕ). drop n (s ++ x ∷ t)) l ∙ drop-append_seam s (x ∷ t))

chained_block : (ks : List ℕ) (output : ℕ) (s t : Text) → length s ≡ min 8 (length (s ++ t)) → 0 < length (s ++ t)
    → chained ks output (s ++ t) ≡ chained ks (cipher ks (bit_xor output (first_block s))) t
unfolding chained blocks_of
chained_block ks output s t e p =
    let n : (length (s ++ t) + 7) / 8 ≡ suc ((length t + 7) / 8) = omega (arith, length-append s t) in
    ap (λ (m : ℕ). chain ks output (blocks m (s ++ t))) n
    ∙ ap₂ (λ (b : ℕ) (bs : List ℕ). chain ks (cipher ks (bit_xor output b)) bs) (same_block s t e) (blocks_after s t e)

-- the text is the first block's bytes and what is left
pub next_block : (ks : List ℕ) (output : ℕ) (s bytes rest : Text) → s ≡ bytes ++ rest → length bytes ≡ min 8 (length s) → 0 < length s
    → chained ks output s ≡ chained ks (cipher ks (bit_xor output (first_block bytes))) rest
next_block ks output s bytes rest e n p = rw e (chained_block ks output bytes rest (rw e at n) (rw e at p))
