-- A walk over a table that names bits.
use mathlib.Core.Path.{◌≡◌, ap}
use mathlib.Core.Bool.{◌&&◌}
use mathlib.Core.List.{List, [], ◌∷◌}
use Prim.Native.Nat.{ℕ, zero, suc, ◌+◌, ◌-◌, ◌*◌, ◌/◌, ◌%◌, ◌^◌, ◌≤◌, ◌<◌}
use native.Mathlib.Nat.{not-suc-le-zero, le_of_suc-le-suc, pow-suc}
use native.Mathlib.Numerals.{add-one}
use native.Mathlib.Omega.{arith}
use lib.ListN.{length, get_or, drop}
use lib.Seq.{drop-cons}
use lib.Dec.{T, leb, leb→le}
use Rattle.cipher.specs.Words.{names_bits}
use Rattle.dea.specs.Dea.{gather, bit}
use Rattle.dea.proofs.Linear.{and_left, and_right}

-- each number of the table is from 1 to n
pub named_at : (n : ℕ) (ts : List ℕ) → T (names_bits n ts) → (k : ℕ) → k < length ts
    → (1 ≤ get_or ts k 0) × (get_or ts k 0 ≤ n)
named_at n [] h k hk = absurd (not-suc-le-zero hk)
named_at n (t ∷ ts) h zero hk =
    let b : T (leb 1 t && leb t n) = and_left (leb 1 t && leb t n) (names_bits n ts) h in
    (leb→le 1 t (and_left (leb 1 t) (leb t n) b), leb→le t n (and_right (leb 1 t) (leb t n) b))
named_at n (t ∷ ts) h (suc k) hk =
    named_at n ts (and_right (leb 1 t && leb t n) (names_bits n ts) h) k (le_of_suc-le-suc hk)

-- one more number of the table
pub walk : (n x bits i : ℕ) (ts : List ℕ) → i < length ts
    → gather n x bits (drop i ts) ≡ gather n x (bits * 2 + x / 2 ^ (n - get_or ts i 0) % 2) (drop (i + 1) ts)
unfolding bit
walk n x bits i ts hi = rw add-one (ap (gather n x bits) (drop-cons ts i 0 hi))

pub grows : (bits b i : ℕ) → bits < 2 ^ i → bits * 2 + b % 2 < 2 ^ (i + 1)
grows bits b i h = rw (add-one, pow-suc) (omega arith)
