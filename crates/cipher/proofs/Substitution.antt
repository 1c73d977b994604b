-- The expansion E, the selection functions one after the other, and a walk over them.
use mathlib.Core.Path.{◌≡◌, refl, sym, ap, ◌∙◌}
use mathlib.Core.Bool.{Bool}
use mathlib.Core.List.{[]}
use Prim.Native.Nat.{ℕ, zero, suc, ◌+◌, ◌-◌, ◌*◌, ◌/◌, ◌%◌, ◌^◌, ◌≤◌, ◌<◌}
use native.Mathlib.Nat.{pow-suc}
use native.Mathlib.Numerals.{add-one}
use native.Mathlib.Omega.{arith}
use lib.ListN.{length, get_or, drop, length-drop, drop_of_length-le}
use lib.Seq.{drop-cons}
use lib.Pow.{pow-add}
use lib.Dec.{T, eqb, eqb→eq}
use lib.Bits.{bit_xor}
use Rattle.dea.specs.Tables.{E, boxes, S1, S2, S3, S4, S5, S6, S7, S8}
use Rattle.dea.specs.Dea.{bit, permute, select, substitute}
use Rattle.cipher.specs.declared.tables.TheConstants.{BOXES}
use Rattle.dea.proofs.Linear.{Linear, lin_comp, lin_xor, lin_shr, lin_mod, lin_shl64, lin_test, below, below_at}
use Rattle.dea.proofs.Permutations.{lin_permute}

-- ---- the expansion

-- the low 34 bits are bits 32, 1, 2, .., 32, 1 of r
abbrev pub spread : ℕ → ℕ
spread r = bit_xor (r * 2 ^ 33 % 2 ^ 64) (bit_xor (r * 2 ^ 1 % 2 ^ 64) (r / 2 ^ 31))

lin_spread : Linear spread
lin_spread =
    lin_xor (λ r. r * 2 ^ 33 % 2 ^ 64) (λ r. bit_xor (r * 2 ^ 1 % 2 ^ 64) (r / 2 ^ 31)) (lin_shl64 33)
    (lin_xor (λ r. r * 2 ^ 1 % 2 ^ 64) (λ r. r / 2 ^ 31) (lin_shl64 1) (lin_shr 31))

-- the first n blocks of six bits
abbrev pub sixes : ℕ → ℕ → ℕ
sixes zero r = 0
sixes (suc n) r = bit_xor (sixes n r * 2 ^ 6 % 2 ^ 64) (spread r / 2 ^ (28 - 4 * n) % 2 ^ 6)

lin_sixes : (n : ℕ) → Linear (sixes n)
lin_sixes zero = λ a b. refl
lin_sixes (suc n) =
    lin_xor (λ r. sixes n r * 2 ^ 6 % 2 ^ 64) (λ r. spread r / 2 ^ (28 - 4 * n) % 2 ^ 6)
    (lin_comp (λ x. x * 2 ^ 6 % 2 ^ 64) (sixes n) (lin_shl64 6) (lin_sixes n))
    (lin_comp (λ x. x % 2 ^ 6) (λ r. spread r / 2 ^ (28 - 4 * n)) (lin_mod 6)
    (lin_comp (λ x. x / 2 ^ (28 - 4 * n)) spread (lin_shr (28 - 4 * n)) lin_spread))

pub expansion : (r : ℕ) → r < 2 ^ 32 → sixes 8 r ≡ permute 32 E r
unfolding E bit
expansion = lin_test (sixes 8) (permute 32 E) (lin_sixes 8) (lin_permute 32 E) 32 tt

-- ---- the selection functions, by one computed test over all 512 values

abbrev row : ℕ → ℕ → ℕ
row i b = i * 4 + (b / 32 * 2 + b % 2)

right : ℕ → ℕ → Bool
right i b = eqb (get_or BOXES (row i b) 0 / 2 ^ (60 - 4 * (b / 2 % 16)) % 16) (select (get_or boxes i []) b)

all_right : T (below (λ k. right (k / 64) (k % 64)) 512)
unfolding right boxes S1 S2 S3 S4 S5 S6 S7 S8 bit select
all_right = tt

pub selected : (i b : ℕ) → i < 8 → b < 64
    → get_or BOXES (row i b) 0 / 2 ^ (60 - 4 * (b / 2 % 16)) % 16 ≡ select (get_or boxes i []) b
unfolding right
selected i b hi hb =
    let q : (i * 64 + b) / 64 ≡ i = omega arith in
    let m : (i * 64 + b) % 64 ≡ b = omega arith in
    let t : T (right i b) = rw (q, m) at (below_at (λ k. right (k / 64) (k % 64)) 512 all_right (i * 64 + b) (omega arith)) in
    eqb→eq (get_or BOXES (row i b) 0 / 2 ^ (60 - 4 * (b / 2 % 16)) % 16) (select (get_or boxes i []) b) t

-- ---- one selection function more

sixty_four : (m : ℕ) → 64 ^ m ≡ 2 ^ (6 * m)
sixty_four zero = refl
sixty_four (suc m) =
    pow-suc 64 m ∙ ap (λ (x : ℕ). x * 64) (sixty_four m) ∙ sym (pow-add 2 (6 * m) 6) ∙ ap (λ (x : ℕ). 2 ^ x) (omega arith)

pub select_step : (b bits i v : ℕ) → i < 8 → v ≡ select (get_or boxes i []) (b / 2 ^ (42 - 6 * i) % 64)
    → substitute b (bits * 16 + v) (drop (i + 1) boxes) ≡ substitute b bits (drop i boxes)
unfolding boxes
select_step b bits i v hi e =
    let n : length (drop (suc i) boxes) ≡ 7 - i = omega (arith, length-drop (suc i) boxes) in
    let p : 64 ^ length (drop (suc i) boxes) ≡ 2 ^ (42 - 6 * i) =
    sixty_four (length (drop (suc i) boxes)) ∙ ap (λ (x : ℕ). 2 ^ x) (omega arith) in
    rw (add-one, e, ← p) (sym (ap (substitute b bits) (drop-cons boxes i [] (omega arith))))

pub all_selected : (b bits i : ℕ) → 8 ≤ i → substitute b bits (drop i boxes) ≡ bits
unfolding boxes
all_selected b bits i hi =
    let n : length boxes ≤ i = omega arith in
    ap (substitute b bits) (drop_of_length-le boxes n)

pub four_more : (bits v i : ℕ) → bits < 2 ^ (4 * i) → v < 16 → bits * 16 + v < 2 ^ (4 * (i + 1))
four_more bits v i hb hv =
    let p : 2 ^ (4 * (i + 1)) ≡ 2 ^ (4 * i) * 16 = ap (λ (x : ℕ). 2 ^ x) (omega arith) ∙ pow-add 2 (4 * i) 4 in
    omega arith
