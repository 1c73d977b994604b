-- The iterations by their halves; the schedule by a walk over the shifts.
use mathlib.Core.Path.{◌≡◌, refl, sym, ap}
use mathlib.Core.List.{map, List, [], ◌∷◌, ◌++◌, append_assoc}
use Prim.Native.Nat.{ℕ, zero, suc, ◌+◌, ◌-◌, ◌*◌, ◌/◌, ◌%◌, ◌^◌, ◌≤◌, ◌<◌}
use native.Mathlib.Numerals.{add-one}
use native.Mathlib.Omega.{arith}
use lib.ListN.{length, get_or, drop, take, set}
use lib.Seq.{drop-cons, take-suc-set}
use lib.Pow.{mod-mod-pow}
use lib.Bits.{bit_xor}
use denote.Ref.{Bor}
use Rattle.std.specs.List.{fold}
use Rattle.dea.specs.Tables.{PC_2}
use Rattle.dea.specs.Dea.{f, iterate, key_blocks, permute, left_shift}

-- ---- the iterations, by the halves L and R

abbrev pub round : ℕ × ℕ → Bor ℕ → ℕ × ℕ
round h k = (h.1, bit_xor h.0 (f h.1 k.now))

pub iterated : (ks : List (Bor ℕ)) (h : ℕ × ℕ)
    → iterate (map (λ k. k.now) ks) h.0 h.1 ≡ (fold round h ks).1 * 2 ^ 32 + (fold round h ks).0
iterated [] h = refl
iterated (k ∷ ks) h = iterated ks (round h k)

-- ---- the schedule

pub shift_is : (s c : ℕ) → (c * 2 ^ s) % 2 ^ 64 % 2 ^ 28 + c / 2 ^ (28 - s) ≡ left_shift s c
unfolding left_shift
shift_is s c = ap (λ (x : ℕ). x + c / 2 ^ (28 - s)) (mod-mod-pow (c * 2 ^ s) 36 28)

pub shift_lt : (s c : ℕ) → s ≤ 2 → c < 2 ^ 28 → left_shift s c < 2 ^ 28
unfolding left_shift
shift_lt zero c hs hc = omega arith
shift_lt (suc zero) c hs hc = omega arith
shift_lt (suc (suc zero)) c hs hc = omega arith
shift_lt (suc (suc (suc s))) c hs hc = absurd (omega arith)

pub key_step : (ks ss : List ℕ) (i c d c' d' v : ℕ) → i < length ks → i < length ss
    → c' ≡ left_shift (get_or ss i 0) c → d' ≡ left_shift (get_or ss i 0) d → v ≡ permute 56 PC_2 (c' * 2 ^ 28 + d')
    → take (i + 1) (set ks i v) ++ key_blocks (drop (i + 1) ss) c' d' ≡ take i ks ++ key_blocks (drop i ss) c d
key_step ks ss i c d c' d' v hi hs ec ed ev =
    rw (add-one, take-suc-set ks i v hi, append_assoc)
    (ap (λ (z : List ℕ). take i ks ++ z) (rw (ev, ec, ed) (sym (ap (λ (z : List ℕ). key_blocks z c d) (drop-cons ss i 0 hs)))))
