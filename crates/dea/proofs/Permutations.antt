-- A permuted block: exclusive-or passes through it, and it has as many bits as the table names.
use mathlib.Core.Path.{◌≡◌, refl, sym, ap, ◌∙◌, subst}
use mathlib.Core.List.{List, [], ◌∷◌}
use Prim.Native.Nat.{ℕ, suc, ◌+◌, ◌-◌, ◌*◌, ◌/◌, ◌%◌, ◌^◌, ◌<◌}
use native.Mathlib.Nat.{pow-suc, add-zero, suc-add, zero-add, add-suc}
use native.Mathlib.Omega.{arith}
use lib.ListN.{length}
use lib.Bits.{bit_xor, xor_shr, xor_mod, xor_block}
use Rattle.dea.specs.Tables.{IP, IP⁻¹}
use Rattle.dea.specs.Dea.{bit, gather, permute}
use Rattle.dea.proofs.Linear.{Linear, lin_id, lin_comp, lin_test}

pub bit_lt : (n i x : ℕ) → bit n i x < 2
unfolding bit
bit_lt n i x = omega arith

bit_of_xor : (n i a b : ℕ) → bit n i (bit_xor a b) ≡ bit_xor (bit n i a) (bit n i b)
unfolding bit
bit_of_xor n i a b = ap (λ (x : ℕ). x % 2) (xor_shr a b (n - i)) ∙ xor_mod (a / 2 ^ (n - i)) (b / 2 ^ (n - i)) 1

gather_xor : (n a b c d : ℕ) (ts : List ℕ)
    → gather n (bit_xor a b) (bit_xor c d) ts ≡ bit_xor (gather n a c ts) (gather n b d ts)
gather_xor n a b c d [] = refl
gather_xor n a b c d (t ∷ ts) =
    ap (λ (x : ℕ). gather n (bit_xor a b) x ts)
    (ap (λ (x : ℕ). bit_xor c d * 2 + x) (bit_of_xor n t a b)
    ∙ sym (xor_block 1 c d (bit n t a) (bit n t b) (bit_lt n t a) (bit_lt n t b)))
    ∙ gather_xor n a b (c * 2 + bit n t a) (d * 2 + bit n t b) ts

pub lin_permute : (n : ℕ) (ts : List ℕ) → Linear (permute n ts)
lin_permute n ts a b = gather_xor n a b 0 0 ts

gather_lt : (n x : ℕ) (ts : List ℕ) (k c : ℕ) → c < 2 ^ k → gather n x c ts < 2 ^ (k + length ts)
gather_lt n x [] k c h = rw add-zero h
gather_lt n x (t ∷ ts) k c h =
    subst (λ (m : ℕ). gather n x (c * 2 + bit n t x) ts < 2 ^ m) (suc-add k (length ts) ∙ sym (add-suc k (length ts)))
    (gather_lt n x ts (suc k) (c * 2 + bit n t x) (rw pow-suc (omega (arith, bit_lt n t x))))

pub permute_lt : (n : ℕ) (ts : List ℕ) (x : ℕ) → permute n ts x < 2 ^ length ts
permute_lt n ts x =
    subst (λ (m : ℕ). permute n ts x < 2 ^ m) (zero-add (length ts)) (gather_lt n x ts 0 0 (omega arith))

-- ---- the initial permutation and its inverse

pub inverse_initial : (x : ℕ) → x < 2 ^ 64 → permute 64 IP⁻¹ (permute 64 IP x) ≡ x
unfolding IP⁻¹ IP bit
inverse_initial =
    lin_test (λ x. permute 64 IP⁻¹ (permute 64 IP x)) (λ x. x)
    (lin_comp (permute 64 IP⁻¹) (permute 64 IP) (lin_permute 64 IP⁻¹) (lin_permute 64 IP)) lin_id 64 tt

pub initial_inverse : (x : ℕ) → x < 2 ^ 64 → permute 64 IP (permute 64 IP⁻¹ x) ≡ x
unfolding IP⁻¹ IP bit
initial_inverse =
    lin_test (λ x. permute 64 IP (permute 64 IP⁻¹ x)) (λ x. x)
    (lin_comp (permute 64 IP) (permute 64 IP⁻¹) (lin_permute 64 IP) (lin_permute 64 IP⁻¹)) lin_id 64 tt
