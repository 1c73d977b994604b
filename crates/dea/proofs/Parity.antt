-- The parity bits of the key, bits 8, 16, .., 64, do nothing.
use mathlib.Core.Path.{◌≡◌, sym, ap, ◌∙◌}
use mathlib.Core.List.{List, reverse}
use Prim.Native.Nat.{ℕ, ◌/◌, ◌%◌, ◌^◌, ◌<◌}
use lib.Bits.{bit_and}
use Rattle.dea.specs.Tables.{PC_1, shifts}
use Rattle.dea.specs.Dea.{bit, permute, key_blocks, schedule, cipher, encipher, decipher}
use Rattle.dea.specs.Claims.{without_parity}
use Rattle.dea.proofs.Linear.{lin_comp, lin_and, lin_test}
use Rattle.dea.proofs.Permutations.{lin_permute}

first_choice : (k : ℕ) → k < 2 ^ 64 → permute 64 PC_1 (without_parity k) ≡ permute 64 PC_1 k
unfolding PC_1 bit without_parity
first_choice =
    lin_test (λ k. permute 64 PC_1 (bit_and k 0xFEFEFEFEFEFEFEFE)) (permute 64 PC_1)
    (lin_comp (permute 64 PC_1) (λ k. bit_and k 0xFEFEFEFEFEFEFEFE) (lin_permute 64 PC_1) (lin_and 0xFEFEFEFEFEFEFEFE))
    (lin_permute 64 PC_1) 64 tt

schedule_parity : (k : ℕ) → k < 2 ^ 64 → schedule (without_parity k) ≡ schedule k
unfolding schedule
schedule_parity k h = ap (λ (cd : ℕ). key_blocks shifts (cd / 2 ^ 28) (cd % 2 ^ 28)) (first_choice k h)

pub parity_bits : (j k x : ℕ) → j < 2 ^ 64 → k < 2 ^ 64 → without_parity j ≡ without_parity k
    → (encipher j x ≡ encipher k x) × (decipher j x ≡ decipher k x)
unfolding encipher decipher
parity_bits j k x hj hk e =
    let s : schedule j ≡ schedule k = sym (schedule_parity j hj) ∙ ap schedule e ∙ schedule_parity k hk in
    (ap (λ (ks : List ℕ). cipher ks x) s, ap (λ (ks : List ℕ). cipher (reverse ks) x) s)
