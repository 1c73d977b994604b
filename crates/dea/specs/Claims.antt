-- What is claimed of the algorithm, for every key and block; proved as `claims` in proofs/Laws.antt.
use Rattle.std.specs.Prelude.{◌≡◌, ℕ, ◌^◌, ◌<◌}
use Rattle.std.specs.Int.Bits.{bit_and}
use Rattle.dea.specs.Dea.{encipher, decipher}

-- a key without its parity bits, the last of each byte
unfoldable pub without_parity : ℕ → ℕ
without_parity key = bit_and key 0xFEFEFEFEFEFEFEFE

pub record Claims : Type 0 where
  pub decipher_after_encipher : (key x : ℕ) → x < 2 ^ 64 → decipher key (encipher key x) ≡ x
  pub encipher_after_decipher : (key x : ℕ) → x < 2 ^ 64 → encipher key (decipher key x) ≡ x
  -- keys that differ in parity bits alone encipher and decipher alike
  pub parity_does_nothing : (j k x : ℕ) → j < 2 ^ 64 → k < 2 ^ 64 → without_parity j ≡ without_parity k
      → (encipher j x ≡ encipher k x) × (decipher j x ≡ decipher k x)
  pub enciphered_is_a_block : (key x : ℕ) → encipher key x < 2 ^ 64
  pub deciphered_is_a_block : (key x : ℕ) → decipher key x < 2 ^ 64
