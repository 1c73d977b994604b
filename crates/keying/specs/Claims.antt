-- What is claimed of keys and MACs; proved as `claims` in proofs/Laws.antt.
use Rattle.std.specs.Prelude.{◌≡◌, Bool, true, List, map, ℕ, ◌*◌, ◌%◌, ◌^◌, ◌<◌, ltb, length}
use Rattle.octets.specs.Text.{Text, all}
use Rattle.octets.specs.Number.{number}
use Rattle.keying.specs.declared.Top.{Top}
use Rattle.keying.specs.Keys.{seal, unseal}
use Rattle.keying.specs.Working.{working}
use Rattle.keying.specs.Mac.{mac}
use Rattle.keying.specs.Iv.{conceal, reveal}

pub record Claims : Type 0 where
  -- what is sealed, plain or notarized, under a single key or a pair, is unsealed
  pub round_trip : (notarized : Bool) (org rcv : Text) (top : Top) (count x : ℕ) → x < 2 ^ 64
      → unseal (working notarized org rcv top count) (seal (working notarized org rcv top count) x) ≡ x
  -- eight characters of seven bits to a key: each byte one bit to the left
  pub one_bit_to_the_left : (text : Text) → all (λ c. ltb c 128) text ≡ true → length text ≡ 8
      → number text * 2 % 2 ^ 64 ≡ number (map (λ c. c * 2) text)
  -- under every key, single or pair: ded undoes ede and the other way round
  pub unseal_after_seal : (key : Top) (x : ℕ) → x < 2 ^ 64 → unseal key (seal key x) ≡ x
  pub seal_after_unseal : (key : Top) (x : ℕ) → x < 2 ^ 64 → seal key (unseal key x) ≡ x
  pub sealed_is_a_block : (key : Top) (x : ℕ) → seal key x < 2 ^ 64
  pub unsealed_is_a_block : (key : Top) (x : ℕ) → unseal key x < 2 ^ 64
  -- a MAC has 32 bits
  pub mac_is_32_bits : (key : ℕ) (text : Text) → mac key text < 2 ^ 32
  -- under any data keys
  pub reveal_after_conceal : (keys : List ℕ) (x : ℕ) → x < 2 ^ 64 → reveal keys (conceal keys x) ≡ x
  pub conceal_after_reveal : (keys : List ℕ) (x : ℕ) → x < 2 ^ 64 → conceal keys (reveal keys x) ≡ x
  pub concealed_is_a_block : (keys : List ℕ) (x : ℕ) → conceal keys x < 2 ^ 64
  pub revealed_is_a_block : (keys : List ℕ) (x : ℕ) → reveal keys x < 2 ^ 64
