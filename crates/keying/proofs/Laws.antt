-- Unsealing undoes sealing and the other way round, single or pair; so it is with an IV's value; a MAC has 32 bits.
use mathlib.Core.Path.{◌≡◌, refl, ap, ◌∙◌}
use mathlib.Core.Bool.{Bool, true, false, cond, not}
use mathlib.Core.List.{List, [], ◌∷◌}
use Prim.Native.Nat.{ℕ, ◌/◌, ◌^◌, ◌<◌}
use native.Mathlib.Omega.{arith}
use lib.Bits.{bit_xor}
use Rattle.octets.specs.Text.{Text}
use Rattle.dea.specs.Dea.{schedule, cipher, encipher, decipher}
use Rattle.dea.specs.Chain.{chain, chained, blocks_of}
use Rattle.dea.proofs.Laws.{decipher_encipher, encipher_decipher, cipher_lt, encipher_lt, decipher_lt}
use Rattle.keying.specs.declared.Top.{Top}
use Rattle.keying.specs.declared.Top.TheVariants.{Single, Pair}
use Rattle.keying.specs.Keys.{seal, unseal, order}
use Rattle.keying.specs.Working.{working}
use Rattle.keying.specs.Mac.{mac}
use Rattle.keying.specs.Iv.{last_key, conceal, reveal}
use Rattle.keying.specs.Claims.{Claims}
use Rattle.keying.proofs.Characters.{one_bit_left}

-- under a single key and under a pair, each half by its schedule in its order
pub single_way : (back : Bool) (key : ℕ) → cipher (order back (schedule key)) ≡ cond back (unseal (Single key)) (seal (Single key))
unfolding seal unseal encipher decipher
single_way true key = refl
single_way false key = refl

pub pair_way : (back : Bool) (left right : ℕ)
    → (λ x. cipher (order back (schedule left)) (cipher (order (not back) (schedule right)) (cipher (order back (schedule left)) x)))
    ≡ cond back (unseal (Pair left right)) (seal (Pair left right))
unfolding seal unseal encipher decipher
pair_way true left right = refl
pair_way false left right = refl

pub unseal_seal : (key : Top) (x : ℕ) → x < 2 ^ 64 → unseal key (seal key x) ≡ x
unfolding unseal seal
unseal_seal (Single k) x h = decipher_encipher k x h
unseal_seal (Pair l r) x h =
    let y = encipher l x in
    ap (λ (z : ℕ). decipher l (encipher r z)) (decipher_encipher l (decipher r y) (decipher_lt r y))
    ∙ ap (decipher l) (encipher_decipher r y (encipher_lt l x))
    ∙ decipher_encipher l x h

pub seal_unseal : (key : Top) (x : ℕ) → x < 2 ^ 64 → seal key (unseal key x) ≡ x
unfolding unseal seal
seal_unseal (Single k) x h = encipher_decipher k x h
seal_unseal (Pair l r) x h =
    let y = decipher l x in
    ap (λ (z : ℕ). encipher l (decipher r z)) (encipher_decipher l (encipher r y) (encipher_lt r y))
    ∙ ap (encipher l) (decipher_encipher r y (decipher_lt l x))
    ∙ encipher_decipher l x h

pub seal_lt : (key : Top) (x : ℕ) → seal key x < 2 ^ 64
unfolding seal
seal_lt (Single k) x = encipher_lt k x
seal_lt (Pair l r) x = encipher_lt l (decipher r (encipher l x))

pub unseal_lt : (key : Top) (x : ℕ) → unseal key x < 2 ^ 64
unfolding unseal
unseal_lt (Single k) x = decipher_lt k x
unseal_lt (Pair l r) x = decipher_lt l (encipher r (decipher l x))

chain_lt : (ks : List ℕ) (output : ℕ) (bs : List ℕ) → output < 2 ^ 64 → chain ks output bs < 2 ^ 64
chain_lt ks output [] h = h
chain_lt ks output (b ∷ bs) h = chain_lt ks (cipher ks (bit_xor output b)) bs (cipher_lt ks (bit_xor output b))

left_32 : (x : ℕ) → x < 2 ^ 64 → x / 2 ^ 32 < 2 ^ 32
left_32 x h = omega arith

pub mac_lt : (key : ℕ) (text : Text) → mac key text < 2 ^ 32
unfolding mac chained
mac_lt key text = left_32 _ (chain_lt (schedule key) 0 (blocks_of text) (omega arith))

pub reveal_conceal : (keys : List ℕ) (x : ℕ) → x < 2 ^ 64 → reveal keys (conceal keys x) ≡ x
unfolding reveal conceal
reveal_conceal keys x h = decipher_encipher (last_key keys) x h

pub conceal_reveal : (keys : List ℕ) (x : ℕ) → x < 2 ^ 64 → conceal keys (reveal keys x) ≡ x
unfolding reveal conceal
conceal_reveal keys x h = encipher_decipher (last_key keys) x h

pub conceal_lt : (keys : List ℕ) (x : ℕ) → conceal keys x < 2 ^ 64
unfolding conceal
conceal_lt keys x = encipher_lt (last_key keys) x

pub reveal_lt : (keys : List ℕ) (x : ℕ) → reveal keys x < 2 ^ 64
unfolding reveal
reveal_lt keys x = decipher_lt (last_key keys) x

pub claims : Claims
claims = record {
  round_trip = λ n org rcv top count. unseal_seal (working n org rcv top count);
  one_bit_to_the_left = one_bit_left;
  unseal_after_seal = unseal_seal;
  seal_after_unseal = seal_unseal;
  sealed_is_a_block = seal_lt;
  unsealed_is_a_block = unseal_lt;
  mac_is_32_bits = mac_lt;
  reveal_after_conceal = reveal_conceal;
  conceal_after_reveal = conceal_reveal;
  concealed_is_a_block = conceal_lt;
  revealed_is_a_block = reveal_lt;
}
