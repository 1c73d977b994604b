-- Worked examples by computation: the first of each table of NBS Special Publication 500-20, and both ways of one key.
use mathlib.Core.Path.{◌≡◌, refl}
use Rattle.dea.specs.Tables.{IP, IP⁻¹, E, P, PC_1, PC_2, shifts, boxes, S1, S2, S3, S4, S5, S6, S7, S8}
use Rattle.dea.specs.Dea.{bit, select, f, left_shift, schedule, cipher, encipher, decipher}

-- what is opened for an example to be computed
unfoldable pub computes : Unit {0}
unfolding IP IP⁻¹ E P PC_1 PC_2 shifts boxes S1 S2 S3 S4 S5 S6 S7 S8 bit select f left_shift schedule cipher encipher decipher
computes = tt

variable_plaintext : encipher 0x0101010101010101 0x8000000000000000 ≡ 0x95F8A5E5DD31D900
unfolding computes
variable_plaintext = refl

variable_key : encipher 0x8001010101010101 0 ≡ 0x95A8D72813DAA94D
unfolding computes
variable_key = refl

permutation_operation : encipher 0x1046913489980131 0 ≡ 0x88D55E54F54C97B4
unfolding computes
permutation_operation = refl

substitution_table : encipher 0x7CA110454A1A6E57 0x01A1D6D039776742 ≡ 0x690F5B0D9A26939B
unfolding computes
substitution_table = refl

enciphered : encipher 0x133457799BBCDFF1 0x0123456789ABCDEF ≡ 0x85E813540F0AB405
unfolding computes
enciphered = refl

deciphered : decipher 0x133457799BBCDFF1 0x85E813540F0AB405 ≡ 0x0123456789ABCDEF
unfolding computes
deciphered = refl
