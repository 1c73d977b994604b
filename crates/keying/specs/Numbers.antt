-- Numbers to hold it to; proved as `numbers` in proofs/Numbers.antt.
use Rattle.std.specs.Prelude.{◌≡◌, true, false}
use Rattle.keying.specs.declared.Top.TheVariants.{Single, Pair}
use Rattle.keying.specs.Parity.{odd, odd_byte}
use Rattle.keying.specs.Keys.{odd_top}
use Rattle.keying.specs.Working.{offset}

pub record Numbers : Type 0 where
  pub key_is_odd : odd 0x0123456789ABCDEF ≡ true
  pub byte_03_is_even : odd_byte 0x03 ≡ false
  pub byte_00_is_even : odd_byte 0x00 ≡ false
  pub byte_FE_is_odd : odd_byte 0xFE ≡ true
  pub offset_by_258 : offset 258 0x0123456789ABCDEF ≡ 0x0123456789ABCCED
  -- one even byte, the first or the last, and the key is not odd; of a pair both halves must be
  pub first_byte_even : odd 0x0023456789ABCDEF ≡ false
  pub last_byte_even : odd 0x0123456789ABCDEE ≡ false
  pub single_key_odd : odd_top (Single 0x0123456789ABCDEF) ≡ true
  pub single_key_even : odd_top (Single 0x0123456789ABCDEE) ≡ false
  pub both_halves_odd : odd_top (Pair 0x0123456789ABCDEF 0xFEDCBA9876543210) ≡ true
  pub left_half_even : odd_top (Pair 0x0123456789ABCDEE 0xFEDCBA9876543210) ≡ false
  pub right_half_even : odd_top (Pair 0x0123456789ABCDEF 0xFEDCBA9876543211) ≡ false
