-- Worked examples of the keys and MACs of a message; the numbers are those of an independent cipher, the last MAC that of
-- FIPS 113. Proved as `examples` in proofs/Examples.antt.
use Rattle.std.specs.Prelude.{◌≡◌, true, false, [], ◌∷◌}
use Rattle.octets.specs.Text.{ascii}
use Rattle.keying.specs.declared.Top.TheVariants.{Single, Pair}
use Rattle.keying.specs.Keys.{seal}
use Rattle.keying.specs.Working.{first_half, second_half, notarizing, working}
use Rattle.keying.specs.Mac.{mac_key, mac}
use Rattle.keying.specs.Iv.{conceal}

pub record Examples : Type 0 where
  -- a data key under a single key offset by 258, and under a pair of which both halves are offset by 99,999,998
  pub under_a_single_key : seal (working false [] [] (Single 0x0123456789ABCDEF) 258) 0x133457799BBCDFF1
      ≡ 0xE9EFA14B59329E9C
  pub under_a_pair : seal (working false [] [] (Pair 0x0123456789ABCDEF 0xFEDCBA9876543210) 99_999_998) 0x133457799BBCDFF1
      ≡ 0xC5F17DE34DE67C90
  -- section 7.5: Party A's identity is 'CITYB' and Party B's identity is 'MANHAN'
  pub FM1 : first_half (ascii "CITYB") ≡ ascii "CITYBCIT"
  pub FM2 : second_half (ascii "CITYB") ≡ ascii "YBCITYBC"
  pub TO1 : first_half (ascii "MANHAN") ≡ ascii "MANHANMA"
  pub TO2 : second_half (ascii "MANHAN") ≡ ascii "NHANMANH"
  -- their notarizing key and pair; the other way round they are others
  pub notarizing_key : notarizing (ascii "CITYB") (ascii "MANHAN") (Single 0x0123456789ABCDEF) 258 ≡ Single 0x36A8465CF72770D3
  pub other_way_round : notarizing (ascii "MANHAN") (ascii "CITYB") (Single 0x0123456789ABCDEF) 258
      ≡ Single 0x6214C5144EFEDA4E
  pub notarizing_pair :
      notarizing (ascii "CITYB") (ascii "MANHAN") (Pair 0x0123456789ABCDEF 0xFEDCBA9876543210) 99_999_998
      ≡ Pair 0xFC53DA469916CF4D 0x9DEB3AEB0D2D6ED0
  -- a data key notarized under each
  pub notarized : seal (working true (ascii "CITYB") (ascii "MANHAN") (Single 0x0123456789ABCDEF) 258) 0x133457799BBCDFF1
      ≡ 0x288BC57DFE5BBE4B
  pub notarized_under_a_pair :
      seal (working true (ascii "CITYB") (ascii "MANHAN") (Pair 0x0123456789ABCDEF 0xFEDCBA9876543210) 99_999_998)
      0x133457799BBCDFF1
      ≡ 0xD13C7782295D219A
  -- identities that are replicated alike have one notarizing key
  pub replicated_alike : notarizing (ascii "A") (ascii "B") (Single 0x0123456789ABCDEF) 258
      ≡ notarizing (ascii "AA") (ascii "B") (Single 0x0123456789ABCDEF) 258
  -- the MAC's key: the one data key, or the exclusive-or of the two
  pub one_mac_key : mac_key (0x133457799BBCDFF1 ∷ []) ≡ 0x133457799BBCDFF1
  pub two_mac_keys : mac_key (0x133457799BBCDFF1 ∷ 0x1F1F1F1F0E0E0E0E ∷ []) ≡ 0x0C2B486695B2D1FF
  -- a last block that is short, and one that is full
  pub short_last_block : mac 0x133457799BBCDFF1 (ascii "MCL/RSM RCV/A ") ≡ 0xBA90F456
  pub full_last_block : mac 0x133457799BBCDFF1 (ascii "MCL/RSM RCV/MILL") ≡ 0x324D6793
  pub four_blocks : mac 0x0123456789ABCDEF (ascii "7654321 Now is the time for ") ≡ 0xF1D30F68
  -- an IV under the one data key, and under the second of two
  pub iv_under_one_key : conceal (0x133457799BBCDFF1 ∷ []) 0x1122334455667788 ≡ 0x71D528C6050FF828
  pub iv_under_the_second : conceal (0x133457799BBCDFF1 ∷ 0x1F1F1F1F0E0E0E0E ∷ []) 0x1122334455667788
      ≡ 0x216F20D656BCBA0B
