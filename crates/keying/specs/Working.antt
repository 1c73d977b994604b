-- The working key of a message, under which its data keys go: the top key offset by the message's count (section 7.4) or,
-- notarized, the notarizing key of its originator, its receiver and its count (section 7.5).
use Rattle.std.specs.Prelude.{Bool, true, false, [], ◌∷◌, ℕ, zero, suc, ◌+◌, ◌*◌, ◌/◌, ◌%◌, ◌^◌, length, get_or}
use Rattle.std.specs.Int.Bits.{bit_xor}
use Rattle.octets.specs.Text.{Text}
use Rattle.octets.specs.Number.{number}
use Rattle.dea.specs.Dea.{encipher}
use Rattle.keying.specs.declared.Top.{Top}
use Rattle.keying.specs.declared.Top.TheVariants.{Single, Pair}

-- ---- section 7.4

-- the count as a 64-bit number, exclusive-or'ed to the key
unfoldable pub offset : ℕ → ℕ → ℕ
offset count key = bit_xor key count

-- ---- section 7.5

-- n characters from place `at` on of an identity that is replicated as often as necessary
abbrev pub characters : ℕ → ℕ → Text → Text
characters zero at identity = []
characters (suc n) at identity = get_or identity (at % length identity) 0 ∷ characters n (at + 1) identity

-- the first eight and the second eight characters of sixteen: FM1 and FM2 of the originator, TO1 and TO2 of the receiver
unfoldable pub first_half : Text → Text
first_half identity = characters 8 0 identity

unfoldable pub second_half : Text → Text
second_half identity = characters 8 8 identity

-- a key and eight characters: KB + AC = (k1+b7, k2+b6, .., k7+b1, p) for each byte KB and character AC = (p, b7, .., b1), so
-- the characters stand one bit to the left
unfoldable pub add_characters : ℕ → Text → ℕ
add_characters key text = bit_xor key (number text * 2 % 2 ^ 64)

-- NSl = eKKR(TO2), where KKR = KKr + FM1; NSr = eKKL(FM2), where KKL = KKl + TO1: the one from the originator to the
-- receiver, the other from the receiver to the originator
unfoldable pub notary : ℕ → Text → Text → ℕ
notary key from to = encipher (add_characters key (first_half from)) (number (second_half to))

-- KN = KK + NS, NS = [(leftmost 32 bits of NSl) || (rightmost 32 bits of NSr)] + CT;
-- *KN = (KKl + NSl) || (KKr + NSr), where NSl and NSr are offset by CT
unfoldable pub notarizing : Text → Text → Top → ℕ → Top
notarizing org rcv (Single key) count =
    Single (bit_xor key (offset count (notary key org rcv / 2 ^ 32 * 2 ^ 32 + notary key rcv org % 2 ^ 32)))
notarizing org rcv (Pair left right) count =
    Pair (bit_xor left (offset count (notary right org rcv))) (bit_xor right (offset count (notary left rcv org)))

-- ---- both

-- whether it is notarized, ORG, RCV, the top key, the count; offset are both halves of a pair
unfoldable pub working : Bool → Text → Text → Top → ℕ → Top
working true org rcv top count = notarizing org rcv top count
working false org rcv (Single key) count = Single (offset count key)
working false org rcv (Pair left right) count = Pair (offset count left) (offset count right)
