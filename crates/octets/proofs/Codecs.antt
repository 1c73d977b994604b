-- Laws of codecs, proved once for each way to make one.
use mathlib.Core.Path.{◌≡◌, refl, sym, ap, ◌∙◌, subst}
use mathlib.Core.Bool.{true}
use mathlib.Core.List.{[], ◌++◌, append_assoc, append-nil}
use Prim.Native.Nat.{ℕ, ◌+◌, ◌^◌, ◌<◌}
use native.Mathlib.Omega.{arith}
use lib.Dec.{ltb}
use lib.ListN.{length, length-append}
use lib.Seq.{take_at}
use Rattle.octets.specs.Text.{Text}
use Rattle.octets.specs.Part.{all_octets}
use Rattle.octets.specs.Number.{number, bytes, copies}
use Rattle.octets.specs.Codec.{Codec, numeral, plain, ◌followed_by◌, as_record}
use Rattle.octets.specs.Codec.{width, written, part_or_zeros, value_at, Fits}
use Rattle.octets.proofs.Comparing.{all_append}
use Rattle.octets.proofs.Numbers.{length_bytes, octets_bytes, number_bytes_below, number_below, bytes_number}
use Rattle.octets.proofs.Parts.{length_part, octets_part, part_at, part_join}

-- ---- what is written of a value that fits

-- is as long as the codec is wide
pub length_written : {A : Type 0} (c : Codec A) (v : A) → Fits c v → length (written c v) ≡ width c
length_written (numeral k) n h = length_bytes k n
length_written (plain k) t h = h.size
length_written (c followed_by d) v h =
    length-append (written c v.0) (written d v.1)
    ∙ omega (arith, length_written c v.0 h.0, length_written d v.1 h.1)
length_written (as_record c together apart u v) b h = length_written c (apart b) h

-- is bytes
pub octets_written : {A : Type 0} (c : Codec A) (v : A) → Fits c v → all_octets (written c v) ≡ true
octets_written (numeral k) n h = octets_bytes k n
octets_written (plain k) t h = h.octets
octets_written (c followed_by d) v h =
    all_append (λ b. ltb b 256) (written c v.0) (written d v.1)
    ∙ rw (octets_written c v.0 h.0, octets_written d v.1 h.1)
octets_written (as_record c together apart u v) b h = octets_written c (apart b) h

-- the second of two stands behind the first
second_place : (x a b y : Text) → x ++ ((a ++ b) ++ y) ≡ (x ++ a) ++ (b ++ y)
second_place x a b y = ap (λ (t : Text). x ++ t) (append_assoc a b y) ∙ sym (append_assoc x a (b ++ y))

-- is read back where it stands
pub read_at : {A : Type 0} (c : Codec A) (v : A) (x y : Text) → Fits c v
    → value_at c (length x) (x ++ (written c v ++ y)) ≡ v
read_at (numeral k) n x y h =
    ap number
    (subst (λ (m : ℕ). part_or_zeros m (length x) (x ++ (bytes k n ++ y)) ≡ bytes k n) (length_bytes k n)
    (part_at x (bytes k n) y))
    ∙ number_bytes_below k n h
read_at (plain k) t x y h =
    subst (λ (m : ℕ). part_or_zeros m (length x) (x ++ (t ++ y)) ≡ t) h.size (part_at x t y)
read_at (c followed_by d) v x y h =
    let a = written c v.0 in
    let b = written d v.1 in
    let n : length x + width c ≡ length (x ++ a) = omega (arith, length-append x a, length_written c v.0 h.0) in
    let first = ap (λ (t : Text). value_at c (length x) (x ++ t)) (append_assoc a b y) ∙ read_at c v.0 x (b ++ y) h.0 in
    let second =
    ap (value_at d (length x + width c)) (second_place x a b y) ∙ ap (λ (m : ℕ). value_at d m ((x ++ a) ++ (b ++ y))) n
    ∙ read_at d v.1 (x ++ a) y h.1 in
    λ j. (first j, second j)
read_at (as_record c together apart u v) b x y h = ap together (read_at c (apart b) x y h) ∙ u b

pub read_written : {A : Type 0} (c : Codec A) (v : A) → Fits c v → value_at c 0 (written c v) ≡ v
read_written c v h = ap (value_at c 0) (sym (append-nil (written c v))) ∙ read_at c v [] [] h

-- ---- what is read from bytes

-- fits
pub fits_read : {A : Type 0} (c : Codec A) (at : ℕ) (s : Text) → all_octets s ≡ true → Fits c (value_at c at s)
fits_read (numeral k) at s h =
    subst (λ (m : ℕ). number (part_or_zeros k at s) < 256 ^ m) (length_part k at s)
    (number_below (part_or_zeros k at s) (octets_part k at s h))
fits_read (plain k) at s h = record { size = length_part k at s; octets = octets_part k at s h }
fits_read (c followed_by d) at s h = (fits_read c at s h, fits_read d (at + width c) s h)
fits_read (as_record c together apart u v) at s h = subst (Fits c) (sym (v (value_at c at s))) (fits_read c at s h)

-- is written as it stood there
pub written_at : {A : Type 0} (c : Codec A) (at : ℕ) (s : Text) → all_octets s ≡ true
    → written c (value_at c at s) ≡ part_or_zeros (width c) at s
written_at (numeral k) at s h =
    ap (λ (m : ℕ). bytes m (number (part_or_zeros k at s))) (sym (length_part k at s))
    ∙ bytes_number (part_or_zeros k at s) (octets_part k at s h)
written_at (plain k) at s h = refl
written_at (c followed_by d) at s h =
    part_join (width c) (width d) at s (written_at c at s h) (written_at d (at + width c) s h)
written_at (as_record c together apart u v) at s h = ap (written c) (v (value_at c at s)) ∙ written_at c at s h

pub written_read : {A : Type 0} (c : Codec A) (s : Text) → length s ≡ width c → all_octets s ≡ true
    → written c (value_at c 0 s) ≡ s
written_read c s l h = written_at c 0 s h ∙ take_at s (copies (width c) 0) (width c) l
