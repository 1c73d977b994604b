-- `image::records::seek_named` meets its contract: an identity is its two numbers.
use mathlib.Core.Path.{◌≡◌, refl, ap, ◌∙◌}
use mathlib.Core.Bool.{true}
use Prim.Native.Nat.{ℕ, ◌-◌, ◌^◌, ◌%◌}
use native.Mathlib.Omega.{arith}
use lib.ListN.{length, take, drop, length-take}
use Rattle.octets.specs.Text.{Text}
use Rattle.octets.specs.Part.{all_octets}
use Rattle.octets.specs.Number.{number}
use Rattle.octets.proofs.Comparing.{octets_lent, octets_part}
use Rattle.octets.proofs.Writing.{rest_is}
use Rattle.octets.proofs.Numbers.{number_fits}
use Rattle.octets.proofs.Words.{numbers_are}
use Rattle.image.specs.Places.{below, seek_slot}
use Rattle.image.proofs.records.seek_named.Goals as goal

pub slice_bounds-number-end : goal.slice_bounds-number-end
slice_bounds-number-end c = omega (arith, length-take 8 c.args.identity.now)

-- the number of eight bytes fits
eight : (s : Text) (at n : ℕ) → all_octets s ≡ true → length s ≡ 16 → n ≡ 8 → number (take n (drop at s)) % 2 ^ 64 ≡ number (take n (drop at s))
eight s at n o l e =
    number_fits (take n (drop at s)) (octets_part s at n o) (omega (arith, length-take n (drop at s)))

pub returns : goal.returns
returns c =
    let a = c.args in
    let s : Text = a.identity.now in
    let o = octets_lent s c.type_inv.identity in
    let l : length s ≡ 16 = omega arith in
    let first = c.number-first.ensures ∙ eight s 0 8 o l refl in
    let second = c.number-second.ensures ∙ eight s 8 (length s - 8) o l (omega arith) ∙ ap number (rest_is 8 s) in
    c.seek.ensures
    ∙ ap (λ (t : Text). below a.count (seek_slot a.count 0 a.from t a.image.now)) (numbers_are s l o _ _ first second)
