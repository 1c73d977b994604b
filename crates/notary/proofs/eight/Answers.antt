-- After i characters x is their number, as far as 64 bits hold it; eight fit.
use mathlib.Core.Path.{◌≡◌, refl, ◌∙◌}
use mathlib.Core.Bool.{true}
use Prim.Native.Nat.{ℕ, zero, suc, ◌+◌, ◌%◌, ◌<◌}
use native.Mathlib.Omega.{arith}
use borrow.Author.Tests.{lt-ltb}
use lib.ListN.{length, get_or}
use Rattle.octets.specs.Text.{Text}
use Rattle.octets.specs.Part.{all_octets}
use Rattle.octets.specs.Number.{number}
use Rattle.keying.specs.Working.{characters}
use Rattle.keying.proofs.Characters.{number_next, eight_fit}
use Rattle.notary.proofs.eight.Goals as goal

pub loop-i-init : goal.loop-i-init
unfolding number
loop-i-init c = refl

pub loop-i-preserved : goal.loop-i-preserved
loop-i-preserved c =
    let at = c.args.at in
    let w = c.args.identity.now in
    let i = c.loop-i.i in
    omega (arith, number_next i at w, c.type_inv.identity ((at + i) % length w))

-- the characters of an identity are bytes
octets_characters : (n at : ℕ) (w : Text) → ((i : ℕ) → get_or w i 0 < 256) → all_octets (characters n at w) ≡ true
octets_characters zero at w h = refl
octets_characters (suc n) at w h = rw (lt-ltb _ 256 (h (at % length w))) (octets_characters n (at + 1) w h)

pub returns : goal.returns
returns c =
    let at = c.args.at in
    let w = c.args.identity.now in
    let i : c.loop-i.i ≡ 8 = omega arith in
    c.loop-i.invariant ∙ rw i (eight_fit at w (octets_characters 8 at w (λ k. (c.type_inv.identity k).fits)))
