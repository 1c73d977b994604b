-- `image::slot_place` meets its contract: the way from here on is the whole way.
use mathlib.Core.Path.{◌≡◌, sym, ap, ◌∙◌}
use Prim.Native.Nat.{ℕ, ◌+◌, ◌-◌}
use native.Mathlib.Nat.{sub-zero}
use native.Mathlib.Omega.{arith}
use Rattle.octets.specs.Text.{Text}
use Rattle.image.specs.Image.{front_size}
use Rattle.image.specs.Places.{past, slot_place}
use Rattle.image.proofs.Steps.{past_one, past_none}
use Rattle.image.proofs.slot_place.Goals as goal

pub loop-init : goal.loop-init
loop-init c =
    let a = c.args in
    record { near = omega arith; so = ap (λ (n : ℕ). past n front_size a.image.now) (sym (sub-zero a.slot)) }

pub loop-preserved : goal.loop-preserved
loop-preserved c =
    let i = c.loop.invariant in
    let k : ℕ = c.loop.counter in
    let slot : ℕ = c.args.slot in
    let im : Text = c.args.image.now in
    let next = c.behind-at.ensures in
    let less : slot - k - 1 ≡ slot - (k + 1) = omega arith in
    record {
      near = omega arith;
      so = i.so ∙ past_one (slot - k) c.loop.at im (omega arith)
          ∙ λ j. past (less j) (sym next.value j) im;
    }

pub returns : goal.returns
unfolding slot_place
returns c =
    let a = c.args in
    record {
      value = sym (c.loop.invariant.so ∙ past_none (a.slot - c.loop.counter) c.loop.at a.image.now (omega arith));
      upper_bound = omega arith;
    }
