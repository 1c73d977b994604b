-- `image::free_slot` meets its contract: the search from here on is the whole search.
use mathlib.Core.Path.{◌≡◌, refl, sym, ◌∙◌}
use Prim.Native.Nat.{ℕ, ◌+◌, ◌-◌}
use native.Mathlib.Omega.{arith}
use lib.ListN.{get_or}
use Rattle.octets.specs.Text.{Text}
use Rattle.image.specs.Places.{seek_free, free_slot}
use Rattle.image.proofs.Steps.{one_below, none_below, free_hit, free_miss, free_end}
use Rattle.image.proofs.free_slot.Goals as goal

pub loop-slot-init : goal.loop-slot-init
loop-slot-init c = record { near = omega arith; so = refl }

pub returns-then-byte_at-eq-VACANT : goal.returns-then-byte_at-eq-VACANT
unfolding free_slot
returns-then-byte_at-eq-VACANT c =
    let turn = c.loop-slot in
    let im : Text = c.args.image.now in
    let h : get_or im turn.at 0 ≡ 0 = sym c.byte_at.ensures ∙ c.if-byte_at-eq-VACANT.true in
    one_below (turn.invariant.so ∙ free_hit (64 - turn.slot) turn.slot turn.at im (omega arith) h) (omega arith)

pub loop-slot-preserved : goal.loop-slot-preserved
loop-slot-preserved c =
    let turn = c.loop-slot in
    let slot : ℕ = turn.slot in
    let im : Text = c.args.image.now in
    let next = c.behind-at.ensures in
    let less : 64 - slot - 1 ≡ 64 - (slot + 1) = omega arith in
    let h : get_or im turn.at 0 ≡ 0 → ⊥ = λ z. c.if-byte_at-eq-VACANT.false (c.byte_at.ensures ∙ z) in
    record {
      near = omega arith;
      so = turn.invariant.so ∙ free_miss (64 - slot) slot turn.at im (omega arith) h
          ∙ λ j. seek_free (less j) (slot + 1) (sym next.value j) im;
    }

pub returns : goal.returns
unfolding free_slot
returns c =
    let turn = c.loop-slot in
    let end = turn.invariant.so ∙ free_end (64 - turn.slot) turn.slot turn.at c.args.image.now (omega arith) in
    none_below (omega (arith, end))
