-- `image::records::seek` meets its contract: the search from here on is the whole search.
use mathlib.Core.Path.{◌≡◌, sym, ap, ◌∙◌}
use mathlib.Core.Bool.{Bool, false}
use Prim.Native.Nat.{ℕ, ◌+◌, ◌-◌}
use native.Mathlib.Nat.{sub-zero}
use native.Mathlib.Omega.{arith}
use lib.ListN.{take, drop, get_or}
use Rattle.octets.specs.Text.{Text, same}
use Rattle.octets.specs.Number.{of_numbers}
use Rattle.image.specs.Image.{record_length}
use Rattle.image.specs.Places.{is_partner, seek_slot}
use Rattle.image.proofs.Sizes.{sizes}
use Rattle.image.proofs.Steps.{length_small, one_below, none_below, partner_there, partner_elsewhere}
use Rattle.image.proofs.Steps.{seek_hit, seek_miss, seek_end, seek_short}
use Rattle.image.proofs.records.seek.Goals.{then-here-eq-PARTNER+else-same_numbers, else-here-eq-PARTNER}
use Rattle.image.proofs.records.seek.Goals as goal

pub returns-then-image-lt-FRONT_SIZE : goal.returns-then-image-lt-FRONT_SIZE
returns-then-image-lt-FRONT_SIZE c =
    let a = c.args in
    none_below (omega (arith, seek_short a.count 0 a.from a.first a.second a.image.now (omega arith)))

pub loop-slot-init : goal.loop-slot-init
loop-slot-init c =
    let a = c.args in
    record {
      near = omega arith;
      so = ap (λ (n : ℕ). seek_slot n 0 a.from (of_numbers a.first a.second) a.image.now) (sym (sub-zero a.count));
    }

pub returns-then-last-at : goal.returns-then-last-at
returns-then-last-at c =
    let a = c.args in
    let turn = c.loop-slot in
    let end = seek_short (a.count - turn.slot) turn.slot turn.at a.first a.second a.image.now (omega arith) in
    none_below (omega (arith, turn.invariant.so ∙ end))

-- the identity is lent where it stands
there : (at : ℕ) (im id : Text) {r : Bool} → get_or im at 0 ≡ 2 → r ≡ same (take (at + 17 - (at + 1)) (drop (at + 1) im)) id
    → is_partner at id im ≡ r
there at im id k e =
    let n : at + 17 - (at + 1) ≡ 16 = omega arith in
    partner_there at id im k ∙ sym (e ∙ ap (λ (n : ℕ). same (take n (drop (at + 1) im)) id) n)

pub returns-then-same_numbers : goal.returns-then-same_numbers
returns-then-same_numbers c =
    let turn = c.loop-slot in
    let a = c.args in
    let id : Text = of_numbers a.first a.second in
    let h = there turn.at a.image.now id c.if-here-eq-PARTNER.true c.same_numbers.ensures ∙ c.if-same_numbers.true in
    one_below (turn.invariant.so ∙ seek_hit (a.count - turn.slot) turn.slot turn.at id a.image.now (omega arith) h) (omega arith)

pub overflow_add-at-else-here-eq-PARTNER : goal.overflow_add-at-else-here-eq-PARTNER
overflow_add-at-else-here-eq-PARTNER c =
    omega (arith, c.record_length-at.ensures, length_small (get_or c.args.image.now c.loop-slot.at 0))

pub loop-slot-preserved : goal.loop-slot-preserved
loop-slot-preserved c =
    let a = c.args in
    let turn = c.loop-slot in
    let slot : ℕ = turn.slot in
    let im : Text = a.image.now in
    let id : Text = of_numbers a.first a.second in
    let kind : ℕ = get_or im turn.at 0 in
    let step : (c.if-here-eq-PARTNER.at ≡ turn.at + record_length kind) × (is_partner turn.at id im ≡ false) =
    elim c.if-here-eq-PARTNER.branch [
      | then-here-eq-PARTNER+else-same_numbers w ↦
          let k : kind ≡ 2 = w.if-here-eq-PARTNER.true in (
            w.at-is ∙ ap (λ (n : ℕ). turn.at + n) (sym (ap record_length k ∙ sizes.partner_by_kind)),
            there turn.at im id k w.same_numbers.ensures ∙ w.if-same_numbers.false,
          )
      | else-here-eq-PARTNER w ↦ (
        w.at-is ∙ ap (λ (n : ℕ). turn.at + n) w.record_length-at.ensures,
        partner_elsewhere turn.at id im w.if-here-eq-PARTNER.false,
      )
    ] in
    let small = length_small kind in
    let less : a.count - slot - 1 ≡ a.count - (slot + 1) = omega arith in
    record {
      near = omega (arith, step.0);
      so = turn.invariant.so ∙ seek_miss (a.count - slot) slot turn.at id im (omega arith) step.1
          ∙ λ j. seek_slot (less j) (slot + 1) (sym step.0 j) id im;
    }

pub returns : goal.returns
returns c =
    let a = c.args in
    let turn = c.loop-slot in
    let end = seek_end (a.count - turn.slot) turn.slot turn.at (of_numbers a.first a.second) a.image.now (omega arith) in
    none_below (omega (arith, turn.invariant.so ∙ end))
