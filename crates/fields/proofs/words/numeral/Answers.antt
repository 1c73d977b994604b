-- One digit more has room.
use Rattle.std.proofs.Common.{ap, ◌∙◌, sym, ℕ, ◌+◌, ◌*◌, arith, drop}
use Rattle.csm.specs.Fields.{numeral}
use Rattle.fields.proofs.DigitLaws.{digit_room, numeral_on}
use Rattle.fields.proofs.words.numeral.Goals as goal

pub overflow_mul-n : goal.overflow_mul-n
overflow_mul-n c =
    let r = digit_room c.args.base c.loop-b.n c.loop-b.b-index c.args.digits.now c.requires.base_bound c.requires.digits_value c.loop-b.invariant.small (omega arith) in
    omega (arith, r.product)

pub overflow_add-n : goal.overflow_add-n
overflow_add-n c =
    let r = digit_room c.args.base c.loop-b.n c.loop-b.b-index c.args.digits.now c.requires.base_bound c.requires.digits_value c.loop-b.invariant.small (omega arith) in
    omega (arith, r.fits, c.digit_value.ensures)

pub loop-b-preserved : goal.loop-b-preserved
loop-b-preserved c =
    let b = c.args.base in
    let n = c.loop-b.n in
    let i = c.loop-b.b-index in
    let w = c.args.digits.now in
    let r = digit_room b n i w c.requires.base_bound c.requires.digits_value c.loop-b.invariant.small (omega arith) in
    record {
      small = omega (arith, r.next, c.digit_value.ensures);
      rest = c.loop-b.invariant.rest ∙ numeral_on b n w i (omega arith)
          ∙ ap (λ (d : ℕ). numeral b (b * n + d) (drop (i + 1) w)) (sym c.digit_value.ensures);
    }
