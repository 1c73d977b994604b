-- Four hex digits, then four behind the blank.
use Rattle.std.proofs.Common.{arith, refl, []}
use Rattle.fields.proofs.PieceLaws.{half_bound, check_seen}
use Rattle.fields.proofs.check_field.Goals as goal

pub returns-in_default : goal.returns-in_default
returns-in_default c =
    let a = c.args in
    rw (check_seen a.tag.now a.text.now a.at c.half_field-high.result _ c.half_field-high.ensures refl, c.in_default.is)

pub returns-in_default-contents : goal.returns-in_default-contents
returns-in_default-contents c =
    let a = c.args in
    rw (
      check_seen a.tag.now a.text.now a.at c.half_field-high.result c.half_field-low.result c.half_field-high.ensures c.half_field-low.ensures,
      c.in-Some.is,
      c.in_default-contents.is,
    )

pub overflow_mul-result : goal.overflow_mul-result
overflow_mul-result c =
    let a = c.args in
    omega (arith, half_bound a.tag.now a.text.now a.at c.half_field-high.result c.half_field-high.ensures c.in-Some.left c.in-Some.is)

pub overflow_add-result : goal.overflow_add-result
overflow_add-result c =
    let a = c.args in
    let high = c.half_field-high.result in
    omega (
      arith,
      half_bound a.tag.now a.text.now a.at high c.half_field-high.ensures c.in-Some.left c.in-Some.is,
      half_bound [] a.text.now high.next c.half_field-low.result c.half_field-low.ensures c.in-Some-contents.right c.in-Some-contents.is,
    )

pub returns : goal.returns
returns c =
    let a = c.args in
    rw (
      check_seen a.tag.now a.text.now a.at c.half_field-high.result c.half_field-low.result c.half_field-high.ensures c.half_field-low.ensures,
      c.in-Some.is,
      c.in-Some-contents.is,
    )
