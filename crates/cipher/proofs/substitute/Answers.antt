-- One selection function more.
use mathlib.Core.Path.{◌∙◌}
use Rattle.cipher.proofs.Substitution.{select_step, four_more}
use Rattle.cipher.proofs.substitute.Goals as goal

pub loop-i-preserved : goal.loop-i-preserved
loop-i-preserved c =
    let l = c.loop-i in
    let s = c.select in (
      four_more l.bits s.result l.i l.invariant.0 s.ensures.four_bits,
      select_step c.args.b l.bits l.i s.result c.loop-i-test.true s.ensures.value ∙ l.invariant.1,
    )
