-- One shift and one key block more.
use mathlib.Core.Path.{◌∙◌}
use native.Mathlib.Omega.{arith}
use lib.ListN.{length-set}
use Rattle.dea.specs.Tables.{shifts, PC_2}
use Rattle.cipher.proofs.Walks.{key_step}
use Rattle.cipher.proofs.key_schedule.Goals as goal

pub loop-i-preserved : goal.loop-i-preserved
unfolding shifts PC_2
loop-i-preserved c =
    let l = c.loop-i in (
      c.left_shift-c.ensures.fits,
      c.left_shift-d.ensures.fits,
      simp length-set l.invariant.2,
      key_step l.ks shifts l.i l.c l.d c.left_shift-c.result c.left_shift-d.result c.pick.result
          (omega arith) (omega arith) c.left_shift-c.ensures.value c.left_shift-d.ensures.value c.pick.ensures.value ∙ l.invariant.3,
    )
