-- After i bytes so many bytes of the number lie over rest.
use mathlib.Core.Path.{sym, ◌∙◌}
use Prim.Native.Nat.{◌-◌}
use native.Mathlib.Omega.{arith}
use Rattle.octets.proofs.Numbers.{length_bytes, bytes_at}
use Rattle.octets.proofs.Writing.{laying_none, laying_more, laying_all}
use Rattle.octets.proofs.put_number.Goals as goal

pub loop-i-init : goal.loop-i-init
loop-i-init c = laying_none (omega (arith, length_bytes c.args.k c.args.x))

pub loop-i-preserved : goal.loop-i-preserved
loop-i-preserved c =
    let a = c.args in
    let i = c.loop-i.i in
    laying_more c.loop-i.invariant (omega arith)
    (c.byte_at.ensures ∙ sym (bytes_at a.k a.x i (a.k - 1 - i) (omega arith)))

pub returns : goal.returns
returns c =
    let all = laying_all c.loop-i.invariant c.loop-i-test.false in
    record { text = all.text; count = c.loop-i.invariant.room }
