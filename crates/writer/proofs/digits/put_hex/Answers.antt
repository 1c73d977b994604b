-- `writer::digits::put_hex` meets its contract: after each turn so many digits lie over rest. Assumes nothing.
use mathlib.Core.Path.{◌≡◌, sym, ◌∙◌}
use Prim.Native.Nat.{◌-◌}
use native.Mathlib.Omega.{arith}
use lib.ListN.{length}
use Rattle.octets.proofs.Writing.{laying_none, laying_more, laying_all}
use Rattle.csm.specs.Fields.{hex_text}
use Rattle.csm.proofs.NumberLaws.{hex_length}
use Rattle.writer.proofs.Numerals.{hex_at}
use Rattle.writer.proofs.digits.put_hex.Goals as goal

pub loop-i-init : goal.loop-i-init
loop-i-init c =
    let a = c.args in
    laying_none (omega (arith, hex_length a.k a.x, c.min-n.ensures))

pub loop-i-preserved : goal.loop-i-preserved
loop-i-preserved c =
    let a = c.args in
    let i = c.loop-i.i in
    let s : length (hex_text a.k a.x) ≡ a.k = hex_length a.k a.x in
    let b = hex_at a.k a.x i (a.k - 1 - i) (omega arith) in
    laying_more c.loop-i.invariant (omega arith) (c.digit_at.ensures ∙ sym b)

pub returns : goal.returns
returns c =
    let all = laying_all c.loop-i.invariant c.loop-i-test.false in
    record { text = all.text; count = c.loop-i.invariant.room }
