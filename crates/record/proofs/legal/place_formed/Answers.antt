-- The name is lent where it stands.
use mathlib.Core.Path.{ap, ◌∙◌}
use Prim.Native.Nat.{◌+◌}
use native.Mathlib.Omega.{arith}
use Rattle.octets.proofs.Parts.{part_cut}
use Rattle.partner.specs.Legal.{is_named, is_unused, named_or_none, zero_place}
use Rattle.partner.specs.Units.{place_formed}
use Rattle.record.proofs.legal.place_formed.Goals as goal

pub returns-then-used : goal.returns-then-used
unfolding place_formed is_named
returns-then-used c =
    let a = c.args in
    let name = part_cut 16 (a.at + 8) (a.at + 24) a.s.now (omega arith) (omega arith) in
    rw c.if-used.true (c.is_named.ensures ∙ ap named_or_none name)

pub returns-else-used : goal.returns-else-used
unfolding place_formed is_unused
returns-else-used c =
    let a = c.args in
    let name = part_cut 16 (a.at + 8) (a.at + 24) a.s.now (omega arith) (omega arith) in
    let key = c.key_in.ensures in
    rw c.if-used.false (c.is_unused.ensures ∙ λ j. zero_place (key j) (name j))
