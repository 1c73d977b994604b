-- The identity is lent where it stands; the top key is read.
use mathlib.Core.Path.{refl, ap, ◌∙◌}
use mathlib.Core.Bool.{◌&&◌}
use native.Mathlib.Omega.{arith}
use lib.ListN.{length-take}
use Rattle.octets.proofs.Parts.{part_cut}
use Rattle.partner.specs.Record.{entry_in}
use Rattle.partner.specs.Legal.{is_filled}
use Rattle.partner.specs.Units.{top_right}
use Rattle.record.proofs.legal.front_right.Goals as goal

pub slice_bounds-is_filled-end : goal.slice_bounds-is_filled-end
slice_bounds-is_filled-end c = omega (arith, length-take 16 c.args.s.now)

pub returns : goal.returns
unfolding entry_in
returns c =
    let s = c.args.s.now in
    let identity = c.is_filled.ensures ∙ ap is_filled (part_cut 16 0 16 s refl (omega arith)) in
    let top = c.top_right.ensures ∙ ap top_right c.top_in.ensures in
    λ j. identity j && top j
