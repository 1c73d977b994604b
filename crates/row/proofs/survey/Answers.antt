-- `row::survey` meets its contract: slot by slot. Assumes nothing.
use Rattle.std.proofs.Common.{◌≡◌, ap, ◌∙◌, length, arith}
use Rattle.sight.specs.Sight.{concluded}
use Rattle.sight.proofs.Seeing.{all_seen}
use Rattle.row.proofs.Surveying.{next_surveyed}
use Rattle.row.proofs.survey.Goals as goal

pub loop-at-preserved : goal.loop-at-preserved
loop-at-preserved c =
    c.loop-at.invariant
    ∙ next_surveyed c.args.aim.now c.args.row.now c.loop-at.at c.loop-at-test.true c.loop-at.seen _ _ _ c.see.ensures c.apart.ensures

pub returns : goal.returns
returns c =
    let m : length c.args.row.now ≡ c.loop-at.at = omega arith in
    c.conclude.ensures ∙ ap (concluded c.args.aim.now c.loop-at.seen) m
    ∙ all_seen c.args.aim.now c.args.row.now c.loop-at.seen c.loop-at.at (omega arith) c.loop-at-test.false c.loop-at.invariant
