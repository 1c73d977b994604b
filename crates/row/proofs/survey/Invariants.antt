-- What is seen of the row from its first slot on is what was seen so far and what is seen from here on.
use Rattle.std.proofs.Common.{◌≡◌, drop}
use Rattle.sight.specs.Sight.{unseen, pass}
use Rattle.row.proofs.survey.Given as goal

abbrev pub invariant-loop-at : goal.invariant-loop-at
invariant-loop-at l = pass l.aim unseen 0 l.row ≡ pass l.aim l.seen l.at (drop l.at l.row)
