-- Set after set.
use Rattle.octets.proofs.Writing.{wrote_rest}
use Rattle.record.proofs.put_sets.Goals as goal

pub returns : goal.returns
returns c =
    let second = c in
    wrote_rest second.put_set-a.ensures second.put_set.ensures
