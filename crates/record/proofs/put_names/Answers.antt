-- Name after name.
use Rattle.octets.proofs.Writing.{wrote_rest}
use Rattle.record.proofs.put_names.Goals as goal

pub returns : goal.returns
returns c =
    let second = c in
    wrote_rest second.copy-a.ensures second.copy.ensures
