-- `messages::whole::put_counts` meets its contract: neither count, or CTP and then CTR. Assumes nothing.
use mathlib.Core.Path.{ap, sym}
use Rattle.octets.proofs.Writing.{wrote_rest, wrote_as, wrote_nothing}
use Rattle.messages.specs.Parts.{counts_text}
use Rattle.messages.proofs.Texts.{both_counts}
use Rattle.messages.proofs.Judging.{counts_below}
use Rattle.messages.proofs.whole.put_counts.Goals as goal

pub returns-in-None : goal.returns-in-None
unfolding counts_text
returns-in-None c = wrote_as (ap counts_text (sym c.in-None.is)) (wrote_nothing c.args.rest.now)

pub returns-in-Some : goal.returns-in-Some
returns-in-Some c =
    let k = c.in-Some in
    let b = counts_below k.counts k.is c.requires in
    wrote_as (both_counts k.counts k.is b.0 b.1) (search wrote_rest)
