-- `messages::whole::put_head` meets its contract: the start, RCV and ORG, one after the other. Assumes nothing.
use Rattle.octets.proofs.Writing.{wrote_three}
use Rattle.messages.proofs.whole.put_head.Goals as goal

pub returns : goal.returns
returns c = search wrote_three
