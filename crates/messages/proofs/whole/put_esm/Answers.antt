-- `messages::whole::put_esm` meets its contract: head, fields and end, one after the other. Assumes nothing.
use Rattle.octets.proofs.Writing.{wrote_rest, wrote_as}
use Rattle.messages.proofs.Texts.{esm_text}
use Rattle.messages.proofs.whole.put_esm.Goals as goal

pub returns : goal.returns
returns c =
    let a = c.args in
    wrote_as (esm_text a.to.rcv.now a.to.org.now a.letters a.counts) (search wrote_rest)
