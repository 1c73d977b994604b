-- `messages::whole::put_rsi` meets its contract: head, SVR and end, one after the other. Assumes nothing.
use Rattle.octets.proofs.Writing.{wrote_rest, wrote_as}
use Rattle.messages.proofs.Texts.{rsi_text}
use Rattle.messages.proofs.whole.put_rsi.Goals as goal

pub returns : goal.returns
returns c =
    let a = c.args in
    wrote_as (rsi_text a.to.rcv.now a.to.org.now a.service) (search wrote_rest)
