-- `messages::whole::put_rsm` meets its contract: the head, sealed. Assumes nothing.
use Rattle.octets.proofs.Writing.{wrote_as}
use Rattle.messages.specs.Readings.{rsm_reading}
use Rattle.messages.proofs.Texts.{rsm_text, rsm_sealable}
use Rattle.messages.proofs.Sealing.{seal_ready, wrote_sealed}
use Rattle.messages.proofs.whole.put_rsm.Goals as goal

pub seal-requires : goal.seal-requires
unfolding rsm_reading
seal-requires c =
    let a = c.args in
    seal_ready (rsm_sealable a.to.rcv.now a.to.org.now) a.mac_key
    (wrote_as (rsm_text a.to.rcv.now a.to.org.now) c.put_head-n.ensures) c.requires

pub returns : goal.returns
unfolding rsm_reading
returns c =
    let a = c.args in
    wrote_sealed (rsm_sealable a.to.rcv.now a.to.org.now) a.mac_key
    (wrote_as (rsm_text a.to.rcv.now a.to.org.now) c.put_head-n.ensures) c.requires c.seal.ensures
