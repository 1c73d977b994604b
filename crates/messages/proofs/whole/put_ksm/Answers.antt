-- `messages::whole::put_ksm` meets its contract: the covered part, sealed. Assumes nothing.
use Rattle.messages.specs.Readings.{ksm_reading}
use Rattle.messages.proofs.Texts.{ksm_sealable}
use Rattle.messages.proofs.Sealing.{seal_ready, wrote_sealed}
use Rattle.messages.proofs.whole.put_ksm.Goals as goal

pub seal-requires : goal.seal-requires
unfolding ksm_reading
seal-requires c =
    let a = c.args in
    seal_ready (ksm_sealable a.to.rcv.now a.to.org.now a.ksm.now) a.mac_key c.put_covered-n.ensures c.requires.1

pub returns : goal.returns
unfolding ksm_reading
returns c =
    let a = c.args in
    wrote_sealed (ksm_sealable a.to.rcv.now a.to.org.now a.ksm.now) a.mac_key c.put_covered-n.ensures c.requires.1
    c.seal.ensures
