-- `receiving::replies::complain` meets its contract: an ESM to the partner is legal, so it is written. Assumes nothing.
use Rattle.receiving.proofs.Replying.{replies, esm_written}
use Rattle.receiving.proofs.replies.complain.Goals as goal

pub returns : goal.returns
returns c =
    let us = c.args.us in
    let to = c.to_partner.ensures in
    let w = esm_written us.own.now us.e.now us.sound c.args.reply.now c.requires.roomy c.args.letters c.args.counts
    c.requires.lawful in
    replies _ (rw (to.rcv, to.org) w) c.write_esm.ensures.value c.write_esm.ensures.reply_after c.unwrap_or.ensures
