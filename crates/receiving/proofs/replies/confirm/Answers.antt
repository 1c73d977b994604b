-- `receiving::replies::confirm` meets its contract: an RSM to the partner is legal, so it is written. Assumes nothing.
use mathlib.Core.Path.{ap, ◌∙◌}
use Rattle.keying.specs.Mac.{mac_key}
use Rattle.receiving.proofs.Replying.{replies, rsm_written}
use Rattle.receiving.proofs.replies.confirm.Goals as goal

pub returns : goal.returns
returns c =
    let us = c.args.us in
    let to = c.to_partner.ensures in
    let w = rsm_written us.own.now us.e.now us.sound c.args.reply.now c.requires c.args.taken.now.entry.receiving.incoming in
    let key = c.mac_key.ensures ∙ ap mac_key c.data_keys-keys.ensures in
    rw c.in-Keys.is (replies _ (rw (to.rcv, to.org, key) w) c.write_rsm.ensures.value c.write_rsm.ensures.reply_after c.unwrap_or.ensures)
