-- `messages::whole::put_covered` meets its contract: head, NOS, keys, IV, EDK and CTP, one after the other. Assumes nothing.
use Rattle.std.specs.Prelude.{◌≡◌, option_copied}
use borrow.Author.Rules.{rules}
use Rattle.octets.proofs.Writing.{wrote_rest, wrote_as}
use Rattle.messages.proofs.Texts.{ksm_text}
use Rattle.messages.proofs.whole.put_covered.Goals as goal

pub returns : goal.returns
returns c =
    let a = c.args in
    let e : option_copied c.map.result ≡ a.ksm.now.edk = search rules in
    let w = wrote_rest c.put_head-a.ensures c.put_nos.ensures in
    let x = wrote_rest w (rw c.as_ref.ensures.value at c.put_keys.ensures) in
    let y = wrote_rest x c.put_iv.ensures in
    let z = wrote_rest y (rw e at c.put_edk.ensures) in
    wrote_as (ksm_text a.to.rcv.now a.to.org.now a.ksm.now c.requires) (wrote_rest z c.put_count.ensures)
