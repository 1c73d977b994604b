-- `messages::whole::seal` meets its contract: behind the first n bytes MAC's field, then the end. Assumes nothing.
use mathlib.Core.Path.{◌≡◌, ap, ◌∙◌}
use mathlib.Core.List.{◌++◌, append_assoc}
use Prim.Native.Nat.{ℕ}
use native.Mathlib.Omega.{arith}
use lib.ListN.{take}
use Rattle.octets.specs.Text.{ascii}
use Rattle.csm.specs.Fields.{field, MAC}
use Rattle.octets.proofs.Writing.{wrote_rest, wrote_as, wrote_front}
use Rattle.messages.specs.Parts.{sealed_front}
use Rattle.messages.proofs.whole.seal.Goals as goal

pub returns : goal.returns
unfolding sealed_front
returns c =
    let a = c.args in
    let l = a.reply.now in
    let e : (take a.n l ++ (field MAC).print c.mac-m.result) ++ ascii ")" ≡ sealed_front a.n a.mac_key l =
    append_assoc (take a.n l) ((field MAC).print c.mac-m.result) (ascii ")")
    ∙ ap (λ (m : ℕ). take a.n l ++ ((field MAC).print m ++ ascii ")")) c.mac-m.ensures in
    wrote_as e
    (wrote_rest (wrote_rest (wrote_front a.n l (omega arith)) c.put_mac.ensures) c.put_text.ensures)
