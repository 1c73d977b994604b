-- `image::start` meets its contract: refused without room, else delivered.
use native.Mathlib.Omega.{arith}
use borrow.Author.Rules.{rules}
use Rattle.image.specs.Image.{encode}
use Rattle.partner.specs.Table.{started}
use Rattle.image.proofs.Buffers.{started_size, given_no_room, given_wrote}
use Rattle.image.proofs.start.Goals as goal

pub returns-then-out-lt-SMALLEST : goal.returns-then-out-lt-SMALLEST
returns-then-out-lt-SMALLEST c =
    let a = c.args in
    let n = started_size a.own (search rules) in
    let g = given_no_room (encode (started a.own)) a.out.now (omega arith) in
    record { out_after = g.out_after; value = g.value }

pub returns : goal.returns
returns c =
    let a = c.args in
    let n = started_size a.own (search rules) in
    let g = given_wrote (omega arith) c.put_started.ensures in
    record { out_after = g.out_after; value = g.value }
