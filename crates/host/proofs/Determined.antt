-- Of each public function: any two outcomes that its contract allows are equal.
use mathlib.Core.Path.{◌≡◌, refl}
use Prim.Native.Nat.{ℕ}
use Rattle.octets.specs.Text.{Text}
use Rattle.octets.specs.One.{OneOutcome}
use Rattle.octets.proofs.Alike.{alike, ◌also◌}
use Rattle.calls.specs.Outcome.{Outcome}
use Rattle.host.specs.Promises.{Tells}
use Rattle.host.specs.contracts as contract
use Rattle.host.proofs as fn

-- what is told of one outcome is one answer and one report
told : {o : Outcome} {x y : ℕ} {r s : Text} → Tells o x r → Tells o y s → (x ≡ y) × (r ≡ s)
told p q = (alike p.answer_told q.answer_told, alike p.report_told q.report_told)

pub khl_receive : OneOutcome contract.khl_receive.ended fn.khl_receive.Reads.Post
khl_receive κs a x y v w p q =
    let t = told p.wrote.told q.wrote.told in
    let i = alike p.changed.image_after q.changed.image_after in
    (t.0, i also refl also alike p.wrote.buffer_after q.wrote.buffer_after also t.1 also refl)

pub khl_build_ksm : OneOutcome contract.khl_build_ksm.ended fn.khl_build_ksm.Reads.Post
khl_build_ksm κs a x y v w p q =
    let t = told p.wrote.told q.wrote.told in
    let i = alike p.changed.image_after q.changed.image_after in
    (t.0, i also refl also refl also alike p.wrote.buffer_after q.wrote.buffer_after also t.1 also refl)

pub khl_build_rsi : OneOutcome contract.khl_build_rsi.ended fn.khl_build_rsi.Reads.Post
khl_build_rsi κs a x y v w p q =
    let t = told p.told q.told in
    (t.0, refl also refl also refl also alike p.buffer_after q.buffer_after also t.1 also refl)

pub khl_ask : OneOutcome contract.khl_ask.ended fn.khl_ask.Reads.Post
khl_ask κs a x y v w p q =
    let t = told p.told q.told in
    (t.0, refl also refl also alike p.buffer_after q.buffer_after also t.1 also refl)

pub khl_give_up : OneOutcome contract.khl_give_up.ended fn.khl_give_up.Reads.Post
khl_give_up κs a x y v w p q =
    let t = told p.told q.told in
    (t.0, alike p.image_after q.image_after also refl also t.1 also refl)

pub khl_start : OneOutcome contract.khl_start.ended fn.khl_start.Reads.Post
khl_start κs a x y v w p q =
    let t = told p.told q.told in
    (t.0, refl also alike p.buffer_after q.buffer_after also t.1 also refl)

pub khl_load : OneOutcome contract.khl_load.ended fn.khl_load.Reads.Post
khl_load κs a x y v w p q =
    let t = told p.told q.told in
    (t.0, refl also refl also refl also refl also alike p.buffer_after q.buffer_after also t.1 also refl)

pub khl_remove : OneOutcome contract.khl_remove.ended fn.khl_remove.Reads.Post
khl_remove κs a x y v w p q =
    let t = told p.told q.told in
    (t.0, refl also refl also alike p.buffer_after q.buffer_after also t.1 also refl)

pub khl_test_encipher : OneOutcome contract.khl_test_encipher.ended fn.khl_test_encipher.Reads.Post
khl_test_encipher κs a x y v w p q = (alike p q, refl)

pub khl_test_decipher : OneOutcome contract.khl_test_decipher.ended fn.khl_test_decipher.Reads.Post
khl_test_decipher κs a x y v w p q = (alike p q, refl)

pub khl_test_mac : OneOutcome contract.khl_test_mac.ended fn.khl_test_mac.Reads.Post
khl_test_mac κs a x y v w p q = (alike p q, refl)
