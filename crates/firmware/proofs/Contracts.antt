-- The contracts of `khl_*` say what Face.antt says.
use Rattle.std.specs.Prelude.{Option, None, Some}
use mathlib.Core.Path.{◌≡◌, refl, sym, ap}
use mathlib.Core.List.{◌++◌}
use Prim.Native.Nat.{ℕ}
use lib.ListN.{length, drop}
use Rattle.octets.specs.Text.{Text}
use Rattle.partner.specs.Table.{Table}
use Rattle.image.specs.Image.{decode}
use Rattle.calls.specs.Outcome.{Outcome, refusal}
use Rattle.calls.specs.Calls.{run}
use Rattle.calls.specs.Calls as steps
use Rattle.outcome.specs.Report.{replied}
use Rattle.card.specs.Over.{outcome_over}
use Rattle.host.specs.Promises.{Writes, Changes, ChangesAndWrites}
use Rattle.host.proofs.khl_receive.Met as receive
use Rattle.host.proofs.khl_build_ksm.Met as build_ksm
use Rattle.host.proofs.khl_build_rsi.Met as build_rsi
use Rattle.host.proofs.khl_ask.Met as ask
use Rattle.host.proofs.khl_give_up.Met as give_up
use Rattle.host.proofs.khl_start.Met as start
use Rattle.host.proofs.khl_load.Met as load
use Rattle.host.proofs.khl_remove.Met as remove
use Rattle.demands.specs.Face.{left, over_image, leaves, start_leaves}
use Rattle.firmware.specs.Promises.{Contracts, Code}
use Rattle.demands.proofs.Silence.{give_up_silent}

-- part by part
wrote : {o : Outcome} {answer : ℕ} {image after before buffer bytes : Text} → image ≡ after
    → Writes o before answer buffer bytes
    → record { answer = answer; image = image; buffer = buffer; report = bytes } ≡ left o after before
unfolding left
wrote s p = λ i. record {
  answer = p.told.answer_told i;
  image = s i;
  buffer = p.buffer_after i;
  report = p.told.report_told i;
}

changed : {lent : Text} {c : steps.Call} {answer : ℕ} {image buffer bytes : Text}
    → buffer ≡ replied (outcome_over lent c) buffer → Changes lent c answer image bytes
    → record { answer = answer; image = image; buffer = buffer; report = bytes } ≡ over_image lent buffer c
changed b p = wrote p.image_after (record { told = p.told; buffer_after = b })

changed_and_wrote : {lent : Text} {c : steps.Call} {answer : ℕ} {image before buffer bytes : Text}
    → ChangesAndWrites lent c before answer image buffer bytes
    → record { answer = answer; image = image; buffer = buffer; report = bytes } ≡ over_image lent before c
changed_and_wrote p = wrote p.changed.image_after p.wrote

-- give up writes nothing
nothing_written : (image partner buffer : Text)
    → buffer ≡ replied (outcome_over image (steps.about partner steps.give_up)) buffer
unfolding replied outcome_over
nothing_written image partner buffer = go (decode image)
  where
    go : (o : Option Table) → buffer ≡ replied (elim o as (λ x. Outcome) [
      | None ↦ refusal 13
      | Some t ↦ (run t (steps.about partner steps.give_up)).outcome
    ]) buffer
    go None = refl
    go (Some t) = ap (λ (w : Text). w ++ drop (length w) buffer) (sym (give_up_silent t partner))

pub contracts : Contracts
unfolding leaves start_leaves
contracts = record {
  receives = λ κs lent. (tt, λ answer end p. changed_and_wrote p);
  builds_a_ksm = λ κs lent. (tt, λ answer end p. changed_and_wrote p);
  builds_an_rsi = λ κs lent. (tt, λ answer end p. wrote refl p);
  asks = λ κs lent. (tt, λ answer end p. wrote refl p);
  gives_up = λ buffer κs lent. (tt, λ answer end p. changed (nothing_written _ _ buffer) p);
  starts = λ κs lent. (tt, λ answer end p. wrote refl p);
  loads = λ κs lent. (tt, λ answer end p. wrote refl p);
  removes = λ κs lent. (tt, λ answer end p. wrote refl p);
}

pub code : Code
code = record {
  receives = receive.met;
  builds_a_ksm = build_ksm.met;
  builds_an_rsi = build_rsi.met;
  asks = ask.met;
  gives_up = give_up.met;
  starts = start.met;
  loads = load.met;
  removes = remove.met;
}
