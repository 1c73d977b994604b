-- `card::removed` meets its contract: 13, 6, 3, else the image without the partner. Assumes nothing.
use Rattle.std.proofs.Common.{◌≡◌, refl, sym, ap, ◌∙◌, subst, length, ℕ, [], arith, Err}
use Rattle.std.specs.Prelude.{Option, Result}
use Rattle.std.specs.Option.{ok_or}
use Rattle.std.proofs.lemmas.Grind.{common_steps}
use Rattle.octets.specs.Text.{Text}
use Rattle.octets.proofs.Comparing.{octets_lent}
use Rattle.image.specs.Image.{largest}
use Rattle.image.specs.Results.{removed_slot}
use Rattle.calls.specs.declared.Refusal.{Refusal}
use Rattle.calls.specs.declared.Refusal.TheVariants.{NoRoom}
use Rattle.calls.specs.Outcome.{Turn}
use Rattle.sight.specs.declared.aims.Aim.{Aim}
use Rattle.sight.specs.declared.aims.Act.TheVariants.{Remove}
use Rattle.sight.specs.Aim.{with_room}
use Rattle.turn.specs.Way.{turn}
use Rattle.card.specs.Over.{Written}
use Rattle.card.specs.Whole.{remove_over}
use Rattle.card.specs.Ways.{aim, told}
use Rattle.card.proofs.Delivering.{delivered_so}
use Rattle.card.proofs.Roomed.{remove_all, remove_so}
use Rattle.card.proofs.Ends.{refused_end, way_went, found_as}
use Rattle.card.proofs.Listed.{roomy_listed}
use Rattle.card.proofs.removed.Goals as goal

pub find-requires : goal.find-requires
find-requires c = roomy_listed _ c.args.image.now c.args.partner.now _ _ c.aim.ensures _ _ c.with_room-aim.ensures

pub returns-in_err-slot : goal.returns-in_err-slot
returns-in_err-slot c =
    let a = c.args in
    let im : Text = a.image.now in
    let id : Text = a.partner.now in
    let out : Text = a.out.now in
    let i = c.with_room-aim.ensures ∙ ap (λ (x : Aim). with_room x largest) c.aim.ensures in
    let k = found_as Remove Remove im id [] [] largest (length out) _ _ refl refl i c.find.ensures in
    let r : c.from_residual.result ≡ Err c.in_err-slot.field-0.0 = grind (arith, common_steps) in
    subst (λ (x : Result ℕ Refusal). Written (remove_over im (length out) id) out (told x) out) (sym r)
    (refused_end _ _ out _ im Remove [] _ (remove_all im id (length out)) k _ c.in_err-slot.was)

pub returns : goal.returns
unfolding turn
returns c =
    let a = c.args in
    let im : Text = a.image.now in
    let id : Text = a.partner.now in
    let out : Text = a.out.now in
    let i = c.with_room-aim.ensures ∙ ap (λ (x : Aim). with_room x largest) c.aim.ensures in
    let k = found_as Remove Remove im id [] [] largest (length out) _ _ refl refl i c.find.ensures in
    let w = way_went (with_room (aim Remove im id []) largest) im Remove [] (length out) _ k _ c.in_ok-slot.was in
    let z = ap (λ (u : Turn). u.outcome.answer) w in
    let s = remove_so im id (length out) z (octets_lent im c.type_inv.image) in
    let put = c.remove_slot.ensures in
    let j = ap (λ (n : ℕ). removed_slot n im) (k.slot _ c.in_ok-slot.was) ∙ s.0 in
    delivered_so _ _ out _ _ _ ((remove_all im id (length out)).done z) j s.1 put.out_after
    (c.ok_or.ensures.value ∙ ap (λ (n : Option ℕ). ok_or n NoRoom) put.value)
