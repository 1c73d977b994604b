-- `card::shown` meets its contract: 13, 6, 3, else the record of the entry that is found. Assumes nothing.
use Rattle.std.proofs.Common.{◌≡◌, refl, sym, ap, ◌∙◌, subst, length, ℕ, [], arith, Err}
use Rattle.std.specs.Prelude.{Option, Result}
use Rattle.std.specs.Option.{ok_or}
use Rattle.std.proofs.lemmas.Grind.{common_steps}
use Rattle.octets.specs.Text.{Text}
use Rattle.octets.proofs.Comparing.{octets_lent}
use Rattle.partner.specs.declared.Entry.{Entry}
use Rattle.partner.specs.Record.{put_entry}
use Rattle.calls.specs.declared.Refusal.{Refusal}
use Rattle.calls.specs.declared.Refusal.TheVariants.{NoRoom}
use Rattle.calls.specs.Outcome.{Turn}
use Rattle.sight.specs.declared.aims.Aim.{Aim}
use Rattle.sight.specs.declared.aims.Act.TheVariants.{Ask}
use Rattle.sight.specs.Aim.{with_room}
use Rattle.turn.specs.Way.{turn}
use Rattle.card.specs.Over.{Written}
use Rattle.card.specs.Whole.{ask_over}
use Rattle.card.specs.Ways.{aim, told}
use Rattle.card.proofs.Delivering.{put_so}
use Rattle.card.proofs.Roomed.{ask_all, ask_long, was_roomy}
use Rattle.card.proofs.Ends.{refused_end, way_went, entry_is, found_as}
use Rattle.card.proofs.Listed.{roomy_listed}
use Rattle.card.proofs.shown.Goals as goal

pub find-requires : goal.find-requires
find-requires c = roomy_listed _ c.args.image.now c.args.partner.now _ _ c.aim.ensures _ _ c.with_room-aim.ensures

pub returns-in_err-slot : goal.returns-in_err-slot
returns-in_err-slot c =
    let a = c.args in
    let im : Text = a.image.now in
    let id : Text = a.partner.now in
    let reply : Text = a.reply.now in
    let i = c.with_room-aim.ensures ∙ ap (λ (x : Aim). with_room x 256) c.aim.ensures in
    let k = found_as Ask Ask im id [] [] 256 (length reply) _ _ refl refl i c.find.ensures in
    let r : c.from_residual.result ≡ Err c.in_err-slot.field-0.0 = grind (arith, common_steps) in
    subst (λ (x : Result ℕ Refusal). Written (ask_over im (length reply) id) reply (told x) reply) (sym r)
    (refused_end _ _ reply _ im Ask [] _ (ask_all im id (length reply)) k _ c.in_err-slot.was)

pub returns : goal.returns
unfolding turn
returns c =
    let a = c.args in
    let im : Text = a.image.now in
    let id : Text = a.partner.now in
    let reply : Text = a.reply.now in
    let all = with_room (aim Ask im id []) 256 in
    let i = c.with_room-aim.ensures ∙ ap (λ (x : Aim). with_room x 256) c.aim.ensures in
    let k = found_as Ask Ask im id [] [] 256 (length reply) _ _ refl refl i c.find.ensures in
    let w = way_went all im Ask [] (length reply) _ k _ c.in_ok-slot.was in
    let z = ap (λ (u : Turn). u.outcome.answer) w in
    let e = entry_is all im Ask [] (length reply) _ k _ c.in_ok-slot.was _ c.slot.ensures ∙ sym (ap (λ (u : Turn). u.entry) w) in
    let m = (was_roomy Ask im id [] 256 (length reply) z).1 in
    let p = c.put_entry.ensures in
    put_so _ _ reply _ _ ((ask_all im id (length reply)).done z) (ask_long im id (length reply) z (octets_lent im c.type_inv.image))
    (omega arith) (p.rest_after ∙ ap (λ (x : Entry). (put_entry x reply).0) e)
    (c.ok_or.ensures.value ∙ ap (λ (n : Option ℕ). ok_or n NoRoom) p.value)
