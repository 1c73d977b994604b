-- `card::loaded` meets its contract: 13, 6, 10, 12, 11, 9, else the image with the partner. Assumes nothing.
use Rattle.std.proofs.Common.{◌≡◌, sym, ap, ◌∙◌, subst, length, ℕ, arith, Err}
use Rattle.std.specs.Prelude.{Option, Result}
use Rattle.std.specs.Option.{ok_or}
use Rattle.std.proofs.lemmas.Grind.{common_steps}
use Rattle.octets.specs.Text.{Text}
use Rattle.octets.proofs.Comparing.{octets_lent}
use Rattle.keying.specs.declared.Top.{Top}
use Rattle.partner.specs.declared.Name.{Name}
use Rattle.partner.specs.declared.Entry.{Entry}
use Rattle.partner.specs.Entry.{name_of}
use Rattle.partner.specs.Changes.{loaded}
use Rattle.image.specs.Image.{largest}
use Rattle.image.specs.Results.{added_slot}
use Rattle.calls.specs.declared.Refusal.{Refusal}
use Rattle.calls.specs.declared.Refusal.TheVariants.{NoRoom}
use Rattle.calls.specs.Outcome.{Turn}
use Rattle.sight.specs.declared.aims.Aim.{Aim}
use Rattle.sight.specs.declared.aims.Act.TheVariants.{Load}
use Rattle.sight.specs.Aim.{with_room}
use Rattle.turn.specs.Way.{turn}
use Rattle.card.specs.Over.{Written}
use Rattle.card.specs.Whole.{load_over}
use Rattle.card.specs.Ways.{aim, told, place, top_or_zero, top_of, name_or_none, name_with, seen}
use Rattle.card.proofs.Delivering.{delivered_so}
use Rattle.card.proofs.Roomed.{load_all, load_so}
use Rattle.card.proofs.Ends.{refused_end, refused_load, way_loads, aimed_as, found_as}
use Rattle.card.proofs.Listed.{roomy_listed}
use Rattle.card.proofs.loaded.Goals as goal

pub find-requires : goal.find-requires
find-requires c = roomy_listed _ c.args.image.now c.args.partner.now _ _ c.aim.ensures _ _ c.with_room-aim.ensures

pub returns-in_err-slot : goal.returns-in_err-slot
unfolding top_of name_with
returns-in_err-slot c =
    let a = c.args in
    let im : Text = a.image.now in
    let id : Text = a.partner.now in
    let key : Text = a.key.now in
    let named : Text = name_with a.name.now key in
    let out : Text = a.out.now in
    let i = c.with_room-aim.ensures ∙ ap (λ (x : Aim). with_room x largest) c.aim.ensures in
    let k = found_as _ (Load (top_of key)) im id _ named largest (length out) _ _ (ap (λ (x : Top). Load x) (c.unwrap_or-top.ensures ∙ ap top_or_zero c.top_in-key.ensures))
    (c.name_with-named.ensures ∙ ap (name_or_none a.name.now) c.top_in-key.ensures) i c.find.ensures in
    let r : c.from_residual.result ≡ Err c.in_err-slot.field-0.0 = grind (arith, common_steps) in
    subst (λ (x : Result ℕ Refusal). Written (load_over im (length out) id a.name.now key) out (told x) out) (sym r)
    (refused_end _ _ out _ im (Load (top_of key)) named _ (load_all im id a.name.now key (length out)) k _ c.in_err-slot.was)

pub returns-in_err-identity : goal.returns-in_err-identity
unfolding top_of name_with
returns-in_err-identity c =
    let a = c.args in
    let im : Text = a.image.now in
    let id : Text = a.partner.now in
    let key : Text = a.key.now in
    let named : Text = name_with a.name.now key in
    let out : Text = a.out.now in
    let p = c.unwrap_or-top.ensures ∙ ap top_or_zero c.top_in-key.ensures in
    let t = ap (λ (x : Top). Load x) p in
    let n = c.name_with-named.ensures ∙ ap (name_or_none a.name.now) c.top_in-key.ensures in
    let i = c.with_room-aim.ensures ∙ ap (λ (x : Aim). with_room x largest) c.aim.ensures in
    let k = found_as _ (Load (top_of key)) im id _ named largest (length out) _ _ t n i c.find.ensures in
    let d = aimed_as _ (Load (top_of key)) im id _ named largest _ t n i in
    let r : c.from_residual-in_err-identity.result ≡ Err c.in_err-identity.field-0.0 = grind (arith, common_steps) in
    subst (λ (x : Result ℕ Refusal). Written (load_over im (length out) id a.name.now key) out (told x) out) (sym r)
    (refused_load _ _ out _ im (top_of key) named _ (load_all im id a.name.now key (length out)) k _ c.in_ok-slot.was
    _ _ (ap (λ (x : Aim). x.partner) d) (sym c.ok_or.ensures.value ∙ c.in_err-identity.was))

pub returns : goal.returns
unfolding turn top_of name_with
returns c =
    let a = c.args in
    let im : Text = a.image.now in
    let id : Text = a.partner.now in
    let key : Text = a.key.now in
    let named : Text = name_with a.name.now key in
    let out : Text = a.out.now in
    let all = with_room (aim (Load (top_of key)) im id named) largest in
    let p = c.unwrap_or-top.ensures ∙ ap top_or_zero c.top_in-key.ensures in
    let t = ap (λ (x : Top). Load x) p in
    let n = c.name_with-named.ensures ∙ ap (name_or_none a.name.now) c.top_in-key.ensures in
    let i = c.with_room-aim.ensures ∙ ap (λ (x : Aim). with_room x largest) c.aim.ensures in
    let k = found_as _ (Load (top_of key)) im id _ named largest (length out) _ _ t n i c.find.ensures in
    let d = aimed_as _ (Load (top_of key)) im id _ named largest _ t n i in
    let w = way_loads all im (top_of key) named (length out) _ k _ c.in_ok-slot.was _ _ (ap (λ (x : Aim). x.partner) d)
    (sym c.ok_or.ensures.value ∙ c.in_ok-identity.was) in
    let z = ap (λ (u : Turn). u.outcome.answer) w in
    let s = load_so im id a.name.now key (length out) z (octets_lent im c.type_inv.image) (octets_lent key c.type_inv.key) in
    let e = c.loaded-e.ensures
    ∙ ap (λ (x : Name). loaded c.in_ok-identity.identity x c.unwrap_or-top.result) (c.name_of.ensures ∙ ap name_of n)
    ∙ ap (loaded c.in_ok-identity.identity (name_of named)) p
    ∙ sym (ap (λ (u : Turn). u.entry) w) in
    let put = c.load_slot.ensures in
    let j = ap (λ (n : ℕ). added_slot n c.loaded-e.result im) (k.slot _ c.in_ok-slot.was)
    ∙ ap (λ (x : Entry). added_slot (place (seen all im)) x im) e ∙ s.0 in
    delivered_so _ _ out _ _ _ ((load_all im id a.name.now key (length out)).done z) j s.1 put.out_after
    (c.ok_or-2.ensures.value ∙ ap (λ (n : Option ℕ). ok_or n NoRoom) put.value)
