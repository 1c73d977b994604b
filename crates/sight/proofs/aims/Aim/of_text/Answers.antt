-- `sight::aims::Aim::of_text` meets its contract: by whether it is read, and RCV is us. Assumes nothing.
use Rattle.std.proofs.Common.{sym, ap, ◌∙◌}
use Rattle.octets.specs.Part.{part}
use Rattle.reader.specs.declared.Head.{Head}
use Rattle.sight.proofs.Aiming.{of_none, for_another, from_partner}
use Rattle.sight.proofs.aims.Aim.of_text.Goals as goal

pub returns-in_default : goal.returns-in_default
returns-in_default c = c.refused.ensures ∙ of_none c.args.own.now c.args.text.now (sym c.read.ensures ∙ c.in_default.is)

pub returns-then-ne : goal.returns-then-ne
returns-then-ne c =
    let a = c.args in
    let t = a.text.now in
    c.refused-then-ne.ensures
    ∙ for_another a.own.now t _ _ (sym c.read.ensures ∙ c.in-Some.is)
    (c.part.ensures ∙ ap (λ (h : Head). part t h.rcv) c.head-head.ensures) _ c.ne.ensures c.if-ne.true

pub returns : goal.returns
returns c =
    let a = c.args in
    let t = a.text.now in
    c.at_partner.ensures
    ∙ from_partner a.own.now t _ _ (sym c.read.ensures ∙ c.in-Some.is)
    (c.part.ensures ∙ ap (λ (h : Head). part t h.rcv) c.head-head.ensures) _ c.ne.ensures
    _ (c.part-2.ensures ∙ ap (λ (h : Head). part t h.org) c.head-head.ensures) c.if-ne.false
