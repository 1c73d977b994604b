-- `card::started` meets its contract: 6, 10, else the first image. Assumes nothing.
use Rattle.std.proofs.Common.{refl, sym, ap, ◌∙◌, length, ℕ}
use Rattle.std.specs.Prelude.{Option, Some}
use Rattle.std.specs.Option.{ok_or}
use Rattle.partner.specs.declared.Name.{Name}
use Rattle.partner.specs.Table.{started}
use Rattle.image.specs.Image.{encode}
use Rattle.image.specs.Results.{delivered, length_delivered}
use Rattle.calls.specs.declared.Refusal.TheVariants.{NoRoom, BadIdentity}
use Rattle.card.proofs.Delivering.{refused_so, delivered_so, start_short, start_malformed, start_done, start_fits}
use Rattle.card.proofs.Ends.{told_refused}
use Rattle.card.proofs.started.Goals as goal

pub returns-then-out-lt-LARGEST : goal.returns-then-out-lt-LARGEST
returns-then-out-lt-LARGEST c =
    let a = c.args in
    refused_so _ 6 a.out.now _ _ (start_short a.own.now (length a.out.now) c.if-out-lt-LARGEST.true) (sym (told_refused NoRoom)) refl

pub returns-then-not-is_name : goal.returns-then-not-is_name
returns-then-not-is_name c =
    let a = c.args in
    refused_so _ 10 a.out.now _ _
    (start_malformed a.own.now (length a.out.now) c.if-out-lt-LARGEST.false (sym c.is_name.ensures ∙ c.if-not-is_name.true))
    (sym (told_refused BadIdentity)) refl

pub returns : goal.returns
returns c =
    let a = c.args in
    let out = a.out.now in
    let roomy = c.if-out-lt-LARGEST.false in
    let first = λ (n : Name). Some (encode (started n)) in
    delivered_so _ _ out _ _ _ (start_done a.own.now (length out) roomy (sym c.is_name.ensures ∙ c.if-not-is_name.false)) refl
    (start_fits a.own.now (length out) roomy)
    (c.start.ensures.out_after ∙ ap (λ (n : Name). delivered (first n) out) c.name_of.ensures)
    (c.ok_or.ensures.value ∙ ap (λ (n : Option ℕ). ok_or n NoRoom) c.start.ensures.value
    ∙ ap (λ (n : Name). ok_or (length_delivered (first n) out) NoRoom) c.name_of.ensures)
