-- `image::record_legal` meets its contract, test by test.
use mathlib.Core.Path.{sym, ap, ◌∙◌}
use mathlib.Core.Bool.{◌&&◌}
use Rattle.octets.specs.Text.{Text}
use Rattle.image.proofs.Steps.{legal_vacant, legal_other, legal_short, legal_whole, whole_and_legal, judged_whole}
use Rattle.image.proofs.record_legal.Goals as goal

pub returns-then-kind-eq-VACANT : goal.returns-then-kind-eq-VACANT
returns-then-kind-eq-VACANT c =
    let a = c.args in
    let im : Text = a.image.now in
    let kind = c.byte_at-kind.ensures in
    sym (legal_vacant a.left a.at im (sym kind ∙ c.if-kind-eq-VACANT.true))

pub returns-then-kind-ne-PARTNER : goal.returns-then-kind-ne-PARTNER
returns-then-kind-ne-PARTNER c =
    let a = c.args in
    let im : Text = a.image.now in
    let kind = c.byte_at-kind.ensures in
    sym (legal_other a.left a.at im (λ z. c.if-kind-eq-VACANT.false (kind ∙ z)) (λ z. c.if-kind-ne-PARTNER.true (kind ∙ z)))

pub returns-then-image-behind : goal.returns-then-image-behind
returns-then-image-behind c =
    let a = c.args in
    let im : Text = a.image.now in
    let kind = c.byte_at-kind.ensures in
    sym (legal_short a.left a.at im (sym kind ∙ c.if-kind-ne-PARTNER.false) c.if-image-behind.true)

pub returns : goal.returns
returns c =
    let judged = c in
    let fits = judged in
    let a = fits.args in
    let im : Text = a.image.now in
    let at = a.at in
    let kind = sym fits.byte_at-kind.ensures ∙ fits.if-kind-ne-PARTNER.false in
    let body = judged.is_legal.ensures ∙ ap whole_and_legal judged.part.ensures ∙ judged_whole at im fits.if-image-behind.false in
    (λ j. body j && c.is_apart.ensures j) ∙ sym (legal_whole a.left at im kind fits.if-image-behind.false)
