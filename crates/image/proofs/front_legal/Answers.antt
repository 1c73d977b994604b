-- `image::front_legal` meets its contract, test by test.
use mathlib.Core.Path.{◌≡◌, sym, ap, ◌∙◌}
use mathlib.Core.Bool.{Bool, true, false, ◌&&◌, true≢false}
use native.Mathlib.Omega.{arith}
use borrow.Author.Rules.{rules}
use borrow.Author.Tests.{ne_eqb}
use lib.ListN.{drop, length-take, length-drop}
use Rattle.octets.specs.Text.{Text}
use Rattle.partner.specs.Legal.{is_filled}
use Rattle.partner.proofs.Naming.{filled_length}
use Rattle.image.specs.Image.{front_size}
use Rattle.image.specs.Places.{own_in}
use Rattle.image.specs.Pass.{apart_from}
use Rattle.image.proofs.Steps.{front_other, front_ours}
use Rattle.image.proofs.front_legal.Goals.{then-byte_at-eq-OURS, else-byte_at-eq-OURS}
use Rattle.image.proofs.front_legal.Goals as goal

-- a filled identity has 16 bytes
pub is_apart-requires : goal.is_apart-requires
is_apart-requires c =
    let im : Text = c.args.image.now in
    let f : is_filled (own_in im) ≡ true = elim c.if-byte_at-eq-OURS.branch [
      | then-byte_at-eq-OURS w ↦
          ap is_filled (sym w.own_identity.ensures) ∙ sym w.is_filled.ensures ∙ sym w.value-is ∙ c.if-is_filled.true
      | else-byte_at-eq-OURS w ↦ absurd (true≢false (sym c.if-is_filled.true ∙ w.value-is ∙ ne_eqb _ 1 w.if-byte_at-eq-OURS.false))
    ] in
    let n = filled_length (own_in im) f in
    (omega (arith, n, length-take 16 (drop 1 im), length-drop 1 im), search rules)

pub returns-then-is_filled : goal.returns-then-is_filled
returns-then-is_filled c =
    let im : Text = c.args.image.now in
    let own : Text = own_in im in
    elim c.if-byte_at-eq-OURS.branch [
      | then-byte_at-eq-OURS w ↦
          let f : is_filled own ≡ true =
          ap is_filled (sym w.own_identity.ensures) ∙ sym w.is_filled.ensures ∙ sym w.value-is ∙ c.if-is_filled.true in
          c.is_apart.ensures
          ∙ sym (front_ours im (sym c.byte_at.ensures ∙ w.if-byte_at-eq-OURS.true)
          ∙ ap (λ (b : Bool). b && apart_from 64 front_size own im) f)
      | else-byte_at-eq-OURS w ↦ absurd (true≢false (sym c.if-is_filled.true ∙ w.value-is ∙ ne_eqb _ 1 w.if-byte_at-eq-OURS.false))
    ]

pub returns-else-is_filled : goal.returns-else-is_filled
returns-else-is_filled c =
    let im : Text = c.args.image.now in
    let own : Text = own_in im in
    c.if-is_filled.false ∙ elim c.if-byte_at-eq-OURS.branch [
      | then-byte_at-eq-OURS w ↦
          let f : is_filled own ≡ false =
          ap is_filled (sym w.own_identity.ensures) ∙ sym w.is_filled.ensures ∙ sym w.value-is ∙ c.if-is_filled.false in
          sym (front_ours im (sym c.byte_at.ensures ∙ w.if-byte_at-eq-OURS.true)
          ∙ ap (λ (b : Bool). b && apart_from 64 front_size own im) f)
      | else-byte_at-eq-OURS w ↦ sym (front_other im (λ z. w.if-byte_at-eq-OURS.false (c.byte_at.ensures ∙ z)))
    ]
