-- The tag, then what stands before the first blank.
use Rattle.std.proofs.Common.{◌≡◌, sym, ap, ◌∙◌, ℕ, ◌<◌, ◌-◌, arith, length, take, drop, length-drop, take_all}
use lib.Dec.{eqb}
use lib.Pointwise.{pointwise}
use Rattle.octets.specs.Text.{Text}
use Rattle.fields.proofs.PieceLaws.{no_text, no_tag, behind_tag}
use Rattle.fields.proofs.pieces.contents.Goals as goal

-- what `get` gives from a place on
rest_of : (s g : Text) (at : ℕ) → g ≡ take (length s - at) (drop at s) → g ≡ drop at s
rest_of s g at e = e ∙ take_all (length s - at) (drop at s) (omega (arith, length-drop at s))

pub returns-in_err-get : goal.returns-in_err-get
returns-in_err-get c =
    let s = c.args.text.now in
    let past : length s < c.args.at = omega (arith, c.in_err-get.ensures.lookup) in
    rw (c.from_residual.ensures, no_text c.args.tag.now s c.args.at past)

pub returns-in_err-rest : goal.returns-in_err-rest
returns-in_err-rest c =
    let s = c.args.text.now in
    let tag = c.args.tag.now in
    let g = rest_of s c.in_ok-get.field-0.now c.args.at c.in_ok-get.ensures.lookup.0.2 in
    let e = ap (λ (t : Text). pointwise eqb (take (length tag) t) tag) (sym g) ∙ c.in_err-rest.ensures.cases in
    rw (c.from_residual-in_err-rest.ensures, no_tag tag (drop c.args.at s) e)

pub returns-in_err-length : goal.returns-in_err-length
returns-in_err-length c =
    let s = c.args.text.now in
    let tag = c.args.tag.now in
    let g = rest_of s c.in_ok-get.field-0.now c.args.at c.in_ok-get.ensures.lookup.0.2 in
    let e = ap (λ (t : Text). pointwise eqb (take (length tag) t) tag) (sym g) ∙ c.in_ok-rest.ensures.cases.0 in
    let d = c.in_ok-rest.ensures.cases.1 ∙ ap (drop (length tag)) g in
    rw (c.from_residual-in_err-length.ensures, behind_tag tag (drop c.args.at s) c.in_ok-rest.rest.now e d, ← c.find.ensures, c.in_err-length.was)

pub returns : goal.returns
returns c =
    let s = c.args.text.now in
    let tag = c.args.tag.now in
    let g = rest_of s c.in_ok-get.field-0.now c.args.at c.in_ok-get.ensures.lookup.0.2 in
    let e = ap (λ (t : Text). pointwise eqb (take (length tag) t) tag) (sym g) ∙ c.in_ok-rest.ensures.cases.0 in
    let d = c.in_ok-rest.ensures.cases.1 ∙ ap (drop (length tag)) g in
    rw (behind_tag tag (drop c.args.at s) c.in_ok-rest.rest.now e d, ← c.find.ensures, c.in_ok-length.was)
