-- A rest, and the parenthesis that ends the text.
use Rattle.std.proofs.Common.{◌≡◌, sym, ap, ◌∙◌, ℕ, ◌+◌, ◌-◌, ◌<◌, arith, length, take, drop, true, false, length-drop, take_all}
use Rattle.octets.specs.Text.{Text}
use Rattle.octets.specs.Part.{before}
use Rattle.octets.proofs.Parting.{before_fits}
use Rattle.reader.specs.Stages.{any_rest}
use Rattle.reader.proofs.OptionLaws.{rest_other, rest_whole}
use Rattle.reader.proofs.options.rest_at.Goals as goal

-- what `get` gives from a place on
rest_of : (s g : Text) (at : ℕ) → g ≡ take (length s - at) (drop at s) → g ≡ drop at s
rest_of s g at e = e ∙ take_all (length s - at) (drop at s) (omega (arith, length-drop at s))

pub returns-in_err-rest : goal.returns-in_err-rest
returns-in_err-rest c =
    let s = c.args.text.now in
    let u = drop c.args.at s in
    let past : length s < c.args.at = omega (arith, c.in_err-rest.ensures.lookup) in
    rw (c.from_residual.ensures, rest_other c.args.class c.args.head c.args.at u (λ e. omega (arith, length-drop c.args.at s, e)))

pub overflow_add-end : goal.overflow_add-end
overflow_add-end c = omega (arith, c.until-end.ensures, before_fits 41 c.in_ok-rest.rest.now, c.in_ok-rest.ensures.lookup.0.3)

pub returns-then-rest-end : goal.returns-then-rest-end
returns-then-rest-end c =
    let s = c.args.text.now in
    let u = drop c.args.at s in
    let g = rest_of s c.in_ok-rest.rest.now c.args.at c.in_ok-rest.ensures.lookup.0.2 in
    let n : c.until-end.result ≡ before 41 u = c.until-end.ensures ∙ omega arith ∙ ap (before 41) g in
    rw (rest_other c.args.class c.args.head c.args.at u (λ e. c.if-rest-end.true (ap length g ∙ e ∙ ap (λ (i : ℕ). i + 1) (sym n))))

pub returns-then-not-is_rest : goal.returns-then-not-is_rest
returns-then-not-is_rest c =
    let s = c.args.text.now in
    let u = drop c.args.at s in
    let g = rest_of s c.in_ok-rest.rest.now c.args.at c.in_ok-rest.ensures.lookup.0.2 in
    let n : c.until-end.result ≡ before 41 u = c.until-end.ensures ∙ omega arith ∙ ap (before 41) g in
    let l : length u ≡ before 41 u + 1 = sym (ap length g) ∙ c.if-rest-end.false ∙ ap (λ (i : ℕ). i + 1) n in
    rw (rest_whole c.args.class c.args.head c.args.at u l false
    ((λ i. any_rest (take (sym n i) (sym g i))) ∙ sym c.is_rest.ensures ∙ c.if-not-is_rest.true))

pub returns : goal.returns
returns c =
    let s = c.args.text.now in
    let u = drop c.args.at s in
    let g = rest_of s c.in_ok-rest.rest.now c.args.at c.in_ok-rest.ensures.lookup.0.2 in
    let n : c.until-end.result ≡ before 41 u = c.until-end.ensures ∙ omega arith ∙ ap (before 41) g in
    let l : length u ≡ before 41 u + 1 = sym (ap length g) ∙ c.if-rest-end.false ∙ ap (λ (i : ℕ). i + 1) n in
    rw (
      rest_whole c.args.class c.args.head c.args.at u l true
          ((λ i. any_rest (take (sym n i) (sym g i))) ∙ sym c.is_rest.ensures ∙ c.if-not-is_rest.false),
      n,
    )
