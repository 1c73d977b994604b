-- The characters, then the last of them.
use Rattle.std.proofs.Common.{◌≡◌, sym, ap, ◌∙◌, ℕ, suc, ◌-◌, arith, length}
use lib.Dec.{eqb}
use Rattle.reader.proofs.OptionLaws.{ends_last, ends_empty, rest_not, rest_ends}
use Rattle.reader.proofs.options.is_rest.Goals as goal

pub returns-then-not-is_text : goal.returns-then-not-is_text
returns-then-not-is_text c = sym (rest_not _ (sym c.is_text.ensures ∙ c.if-not-is_text.true))

pub returns-in-Some : goal.returns-in-Some
returns-in-Some c =
    let s = c.args.s.now in
    let yes = sym c.is_text.ensures ∙ c.if-not-is_text.false in
    let e = c.in-Some.ensures.item in
    let some : length s ≡ suc (length s - 1) = omega (arith, e.3.0) in
    sym (rest_ends s yes _ (ends_last s (length s - 1) some ∙ ap (λ (b : ℕ). eqb b 32) (sym (e.3.1 0))))

pub returns-in-None : goal.returns-in-None
returns-in-None c =
    let s = c.args.s.now in
    let yes = sym c.is_text.ensures ∙ c.if-not-is_text.false in
    sym (rest_ends s yes _ (ends_empty s (omega (arith, c.in-None.ensures.item.3))))
