-- What is said of the bytes so far and of the rest is what is said of all.
use mathlib.Core.Path.{◌≡◌, sym, ap, ◌∙◌}
use mathlib.Core.Bool.{Bool, ◌&&◌}
use Prim.Native.Nat.{ℕ, ◌-◌}
use native.Mathlib.Omega.{arith}
use lib.ListN.{length, take, drop}
use borrow.Author.Rules.{rules}
use Rattle.std.specs.Slice.Iter.{windows_rest}
use Rattle.std.proofs.lemmas.Grind.{common_steps}
use Rattle.std.proofs.lemmas.Iterator.{window_more}
use Rattle.octets.specs.Text.{Text}
use Rattle.rules.proofs.Spacing.{spaced, filled_formed, filled_not, spaced_pair, spaced_last}
use Rattle.rules.proofs.is_filled.Goals as goal

pub returns-then-s-ne16 : goal.returns-then-s-ne16
returns-then-s-ne16 c = sym (filled_not c.args.s.now c.if-s-ne16.true)

pub loop-pair-init : goal.loop-pair-init
loop-pair-init c =
    let s : Text = c.args.s.now in
    let e : windows_rest c.into_iter-pair-iterator.result ≡ s = search rules in
    record { size = search rules; left = omega (arith, ap length e); within = omega (arith, ap length e); end = grind (arith, common_steps, e); so = ap spaced (sym e) }

pub loop-pair-preserved : goal.loop-pair-preserved
loop-pair-preserved c =
    let i = c.loop-pair.invariant in
    let s : Text = c.args.s.now in
    let r = windows_rest c.loop-pair.pair-iterator in
    let t = c.in-Some.ensures.steps in
    let m = window_more s c.loop-pair.pair-iterator c.next.new.self c.next.result c.in-Some.pair c.in-Some.is c.next.ensures.steps
    (omega arith) i.within i.end in
    let so = spaced_pair c.loop-pair.formed s r (omega arith) i.so in
    let pair : c.in-Some.pair.now ≡ take 2 r = t.1.1 ∙ ap (λ (n : ℕ). take n r) i.size in
    let rest : windows_rest c.next.new.self ≡ drop 1 r = t.1.2 in
    record { size = t.0 ∙ i.size; left = omega arith; within = omega arith; end = m.1; so = rw (c.is_letter.ensures, pair, rest) so }

pub returns : goal.returns
returns c =
    let i = c.loop-pair.invariant in
    let s : Text = c.args.s.now in
    let rest = windows_rest c.loop-pair.pair-iterator in
    let t = c.in-None.ensures.steps in
    let one : length rest ≡ 1 = omega arith in
    let k : length s - length rest ≡ 15 = omega arith in
    let last : rest ≡ drop 15 s = i.end ∙ ap (λ (n : ℕ). drop n s) k in
    let so = i.so ∙ ap (λ (r : Text). c.loop-pair.formed && spaced r) last
    ∙ ap (λ (b : Bool). c.loop-pair.formed && b) (spaced_last s c.if-s-ne16.false) in
    rw (c.is_letter-2.ensures, filled_formed s c.if-s-ne16.false, so)
