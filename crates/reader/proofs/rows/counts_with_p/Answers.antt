-- P is the eighth of the letters.
use Rattle.std.proofs.Common.{◌≡◌, ap, ◌∙◌, Bool, true, false, cond, not, ◌&&◌, ℕ, ◌/◌, ◌%◌, refl, nat_eq}
use mathlib.Core.Bool.{beq}
use Rattle.csm.proofs.WordTests.{has_P_bit}
use Rattle.reader.specs.Stages.{agree}
use Rattle.reader.proofs.rows.counts_with_p.Goals as goal

-- both are what p is
agree_is : (erf : ℕ) (ctp ctr p : Bool) → nat_eq (erf / 128 % 2) 1 ≡ p → agree erf ctp ctr ≡ (beq ctp p && beq ctr p)
unfolding agree
agree_is erf ctp ctr p e = ap (λ (b : Bool). cond b (ctp && ctr) (not ctp && not ctr)) (has_P_bit erf ∙ e) ∙ go p ctp ctr
  where
    go : (p a b : Bool) → cond p (a && b) (not a && not b) ≡ (beq a p && beq b p)
    go true true true = refl
    go true true false = refl
    go true false b = refl
    go false true b = refl
    go false false true = refl
    go false false false = refl

pub returns-then-ctp-p : goal.returns-then-ctp-p
returns-then-ctp-p c = rw (agree_is c.args.erf c.args.ctp c.args.ctr _ refl, c.if-ctp-p.true)

pub returns-else-ctp-p : goal.returns-else-ctp-p
returns-else-ctp-p c = rw (agree_is c.args.erf c.args.ctp c.args.ctr _ refl, c.if-ctp-p.false)
