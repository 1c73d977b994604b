-- The next letter stands there or not.
use Rattle.std.proofs.Common.{◌≡◌, sym, ap, ◌∙◌, subst, ℕ, ◌+◌, ◌*◌, ◌%◌, ◌^◌, ◌≤◌, ◌<◌, get_or, arith}
use native.Mathlib.Nat.{pow-le-pow_right, mod-eq_of_lt}
use borrow.Author.Tests.{eqb-true, eqb-false}
use Rattle.csm.specs.Fields.{error_letters}
use Rattle.fields.proofs.LetterLaws.{Sought, sought_more, next_here, next_other, erf_left, erf_found, erf_empty}
use Rattle.fields.proofs.words.letters.Goals.{in-Some, in_default, then-is_empty-via-then-is_empty, then-is_empty-via-else-is_empty+then-not-is_empty}
use Rattle.fields.proofs.words.letters.Goals as goal

-- a bit of nine has room
bit_fits : (k : ℕ) → k < 9 → 1 * 2 ^ k % 2 ^ 64 ≡ 1 * 2 ^ k
bit_fits k h = let q : 2 ^ k ≤ 2 ^ 8 = pow-le-pow_right (omega arith) {i = k} {j = 8} (omega arith) in mod-eq_of_lt (omega arith)

pub loop-k-preserved : goal.loop-k-preserved
loop-k-preserved c =
    let w = c.args.w.now in
    let k = c.loop-k.k in
    let n = c.loop-k.value in
    let rest = c.loop-k.rest.now in
    let x : ℕ = get_or error_letters k 0 in
    elim c.match-strip_prefix.branch [
      | in-Some v ↦
          let e = v.in-Some.ensures.cases in
          let m = sought_more error_letters w rest v.in-Some.behind.now n k 1 (omega arith) c.loop-k.invariant
          (next_here x rest v.in-Some.behind.now e.0 e.1) in
          let a : c.match-strip_prefix.value ≡ n + 1 * 2 ^ k = v.value-is ∙ ap (λ (i : ℕ). n + i) (bit_fits k (omega arith)) in
          rw (a, v.rest-is) m
      | in_default v ↦
          let m = sought_more error_letters w rest rest n k 0 (omega arith) c.loop-k.invariant
          (next_other x rest v.in_default.ensures.cases) in
          let a : c.match-strip_prefix.value ≡ n + 0 * 2 ^ k = v.value-is ∙ omega arith in
          rw (a, v.rest-is) m
    ]

pub returns-then-is_empty : goal.returns-then-is_empty
returns-then-is_empty c =
    elim c.then-is_empty.branch [
      | then-is_empty-via-then-is_empty v ↦ rw (erf_empty c.args.w.now (eqb-true _ _ (sym c.is_empty.ensures ∙ v.if-is_empty.true)))
      | then-is_empty-via-else-is_empty+then-not-is_empty v ↦
          let d = eqb-false _ _ (sym v.is_empty-else-is_empty.ensures ∙ v.if-not-is_empty.true) in
          let nine : c.loop-k.k ≡ 9 = omega arith in
          rw (erf_left c.args.w.now c.loop-k.rest.now c.loop-k.value
          (subst (λ (k : ℕ). Sought error_letters c.args.w.now c.loop-k.value k c.loop-k.rest.now) nine c.loop-k.invariant) (omega arith))
    ]

pub returns : goal.returns
returns c =
    let d = eqb-false _ _ (sym c.is_empty.ensures ∙ c.if-is_empty.false) in
    let e = eqb-true _ _ (sym c.is_empty-else-is_empty.ensures ∙ c.if-not-is_empty.false) in
    let nine : c.loop-k.k ≡ 9 = omega arith in
    rw (erf_found c.args.w.now c.loop-k.rest.now c.loop-k.value
    (subst (λ (k : ℕ). Sought error_letters c.args.w.now c.loop-k.value k c.loop-k.rest.now) nine c.loop-k.invariant) e (omega arith))
