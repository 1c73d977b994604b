-- The rules in a list: none is broken exactly when each test of the list fails, and which is the first that is broken.
use mathlib.Core.Path.{◌≡◌, refl, ap, ◌∙◌}
use mathlib.Core.Bool.{Bool, true, false, not, true≢false}
use mathlib.Core.List.{[], ◌∷◌}
use mathlib.Core.Logic.{◌↔◌}
use Prim.Native.Nat.{ℕ}
use lib.Dec.{eqb}
use borrow.Author.Tests.{eq-eqb, eqb-true, eqb-false}
use Rattle.octets.specs.First.{Order, then, first, Numbered, Passed, Given}
use Rattle.octets.specs.First.Numbered.{more, end}
use Rattle.octets.specs.First as orders
use Rattle.octets.proofs.Firsts as firsts
use Rattle.partner.specs.declared.Entry.{Entry}
use Rattle.partner.specs.Legal.{rules, broken, legal}

-- ---- any list

infixr 20 ◌and◌
-- each rule of a list kept
abbrev pub Kept : Order → Type 0
Kept [] = Unit {0}
Kept (t ∷ ts) = (t.0 ≡ false) × Kept ts

pub each_kept : (ts : Order) → Passed ts → Kept ts
each_kept ts orders.Passed.end = tt
each_kept ts (orders.Passed.more n rest p) = (refl, each_kept rest p)

pub all_passed : (ts : Order) → Kept ts → Passed ts
all_passed [] u = orders.Passed.end
all_passed ((true, n) ∷ ts) k = absurd (true≢false k.0)
all_passed ((false, n) ∷ ts) k = orders.Passed.more n ts (all_passed ts k.1)

-- a rule that holds, and those after it
pub ◌and◌ : {a : Bool} {K : Type 0} → a ≡ true → K → (not a ≡ false) × K
(h and k) = (ap not h, k)

-- the number after one more rule, from the number so far and the rule's test
pub one_more : (n : ℕ) {r a k : ℕ} {t b : Bool} → r ≡ then a (not t) n → a ≡ k → t ≡ b → r ≡ then k (not b) n
one_more n {r} {a} {k} {t} {b} e p q =
    e ∙ ap (λ (m : ℕ). then m (not t) n) p ∙ ap (λ (x : Bool). then k (not x) n) q

-- a number that a test tells from 0
pub not_0 : (n : ℕ) → eqb n 0 ≡ false → n ≡ 0 → ⊥
not_0 n = eqb-false n 0

-- ---- an entry's

pub numbered : (e : Entry) → Numbered (rules e)
unfolding rules
numbered e =
    more _ 3 _ (not_0 3 refl) (more _ 4 _ (not_0 4 refl) (more _ 5 _ (not_0 5 refl) (more _ 6 _ (not_0 6 refl)
    (more _ 7 _ (not_0 7 refl) (more _ 8 _ (not_0 8 refl) (more _ 9 _ (not_0 9 refl) end))))))

pub broken_first : (e : Entry) (n : ℕ) → (n ≡ 0 → ⊥) → (broken e ≡ n) ↔ Given (rules e) n
unfolding broken
broken_first e n z = (firsts.claims).exactly (rules e) n (numbered e) z

pub legal_passed : (e : Entry) → (legal e ≡ true) ↔ Passed (rules e)
unfolding legal broken
legal_passed e =
    let none_holds = (firsts.claims).else_0 (rules e) (numbered e) in
    (λ h. none_holds.0 (eqb-true (first (rules e)) 0 h), λ p. eq-eqb (first (rules e)) 0 (none_holds.1 p))

pub legal_kept : (e : Entry) → legal e ≡ true → Kept (rules e)
legal_kept e h = each_kept (rules e) ((legal_passed e).0 h)

pub kept_legal : (e : Entry) → Kept (rules e) → legal e ≡ true
kept_legal e k = (legal_passed e).1 (all_passed (rules e) k)
