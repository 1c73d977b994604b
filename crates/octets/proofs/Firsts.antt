-- The claims of specs/First.antt, proved, and how an order is walked.
use mathlib.Core.Path.{◌≡◌, refl, sym, ap, ◌∙◌}
use mathlib.Core.Bool.{true, false}
use mathlib.Core.List.{[], ◌∷◌, ◌++◌}
use Prim.Native.Nat.{ℕ}
use borrow.Author.Tests.{ne_eqb}
use Rattle.octets.specs.First.{Order, go, first, Numbered, Passed, Given, Claims}
use Rattle.octets.specs.First as orders

-- a number that is given stays
pub stays : (n : ℕ) (ts : Order) → (n ≡ 0 → ⊥) → go n ts ≡ n
stays n [] h = refl
stays n (t ∷ ts) h = rw (ne_eqb n 0 h) (stays n ts h)

-- a test that holds gives its number, and one that does not gives the rest
pub holds_first : (n : ℕ) (ts : Order) → (n ≡ 0 → ⊥) → first ((true, n) ∷ ts) ≡ n
holds_first n ts h = stays n ts h

is_given : (ts : Order) (n : ℕ) → Numbered ts → (n ≡ 0 → ⊥) → first ts ≡ n → Given ts n
is_given ts n orders.Numbered.end z p = absurd (z (sym p))
is_given whole n (orders.Numbered.more true k ts x h) z p =
    let i : k ≡ n = sym (holds_first k ts x) ∙ p in
    record { earlier = []; later = ts; whole = ap (λ (m : ℕ). (true, m) ∷ ts) i; passed = orders.Passed.end }
is_given whole n (orders.Numbered.more false k ts x h) z p =
    let g = is_given ts n h z p in
    record {
      earlier = (false, k) ∷ g.earlier;
      later = g.later;
      whole = ap (λ (l : Order). (false, k) ∷ l) g.whole;
      passed = orders.Passed.more k g.earlier g.passed;
    }

gives : (earlier later : Order) (n : ℕ) → (n ≡ 0 → ⊥) → Passed earlier → first (earlier ++ ((true, n) ∷ later)) ≡ n
gives earlier later n z orders.Passed.end = holds_first n later z
gives earlier later n z (orders.Passed.more k ts p) = gives ts later n z p

none_holds : (ts : Order) → Numbered ts → first ts ≡ 0 → Passed ts
none_holds whole orders.Numbered.end p = orders.Passed.end
none_holds whole (orders.Numbered.more true k ts x h) p = absurd (x (sym (holds_first k ts x) ∙ p))
none_holds whole (orders.Numbered.more false k ts x h) p = orders.Passed.more k ts (none_holds ts h p)

is_0 : (ts : Order) → Passed ts → first ts ≡ 0
is_0 ts orders.Passed.end = refl
is_0 ts (orders.Passed.more k rest p) = is_0 rest p

pub claims : Claims
claims = record {
  exactly = λ ts n h z. (is_given ts n h z, λ g. ap first g.whole ∙ gives g.earlier g.later n z g.passed);
  else_0 = λ ts h. (none_holds ts h, is_0 ts);
}
