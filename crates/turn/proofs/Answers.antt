-- The order of a call's answers, test by test.
use Rattle.std.proofs.Common.{◌≡◌, sym, ap, ◌∙◌, Bool, true, false, not, [], ◌∷◌, ℕ, arith}
use Rattle.std.specs.Prelude.{ltb}
use borrow.Author.Tests.{ne_eqb}
use Rattle.octets.specs.Text.{Text}
use Rattle.octets.specs.First.{first}
use Rattle.octets.proofs.Firsts.{stays}
use Rattle.sight.specs.declared.aims.Act.{Act}
use Rattle.sight.specs.declared.aims.Aim.{Aim}
use Rattle.sight.specs.declared.Sight.{Sight}
use Rattle.sight.specs.declared.Glance.{Glance}
use Rattle.turn.specs.Way.{unfit, looking_up, loading, by_act, glance, refusal}

module _ (a : Aim) (s : Sight) (q : Act) (text : Text) (room : ℕ) where
  pub gives_13 : s.legal ≡ false → 13 ≡ refusal a s q text room
  unfolding refusal
  gives_13 l =
      sym (ap (λ (b : Bool). first ((not b, 13) ∷ (ltb room a.room, 6) ∷ by_act q a (glance s) text)) l
      ∙ stays 13 ((ltb room a.room, 6) ∷ by_act q a (glance s) text) (λ z. absurd (omega arith)))

  module _ (l : s.legal ≡ true) where
    after_13 : first ((ltb room a.room, 6) ∷ by_act q a (glance s) text) ≡ refusal a s q text room
    unfolding refusal
    after_13 = sym (ap (λ (b : Bool). first ((not b, 13) ∷ (ltb room a.room, 6) ∷ by_act q a (glance s) text)) l)

    pub gives_6 : ltb room a.room ≡ true → 6 ≡ refusal a s q text room
    gives_6 h =
        sym (ap (λ (b : Bool). first ((b, 6) ∷ by_act q a (glance s) text)) h
        ∙ stays 6 (by_act q a (glance s) text) (λ z. absurd (omega arith)))
        ∙ after_13

    pub gives_further : ltb room a.room ≡ false → first (by_act q a (glance s) text) ≡ refusal a s q text room
    gives_further h = sym (ap (λ (b : Bool). first ((b, 6) ∷ by_act q a (glance s) text)) h) ∙ after_13

-- the answer of a text, then 3
pub looks_refused : (a : Aim) (g : Glance) → (a.answer ≡ 0 → ⊥) → a.answer ≡ first (looking_up a g)
looks_refused a g h =
    sym (ap (λ (b : Bool). first ((not b, a.answer) ∷ (not g.there, 3) ∷ [])) (ne_eqb a.answer 0 h)
    ∙ stays a.answer ((not g.there, 3) ∷ []) h)

pub looks_3 : (a : Aim) (g : Glance) → a.answer ≡ 0 → g.there ≡ false → 3 ≡ first (looking_up a g)
looks_3 a g h t = sym (rw (h, t))

pub looks_0 : (a : Aim) (g : Glance) → a.answer ≡ 0 → g.there ≡ true → 0 ≡ first (looking_up a g)
looks_0 a g h t = sym (rw (h, t))

-- 10, 12, 11, 9
module _ (a : Aim) (g : Glance) (named odd : Bool) where
  pub loads_10 : unfit a g ≡ true → 10 ≡ first (loading a g named odd)
  loads_10 u = sym (rw u)

  module _ (u : unfit a g ≡ false) where
    pub loads_12 : named ≡ false → 12 ≡ first (loading a g named odd)
    loads_12 n = sym (rw (u, n))

    pub loads_11 : named ≡ true → odd ≡ false → 11 ≡ first (loading a g named odd)
    loads_11 n o = sym (rw (u, n, o))

    pub loads_9 : named ≡ true → odd ≡ true → g.there ≡ false → 9 ≡ first (loading a g named odd)
    loads_9 n o t = sym (rw (u, n, o, t))

    pub loads_0 : named ≡ true → odd ≡ true → g.there ≡ true → 0 ≡ first (loading a g named odd)
    loads_0 n o t = sym (rw (u, n, o, t))
