-- What the look-up of a slot answers.
use Rattle.std.proofs.Common.{◌≡◌, refl, sym, ap, ◌∙◌, Bool, true, false, not, cond, ℕ, arith}
use Rattle.std.specs.Prelude.{Option, None, Some, Err, is_some, ltb}
use Rattle.std.specs.Bool.{then_some}
use Rattle.std.specs.Option.{ok_or}
use Rattle.octets.specs.Text.{Text}
use Rattle.octets.specs.Part.{found}
use Rattle.octets.specs.First.{first}
use Rattle.image.specs.Image.{decode}
use Rattle.image.specs.Places.{below, free_slot}
use Rattle.calls.specs.declared.Refusal.{Refusal}
use Rattle.calls.specs.declared.Refusal.TheVariants.{Illegal, NoPartner}
use Rattle.calls.specs.Refusal.{number}
use Rattle.sight.specs.declared.aims.Act.{Act}
use Rattle.sight.specs.declared.aims.Act.TheVariants.{Receive, BuildKsm, BuildRsi, GiveUp, Remove, Ask, Load}
use Rattle.sight.specs.declared.aims.Aim.{Aim}
use Rattle.sight.specs.declared.Glance.{Glance}
use Rattle.turn.specs.Way.{order, glance, refusal}
use Rattle.turn.proofs.Answers.{gives_13}
use Rattle.card.specs.Ways.{theirs, sought, blind, sighted, seen, place_in, place, Finds}

-- the last test of every order is whether a slot is there
there_so : (a : Aim) (g : Glance) (q : Act) (text : Text) (room : ℕ) → 0 ≡ first (order a g q text room) → g.there ≡ true
there_so a g Receive text room h = grind arith
there_so a g BuildKsm text room h = grind arith
there_so a g BuildRsi text room h = grind arith
there_so a g GiveUp text room h = grind arith
there_so a g Remove text room h = grind arith
there_so a g Ask text room h = grind arith
there_so a g (Load top) text room h = grind arith

some_if : (b : Bool) (k : ℕ) → is_some (then_some b k) ≡ b
some_if true k = refl
some_if false k = refl

module _ (a : Aim) (image : Text) (q : Act) (text : Text) (room : ℕ) where
  -- of what is no legal image nothing
  pub finds_nothing : found (decode image) ≡ false → Finds a image q text room (Err Illegal)
  unfolding seen
  finds_nothing h = record {
    answer = gives_13 a (seen a image) q text room (ap (λ (b : Bool). (cond (not b) blind (sighted a image)).legal) h);
    slot = λ k e. cc;
  }

  module _ (h : found (decode image) ≡ true) where
    seen_so : seen a image ≡ sighted a image
    unfolding seen
    seen_so = ap (λ (b : Bool). cond (not b) blind (sighted a image)) h

    -- the slot that is sought
    sought_so : (t : Option ℕ) → t ≡ below 64 (theirs a image) → cond a.vacant (below 64 (free_slot image)) t ≡ below 64 (sought a image)
    unfolding sought
    sought_so t e = ap (cond a.vacant (below 64 (free_slot image))) e ∙ go a.vacant
      where
        go : (b : Bool) → cond b (below 64 (free_slot image)) (below 64 (theirs a image)) ≡ below 64 (cond b (free_slot image) (theirs a image))
        go true = refl
        go false = refl

    module _ (t o : Option ℕ) (p : t ≡ below 64 (theirs a image)) (e : o ≡ cond a.vacant (below 64 (free_slot image)) t)
        (taken there : Bool) (u : taken ≡ is_some t) (v : there ≡ is_some o) where
      abbrev g : Glance
      g = record { legal = true; taken = taken; there = there }

      o_is : o ≡ below 64 (sought a image)
      o_is = e ∙ sought_so t p

      glance_so : g ≡ glance (seen a image)
      glance_so =
          (λ j. record {
            legal = true;
            taken = (u ∙ ap is_some p ∙ some_if (ltb (theirs a image) 64) (theirs a image)) j;
            there = (v ∙ ap is_some o_is) j;
          })
          ∙ sym (ap glance seen_so)

      answer_so : first (order a g q text room) ≡ refusal a (seen a image) q text room
      unfolding refusal
      answer_so = ap (λ (x : Glance). first (order a x q text room)) glance_so

      -- refused
      pub finds_refusal : (r : Refusal) → number r ≡ first (order a g q text room) → Finds a image q text room (Err r)
      finds_refusal r k = record { answer = k ∙ answer_so; slot = λ n z. cc }

      place_so : (k : ℕ) → o ≡ Some k → k ≡ place (seen a image)
      place_so k z = sym (ap place seen_so ∙ ap place_in (sym o_is ∙ z))

      -- found
      pub finds_slot : 0 ≡ first (order a g q text room) → Finds a image q text room (ok_or o NoPartner)
      finds_slot k = go o refl
        where
          go : (x : Option ℕ) → o ≡ x → Finds a image q text room (ok_or x NoPartner)
          go None z = let w : is_some o ≡ true = sym v ∙ there_so a g q text room k in cc
          go (Some n) z = record { answer = k ∙ answer_so; slot = λ m w. let i : n ≡ m = cc in sym i ∙ place_so n z }
