-- What an order answers is 0 or the number of a refusal where the answer of its aim is; and that of every call's aim is.
use Rattle.std.proofs.Common.{◌≡◌, refl, sym, subst, Bool, true, false, not, cond, [], ◌∷◌, ℕ, arith}
use Rattle.std.specs.Prelude.{⊤, Option, None, Some, eqb}
use Rattle.octets.specs.Text.{Text, same}
use Rattle.calls.specs.Refusal.{numbered}
use Rattle.octets.specs.First.{Order, then, go, first}
use Rattle.csm.specs.Message.{Reading, read}
use Rattle.sight.specs.declared.aims.Act.{Act}
use Rattle.sight.specs.declared.aims.Act.TheVariants.{Receive, BuildKsm, BuildRsi, GiveUp, Remove, Ask, Load}
use Rattle.sight.specs.declared.aims.Aim.{Aim}
use Rattle.sight.specs.declared.Glance.{Glance}
use Rattle.sight.specs.Aim.{at_partner, refused, of_reading, with_room, aim_of}
use Rattle.turn.specs.Way.{order}
use Rattle.card.specs.Ways.{aim, ours, Listed}

-- where it is no refusal's, it is 0
pub unnumbered : (n : ℕ) → Listed n → numbered n ≡ None → 0 ≡ n
unnumbered n h k = grind arith

-- ---- of an order

abbrev all : Order → Type 0
all [] = ⊤
all (t ∷ ts) = Listed t.1 × all ts

then_listed : (a : ℕ) (holds : Bool) (n : ℕ) → Listed a → Listed n → Listed (then a holds n)
then_listed a holds n h k = by_number (eqb a 0)
  where
    by_test : (b : Bool) → Listed (cond b n 0)
    by_test true = k
    by_test false = refl

    by_number : (b : Bool) → Listed (cond b (cond holds n 0) a)
    by_number true = by_test holds
    by_number false = h

go_listed : (ts : Order) (a : ℕ) → Listed a → all ts → Listed (go a ts)
go_listed [] a h k = h
go_listed (t ∷ ts) a h k = go_listed ts (then a t.0 t.1) (then_listed a t.0 t.1 h k.0) k.1

module _ (a : Aim) (h : Listed a.answer) (g : Glance) (text : Text) (room : ℕ) where
  all_listed : (q : Act) → all (order a g q text room)
  all_listed Receive = (refl, (refl, (h, (refl, tt))))
  all_listed BuildKsm = (refl, (refl, (h, (refl, tt))))
  all_listed BuildRsi = (refl, (refl, (h, (refl, tt))))
  all_listed GiveUp = (refl, (refl, (h, (refl, tt))))
  all_listed Remove = (refl, (refl, (h, (refl, tt))))
  all_listed Ask = (refl, (refl, (h, (refl, tt))))
  all_listed (Load top) = (refl, (refl, (refl, (refl, (refl, (refl, tt))))))

  pub order_listed : (q : Act) → Listed (first (order a g q text room))
  order_listed q = go_listed (order a g q text room) 0 refl (all_listed q)

-- ---- of a call

by_text : (own : Text) (o : Option Reading) → Listed (of_reading own o).answer
unfolding of_reading
by_text own None = refl
by_text own (Some r) = go (not (same r.rcv own))
  where
    go : (b : Bool) → Listed (cond b (refused own 2) (at_partner own r.org)).answer
    go true = refl
    go false = refl

aim_listed : (q : Act) (own who text : Text) → Listed (aim_of q own who text).answer
unfolding aim_of
aim_listed Receive own who text = by_text own (read text)
aim_listed BuildKsm own who text = refl
aim_listed BuildRsi own who text = refl
aim_listed GiveUp own who text = refl
aim_listed Remove own who text = refl
aim_listed Ask own who text = refl
aim_listed (Load top) own who text = refl

module _ (q : Act) (image who text : Text) (a : Aim) (e : a ≡ aim q image who text) where
  pub asks_listed : Listed a.answer
  asks_listed = subst (λ (x : Aim). Listed x.answer) (sym e) (aim_listed q (ours image) who text)

  -- whatever room is asked for
  pub roomy_listed : (b : Aim) (room : ℕ) → b ≡ with_room a room → Listed b.answer
  roomy_listed b room f = subst (λ (x : Aim). Listed x.answer) (sym f) asks_listed
