-- The way by its refusal; giving up writes no reply.
use Rattle.std.proofs.Common.{◌≡◌, refl, sym, ap, ◌∙◌, Bool, cond, ℕ}
use Rattle.std.specs.Prelude.{eqb}
use borrow.Author.Tests.{eq-eqb, ne_eqb}
use Rattle.octets.specs.Text.{Text}
use Rattle.partner.specs.declared.Entry.{Entry}
use Rattle.calls.specs.Outcome.{Turn, refused}
use Rattle.calls.specs.Build.{give_up}
use Rattle.calls.proofs.Tests.{by_case}
use Rattle.outcome.specs.Report.{replied}
use Rattle.sight.specs.declared.aims.Act.{Act}
use Rattle.sight.specs.declared.aims.Aim.{Aim}
use Rattle.sight.specs.declared.Sight.{Sight}
use Rattle.turn.specs.Way.{refusal, turn, take}

pub no_reply : (e : Entry) (l : Text) → replied (give_up e).outcome l ≡ l
unfolding give_up replied
no_reply e l = by_case (λ (t : Turn). replied t.outcome l ≡ l) _ _ _ (λ _. refl) (λ _. refl)

module _ (own : Text) (a : Aim) (s : Sight) (q : Act) (text : Text) (room n : ℕ) (e : n ≡ refusal a s q text room) where
  abbrev went : Turn
  went = turn own a.partner s.entry q text room

  -- by its refusal
  by_number : take own a s q text room ≡ cond (eqb n 0) went (refused s.entry n)
  unfolding take
  by_number = sym (ap (λ (m : ℕ). cond (eqb m 0) went (refused s.entry m)) e)

  pub way_refused : (n ≡ 0 → ⊥) → take own a s q text room ≡ refused s.entry n
  way_refused h = by_number ∙ ap (λ (b : Bool). cond b went (refused s.entry n)) (ne_eqb n 0 h)

  pub way_turned : n ≡ 0 → take own a s q text room ≡ went
  way_turned h = by_number ∙ ap (λ (b : Bool). cond b went (refused s.entry n)) (eq-eqb n 0 h)
