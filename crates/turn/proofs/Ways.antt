-- One way for every call: over whatever has been seen of a table, a call ends as it does on that table.
use Rattle.std.specs.Prelude.{Option}
use mathlib.Core.Path.{◌≡◌, refl, sym, ap, ◌∙◌, subst}
use mathlib.Core.Bool.{Bool, true, false, not, cond, ◌&&◌}
use mathlib.Core.List.{List}
use Prim.Native.Nat.{ℕ}
use native.Mathlib.Omega.{arith}
use lib.Dec.{eqb, ltb}
use borrow.Author.Tests.{le-ltb}
use Rattle.octets.specs.Text.{Text, is_name}
use Rattle.octets.specs.First.{first}
use Rattle.csm.specs.Message.{read}
use Rattle.partner.specs.declared.Name.{Name}
use Rattle.partner.specs.declared.Entry.{Entry}
use Rattle.partner.specs.Table.{legal}
use Rattle.calls.specs.Words.{in_case◌then◌else◌}
use Rattle.calls.specs.Outcome.{Turn, refused}
use Rattle.calls.specs.Build as building
use Rattle.calls.specs.Calls as every
use Rattle.calls.specs.Calls.{After, refuse}
use Rattle.calls.proofs.Tests.{if_true, if_false}
use Rattle.outcome.specs.Acts as turns
use Rattle.sight.specs.declared.aims.Act.{Act}
use Rattle.sight.specs.declared.aims.Act.TheVariants.{Receive, BuildKsm, BuildRsi, GiveUp, Remove, Ask, Load}
use Rattle.sight.specs.declared.aims.Aim.{Aim}
use Rattle.sight.specs.declared.Sight.{Sight}
use Rattle.sight.specs.declared.Glance.{Glance}
use Rattle.sight.specs.Sight.{put_in}
use Rattle.sight.specs.Aim.{with_room, aim_of}
use Rattle.sight.specs.Asked.{call_of}
use Rattle.request.specs.Request.{request_in}
use Rattle.sight.specs.Table.{over_row}
use Rattle.sight.proofs.Sees.{Sees}
use Rattle.turn.specs.Way.{unfit, by_act, glance, refusal, turn, take}
use Rattle.turn.proofs.Answers.{gives_13, gives_6, gives_further}
use Rattle.turn.proofs.Acting.{way_refused}
use Rattle.turn.proofs.Ends.{t, Ends, unlawful, roomed, at_entry, ours, opened, receiving}
use Rattle.turn.proofs.Loads.{loads}

-- no room is asked for
roomless : (room : ℕ) → ltb room 0 ≡ false
roomless room = le-ltb room 0 (omega arith)

module _ (own : Text) (slots : List Entry) where
  abbrev Goes : Sight → Act → Text → Text → ℕ → After → Type 0
  Goes s x who text room w = Ends own slots s (take own (aim_of x own who text) s x text room) w

  -- every call in a legal table
  performed : (s : Sight) (x : Act) (who text : Text) (room : ℕ) → is_name own ≡ true → legal (t own slots) ≡ true
      → s.legal ≡ true → Sees own slots (aim_of x own who text) s
      → Goes s x who text room (every.perform (t own slots) (call_of x room who text))
  unfolding every.perform aim_of call_of turn turns.build_ksm turns.build_rsi
  performed s Receive who text room n w l z =
      roomed own slots _ s z Receive text room l (ltb room 256) _ refl (λ h.
      receiving own slots n w s text room l h (read text) refl z)
  performed s BuildKsm who text room n w l z =
      roomed own slots _ s z BuildKsm text room l (ltb room 256) _ refl (λ h.
      at_entry own slots _ s z BuildKsm text room l n w who _ refl refl refl refl h
      (λ e g. opened own slots n w e room _ g h ∙ ap (λ (v : Text). building.build_ksm v e (request_in text)) (sym (ours own slots n w))))
  performed s BuildRsi who text room n w l z =
      roomed own slots _ s z BuildRsi text room l (ltb room 256) _ refl (λ h.
      at_entry own slots _ s z BuildRsi text room l n w who _ refl refl refl refl h
      (λ e g. opened own slots n w e room _ g h ∙ ap (λ (v : Text). building.build_rsi v e text) (sym (ours own slots n w))))
  performed s GiveUp who text room n w l z =
      roomed own slots _ s z GiveUp text room l false _ (roomless room) (λ h.
      at_entry own slots _ s z GiveUp text room l n w who _ refl refl refl refl h (λ e g. refl))
  performed s Remove who text room n w l z =
      roomed own slots _ s z Remove text room l false _ (roomless room) (λ h.
      at_entry own slots _ s z Remove text room l n w who _ refl refl refl refl h (λ e g. refl))
  performed s Ask who text room n w l z =
      roomed own slots _ s z Ask text room l false _ (roomless room) (λ h.
      at_entry own slots _ s z Ask text room l n w who _ refl refl refl refl h (λ e g. refl))
  performed s (Load top) who text room n w l z = loads own slots s who text top room z l (roomless room)

  -- every call
  ends : (s : Sight) (x : Act) (who text : Text) (room : ℕ) → Sees own slots (aim_of x own who text) s
      → Goes s x who text room (over_row own slots (call_of x room who text))
  unfolding over_row every.run
  ends s x who text room z = by_name (is_name own) refl
    where
      Gone : After → Type 0
      Gone w = Goes s x who text room w

      refuses : is_name own && legal (t own slots) ≡ false → Gone (refuse (t own slots) 13)
      refuses h = unlawful own slots (aim_of x own who text) s z x text room h

      by_table : is_name own ≡ true → (b : Bool) → legal (t own slots) ≡ b
          → Gone (in_case legal (t own slots) then every.perform (t own slots) (call_of x room who text) else refuse (t own slots) 13)
      by_table n true h =
          subst Gone (sym (if_true (legal (t own slots)) _ _ h))
          (performed s x who text room n h (z.legal ∙ rw (n, h)) z)
      by_table n false h = subst Gone (sym (if_false (legal (t own slots)) _ _ h)) (refuses (rw (n, h)))

      by_name : (b : Bool) → is_name own ≡ b
          → Gone (in_case is_name own then (in_case legal (t own slots) then every.perform (t own slots) (call_of x room who text) else refuse (t own slots) 13)
          else refuse (t own slots) 13)
      by_name true n = subst Gone (sym (if_true (is_name own) _ _ n)) (by_table n (legal (t own slots)) refl)
      by_name false n = subst Gone (sym (if_false (is_name own) _ _ n)) (refuses (rw n))

-- the outcome is the call's, and the turned entry put where one was seen gives the table after it
pub way_ends : (own : Text) (slots : List Entry) (q : Act) (who text : Text) (room : ℕ) (s : Sight)
    → Sees own slots (aim_of q own who text) s
    → ((take own (aim_of q own who text) s q text room).outcome ≡ (over_row own slots (call_of q room who text)).outcome)
    × (put_in s.slot (take own (aim_of q own who text) s q text room).entry slots ≡ (over_row own slots (call_of q room who text)).table.slots)
way_ends own slots q who text room s z = ends own slots s q who text room z

-- ---- another room

-- the tests after 6 ask for none
same_further : (x : Act) (a : Aim) (g : Glance) (text : Text) (room : ℕ) → by_act x (with_room a room) g text ≡ by_act x (with_room a 0) g text
unfolding unfit
same_further Receive a g text room = refl
same_further BuildKsm a g text room = refl
same_further BuildRsi a g text room = refl
same_further GiveUp a g text room = refl
same_further Remove a g text room = refl
same_further Ask a g text room = refl
same_further (Load top) a g text room = refl

-- a way by its refusal
abbrev taking : Text → Option Name → Entry → Act → Text → ℕ → ℕ → Turn
taking own id e q text room n = cond (eqb n 0) (turn own id e q text room) (refused e n)

take_by : (own : Text) (a : Aim) (s : Sight) (q : Act) (text : Text) (room : ℕ)
    → take own a s q text room ≡ taking own a.partner s.entry q text room (refusal a s q text room)
unfolding take
take_by own a s q text room = refl

-- with another room asked for only test 6 changes
pub way_roomed : (own : Text) (a : Aim) (s : Sight) (q : Act) (text : Text) (asks room : ℕ)
    → take own (with_room a asks) s q text room
    ≡ cond (not s.legal) (refused s.entry 13) (cond (ltb room asks) (refused s.entry 6) (take own (with_room a 0) s q text room))
way_roomed own a s q text asks room = by_legal s.legal refl
  where
    b : Aim
    b = with_room a asks

    Goal : Bool → Bool → Type 0
    Goal l r = take own b s q text room
        ≡ cond (not l) (refused s.entry 13) (cond r (refused s.entry 6) (take own (with_room a 0) s q text room))

    refuses_same : s.legal ≡ true → ltb room asks ≡ false → refusal b s q text room ≡ refusal (with_room a 0) s q text room
    refuses_same l h =
        sym (gives_further b s q text room l h) ∙ ap first (same_further q a (glance s) text asks)
        ∙ gives_further (with_room a 0) s q text room l (roomless room)

    same_way : s.legal ≡ true → ltb room asks ≡ false → take own b s q text room ≡ take own (with_room a 0) s q text room
    same_way l h = take_by own b s q text room ∙ ap (taking own a.partner s.entry q text room) (refuses_same l h) ∙ sym (take_by own (with_room a 0) s q text room)

    by_room : s.legal ≡ true → (r : Bool) → ltb room asks ≡ r → Goal true r
    by_room l true h = way_refused own b s q text room 6 (gives_6 b s q text room l h) (λ z. absurd (omega arith))
    by_room l false h = same_way l h

    by_legal : (l : Bool) → s.legal ≡ l
        → take own b s q text room
        ≡ cond (not s.legal) (refused s.entry 13) (cond (ltb room asks) (refused s.entry 6) (take own (with_room a 0) s q text room))
    by_legal true l = subst (λ (x : Bool). Goal x (ltb room asks)) (sym l) (by_room l (ltb room asks) refl)
    by_legal false l =
        subst (λ (x : Bool). Goal x (ltb room asks)) (sym l)
        (way_refused own b s q text room 13 (gives_13 b s q text room l) (λ z. absurd (omega arith)))
