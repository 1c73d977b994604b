-- Over whatever has been seen of a legal table, a call about one entry ends as it does on that table.
use Rattle.std.specs.Prelude.{Option, None, Some}
use Rattle.std.specs.List.{find as first}
use mathlib.Core.Path.{◌≡◌, refl, sym, ap, ◌∙◌, subst}
use mathlib.Core.Bool.{Bool, true, false, not, cond, ◌&&◌}
use mathlib.Core.List.{List}
use Prim.Native.Nat.{ℕ}
use native.Mathlib.Omega.{arith}
use lib.Dec.{ltb}
use Rattle.octets.specs.Text.{Text, same, is_name}
use Rattle.octets.specs.Part.{bare}
use Rattle.octets.specs.First as orders
use Rattle.csm.specs.Message.{Reading, read}
use Rattle.partner.specs.declared.Entry.{Entry}
use Rattle.partner.specs.Entry.{filled}
use Rattle.partner.specs.Legal as partner
use Rattle.partner.proofs.Claims as entries
use Rattle.partner.specs.Table.{Table, legal, find}
use Rattle.calls.specs.Words.{in_case◌then◌else◌}
use Rattle.calls.specs.Outcome.{Turn}
use Rattle.calls.specs.Receive as by_class
use Rattle.calls.specs.Calls as every
use Rattle.calls.specs.Calls.{After, refuse}
use Rattle.calls.proofs.Tests.{if_true, if_false}
use Rattle.calls.proofs.Tables.{held, held_legal}
use Rattle.outcome.specs.Acts as turns
use Rattle.sight.specs.declared.aims.Act.{Act}
use Rattle.sight.specs.declared.aims.Act.TheVariants.{Receive}
use Rattle.sight.specs.declared.aims.Aim.{Aim}
use Rattle.sight.specs.declared.Sight.{Sight}
use Rattle.sight.specs.Aim.{identity, at_partner, refused as nobody, of_reading, with_room}
use Rattle.sight.specs.Sight.{is_sought, put_in}
use Rattle.sight.specs.Table.{table}
use Rattle.sight.proofs.Finding.{first_named, first_unnamed, putting_named}
use Rattle.sight.proofs.Sees.{Sees, keeps}
use Rattle.turn.specs.Way.{looking_up, by_act, glance, refusal, turn, take}
use Rattle.turn.proofs.Acting.{way_refused, way_turned}
use Rattle.turn.proofs.Answers.{gives_13, gives_6, gives_further, looks_refused, looks_3, looks_0}

-- ---- ends

module _ (own : Text) (slots : List Entry) where
  abbrev pub t : Table
  t = table own slots

  -- the outcome of a turn and the slots with its entry put back, against a call's outcome and its table
  abbrev pub Ends : Sight → Turn → After → Type 0
  Ends s r w = (r.outcome ≡ w.outcome) × (put_in s.slot r.entry slots ≡ w.table.slots)

  module _ (a : Aim) (s : Sight) (z : Sees own slots a s) (q : Act) (text : Text) (room : ℕ) where
    abbrev pub Ended : After → Type 0
    Ended w = Ends s (take own a s q text room) w

    -- a refusal keeps the table
    pub refuses : (n : ℕ) → n ≡ refusal a s q text room → (n ≡ 0 → ⊥) → Ended (refuse t n)
    refuses n e h =
        let k = way_refused own a s q text room n e h in
        (ap (λ (r : Turn). r.outcome) k, ap (λ (r : Turn). put_in s.slot r.entry slots) k ∙ keeps z)

    -- 13: our identity is no name, or the table is not legal
    pub unlawful : is_name own && legal t ≡ false → Ended (refuse t 13)
    unlawful h = refuses 13 (gives_13 a s q text room (z.legal ∙ h)) (λ z. absurd (omega arith))

    module _ (l : s.legal ≡ true) where
      -- 6, else the call
      pub roomed : (b : Bool) (w : After) → ltb room a.room ≡ b → (ltb room a.room ≡ false → Ended w) → Ended (every.with_room t b w)
      roomed true w h k =
          subst Ended (sym (if_true true (refuse t 6) w refl)) (refuses 6 (gives_6 a s q text room l h) (λ z. absurd (omega arith)))
      roomed false w h k = subst Ended (sym (if_false false (refuse t 6) w refl)) (k h)

      -- at the partner's entry: 3, else its turn
      module _ (named : is_name own ≡ true) (lawful : legal t ≡ true) (id : Text) (f : Entry → Turn)
          (v : a.vacant ≡ false) (p : a.partner ≡ identity id) (n : a.answer ≡ 0)
          (o : by_act q a (glance s) text ≡ looking_up a (glance s)) (roomy : ltb room a.room ≡ false)
          (turning : (e : Entry) → partner.legal e ≡ true → turn own a.partner e q text room ≡ f e) where
        looks : orders.first (looking_up a (glance s)) ≡ refusal a s q text room
        looks = sym (ap orders.first o) ∙ gives_further a s q text room l roomy

        missed : first (is_sought a) slots ≡ None → Ended (refuse t 3)
        missed h = refuses 3 (looks_3 a (glance s) n (rw (z.missed l h)) ∙ looks) (λ z. absurd (omega arith))

        hit : (e : Entry) → is_name id ≡ true → find (filled id) slots ≡ Some e → Ended (every.after_turn t id f (Some e))
        hit e m h =
            let k = z.found l e (first_named a id v p slots m ∙ h) in
            let good = held_legal t id e lawful (held t id e m h) in
            let r : take own a s q text room ≡ f e = way_turned own a s q text room 0 (looks_0 a (glance s) n k.0 ∙ looks) refl
            ∙ ap (λ (x : Entry). turn own a.partner x q text room) k.1 ∙ turning e good in (
              ap (λ (r : Turn). r.outcome) r,
              ap (λ (r : Turn). put_in s.slot r.entry slots) r ∙ k.2 (f e).entry
                  ∙ putting_named a id v p slots m (f e).entry,
            )

        pub at_entry : Ended (every.at_partner t id f)
        unfolding every.at_partner
        at_entry = by_name (is_name id) refl
          where
            by_entry : is_name id ≡ true → (o : Option Entry) → find (filled id) slots ≡ o → Ended (every.after_turn t id f o)
            by_entry m None h = missed (first_named a id v p slots m ∙ h)
            by_entry m (Some e) h = hit e m h

            by_name : (b : Bool) → is_name id ≡ b → Ended (every.after_turn t id f (every.entry_of id t))
            by_name true m =
                subst (λ (o : Option Entry). Ended (every.after_turn t id f o)) (sym (if_true (is_name id) _ _ m))
                (by_entry m (find (filled id) slots) refl)
            by_name false m =
                subst (λ (o : Option Entry). Ended (every.after_turn t id f o)) (sym (if_false (is_name id) _ _ m))
                (missed (first_unnamed a id v p slots m))

  -- ---- every act in a legal table

  module _ (named : is_name own ≡ true) (lawful : legal t ≡ true) where
    -- our identity as the table has it
    pub ours : bare t.own ≡ own
    ours = (entries.claims).bare_after_filled own named

    -- a legal entry and room for the reply: the turn itself
    pub opened : (e : Entry) (room : ℕ) (r : Turn) → partner.legal e ≡ true → ltb room 256 ≡ false → turns.guarded own e room r ≡ r
    unfolding turns.guarded turns.sound
    opened e room r l h =
        let k : is_name own && partner.legal e ≡ true = rw (named, l) in
        if_false (not (is_name own && partner.legal e)) _ _ (ap not k) ∙ if_false (ltb room 256) _ _ h

    -- 1, 2, then the originator's entry
    pub receiving : (s : Sight) (text : Text) (room : ℕ) → s.legal ≡ true → ltb room 256 ≡ false → (o : Option Reading) → read text ≡ o
        → Sees own slots (with_room (of_reading own o) 256) s
        → Ends s (take own (with_room (of_reading own o) 256) s Receive text room) (every.receiving t text o)
    unfolding every.receiving of_reading turn turns.receive turns.receive_read
    receiving s text room l h None e z =
        let a = with_room (nobody own 1) 256 in
        refuses a s z Receive text room 1
        (looks_refused a (glance s) (λ z. absurd (omega arith)) ∙ gives_further a s Receive text room l h) (λ z. absurd (omega arith))
    receiving s text room l h (Some r) e z = by_rcv (same r.rcv own) refl z
      where
        w : Entry → Turn
        w x = by_class.receive (bare t.own) x text r.body

        turning : (x : Entry) → partner.legal x ≡ true
            → turn own (with_room (at_partner own r.org) 256).partner x Receive text room ≡ w x
        turning x l =
            opened x room (turns.receive_read own x text (read text)) l h
            ∙ ap (turns.receive_read own x text) e
            ∙ ap (λ (v : Text). by_class.receive v x text r.body) (sym ours)

        known : same r.rcv (bare t.own) ≡ same r.rcv own
        known = ap (same r.rcv) ours

        rest : After
        rest = in_case not (same r.rcv (bare t.own)) then refuse t 2 else every.at_partner t r.org w

        by_rcv : (b : Bool) → same r.rcv own ≡ b
            → Sees own slots (with_room (cond (not (same r.rcv own)) (nobody own 2) (at_partner own r.org)) 256) s
            → Ends s (take own (with_room (cond (not (same r.rcv own)) (nobody own 2) (at_partner own r.org)) 256) s Receive text room) rest
        by_rcv false k =
            let a = with_room (nobody own 2) 256 in
            subst (λ (b : Bool). Sees own slots (with_room (cond (not b) (nobody own 2) (at_partner own r.org)) 256) s
            → Ends s (take own (with_room (cond (not b) (nobody own 2) (at_partner own r.org)) 256) s Receive text room) rest)
            (sym k) (λ z.
            subst (Ends s (take own a s Receive text room)) (sym (if_true (not (same r.rcv (bare t.own))) _ _ (ap not (known ∙ k))))
            (refuses a s z Receive text room 2
            (looks_refused a (glance s) (λ z. absurd (omega arith)) ∙ gives_further a s Receive text room l h) (λ z. absurd (omega arith))))
        by_rcv true k =
            let a = with_room (at_partner own r.org) 256 in
            subst (λ (b : Bool). Sees own slots (with_room (cond (not b) (nobody own 2) (at_partner own r.org)) 256) s
            → Ends s (take own (with_room (cond (not b) (nobody own 2) (at_partner own r.org)) 256) s Receive text room) rest)
            (sym k) (λ z.
            subst (Ends s (take own a s Receive text room)) (sym (if_false (not (same r.rcv (bare t.own))) _ _ (ap not (known ∙ k))))
            (at_entry a s z Receive text room l named lawful r.org w refl refl refl refl h turning))
