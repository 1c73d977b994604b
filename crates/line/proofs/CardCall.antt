-- What any call of a card does to its entry for the other card: nothing, and what is written goes elsewhere; or an
-- event; or that entry is loaded.
use Rattle.std.specs.Prelude.{None, Some}
use mathlib.Core.Path.{◌≡◌, refl, sym, ap, ◌∙◌, subst}
use mathlib.Core.Bool.{true, false, not}
use mathlib.Core.List.{List, []}
use mathlib.Core.Logic.{◌≢◌}
use Prim.Native.Nat.{ℕ}
use lib.Dec.{eqb}
use borrow.Author.Tests.{not-true}
use Rattle.octets.specs.Text.{Text, same, is_name}
use Rattle.octets.specs.Part.{bare}
use Rattle.octets.proofs.Comparing.{same_equal, same_differs, both as and_true}
use Rattle.keying.specs.declared.Top.{Top}
use Rattle.csm.specs.Message.{Body}
use Rattle.partner.specs.declared.Name.{Name}
use Rattle.partner.specs.declared.Entry.{Entry}
use Rattle.partner.specs.Entry.{filled}
use Rattle.partner.specs.Legal as entry
use Rattle.partner.proofs.Naming.{filled_filled, filled_same}
use Rattle.partner.specs.Table.{Table, legal, put}
use Rattle.calls.specs.Words.{in_case◌then◌else◌}
use Rattle.calls.specs.Outcome.{Turn}
use Rattle.calls.specs.Calls.{Call, receive, about, load, After, refuse}
use Rattle.partner.specs.Table.{holding}
use Rattle.calls.specs.Calls.{entry_of}
use Rattle.calls.specs.Claims.{Carries, Slotwise}
use Rattle.calls.proofs.Tests.{by_test}
use Rattle.calls.proofs.Turns.{refusing}
use Rattle.calls.proofs.Slots.{row_put}
use Rattle.calls.proofs.Tables.{own_name, put_back, entry_held, held_legal, turned_after}
use Rattle.line.specs.Line.{◌∈◌, texts, counted, entry_for}
use Rattle.line.proofs.CardSlots.{row_find, entry_named, entry_unnamed}
use Rattle.line.proofs.CardTurn.{partner, Event, unsaid, event_keeps, event_to, event_as}

-- a text of ours to somebody else
pub record Away (us other x : Text) : Type 0 where
  pub to : Text
  pub body : Body
  pub is : Carries us to body x
  pub not_them : to ≢ other

pub data Local (name : Text) (top : Top) (us other : Text) (l : List Text) (t : Table) (y : After) (k : List ℕ)
    : Type 0 where
  elsewhere : entry_of other y.table ≡ entry_of other t
      → ((x : Text) → x ∈ texts y.outcome.reply → Away us other x) → k ≡ [] → Local name top us other l t y k
  here : (e : Entry) (x : Turn) → entry_of other t ≡ Some e → entry.legal e ≡ true
      → partner e ≡ other → is_name us ≡ true → Event us e (λ u. u ∈ l) x k
      → entry_of other y.table ≡ Some x.entry → y.outcome.reply ≡ x.outcome.reply
      → Local name top us other l t y k
  loads : entry_of other t ≡ None → entry_of other y.table ≡ Some (entry_for name top other)
      → y.outcome.reply ≡ [] → k ≡ [] → Local name top us other l t y k

-- a call that is refused accepts no count
counted_none : (other : Text) (c : Call) (n : ℕ) → eqb n 0 ≡ false → counted other c n ≡ []
unfolding counted in_case◌then◌else◌
counted_none other (receive room text) n h = rw h
counted_none other (about to a) n h = refl
counted_none other (load to key_name key) n h = refl

module _ (name : Text) (top : Top) (us other : Text) (l : List Text) (t : Table) where
  -- a refusal
  pub idle : (c : Call) (n : ℕ) → refusing n ≡ true → Local name top us other l t (refuse t n) (counted other c n)
  idle c n h =
      elsewhere refl (λ x i. unsaid [] x refl i)
      (counted_none other c n (not-true _ (and_true (not (eqb n 0)) _ h).0))

  module _ (ours : bare t.own ≡ us) (fine : legal t ≡ true) where
    pub us_named : is_name us ≡ true
    us_named = subst (λ (w : Text). is_name w ≡ true) ours (own_name t fine)

    -- another partner's slots do not matter
    pub other_stays : (id : Text) (m : List Entry) → is_name id ≡ true → id ≢ other
        → Slotwise (filled id) t.slots m → entry_of other (holding t m) ≡ entry_of other t
    other_stays id m named away r =
        by_test (is_name other)
        (λ q.
        entry_named other (holding t m) q
        ∙ row_find (filled id) (filled other) (filled_filled other q)
        (λ h. away (filled_same id other named q h)) r
        ∙ sym (entry_named other t q))
        (λ q. entry_unnamed other (holding t m) q ∙ sym (entry_unnamed other t q))

    -- a turn of one partner's entry
    pub entry_local : (c : Call) (id : Text) (e : Entry) (x : Turn) (k : List ℕ) → entry_of id t ≡ Some e
        → (entry.legal e ≡ true → partner e ≡ id → Event us e (λ u. id ≡ other → u ∈ l) x k)
        → (id ≡ other → counted other c x.outcome.answer ≡ k)
        → (id ≢ other → counted other c x.outcome.answer ≡ [])
        → Local name top us other l t (put_back t id x) (counted other c x.outcome.answer)
    entry_local c id e x k h ev same_count no_count =
        let n = entry_held t id e h in
        let lawful = held_legal t id e fine n in
        let v = ev lawful n.bare_identity in
        let after = holding t (put (filled id) x.entry t.slots) in
        by_test (same id other)
        (λ q.
        let io : id ≡ other = same_equal id other q in
        here e x (subst (λ (w : Text). entry_of w t ≡ Some e) io h) lawful (n.bare_identity ∙ io) us_named
        (subst (Event us e (λ u. u ∈ l) x) (sym (same_count io)) (event_as (λ u g. g io) v))
        (subst (λ (w : Text). entry_of w after ≡ Some x.entry) io
        (turned_after t id e x.entry n (event_keeps v).0)) refl)
        (λ q.
        let away : id ≢ other = same_differs id other q in
        let kept = ap (λ (y : Name). y.bytes) (event_keeps v).0 ∙ n.identity in
        elsewhere (other_stays id (put (filled id) x.entry t.slots) n.name away
        (row_put (filled id) t.slots x.entry kept))
        (λ y i.
        let p = event_to us_named lawful v y i in
        record { to = partner e; body = p.0; is = p.1; not_them = λ g. away (sym n.bare_identity ∙ g) })
        (no_count away))
