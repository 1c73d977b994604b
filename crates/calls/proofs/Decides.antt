-- One entry decides: in two tables that agree on it and on our identity a call does the same.
use Rattle.std.specs.Prelude.{Option, None, Some}
use mathlib.Core.Path.{◌≡◌, refl, sym, ◌∙◌, subst}
use mathlib.Core.Bool.{Bool, true, false, not}
use mathlib.Core.List.{List}
use Prim.Native.Nat.{ℕ}
use Rattle.octets.specs.Text.{Text, same}
use Rattle.octets.specs.Part.{bare}
use Rattle.csm.specs.Message.{Reading, read}
use Rattle.csm.proofs.MessageLaws.{read_back, legal_parts as reading_parts}
use Rattle.partner.specs.declared.Entry.{Entry}
use Rattle.partner.specs.Legal as partner
use Rattle.partner.specs.Table.{Table, legal}
use Rattle.calls.specs.Words.{in_case◌then◌else◌}
use Rattle.calls.specs.Outcome.{Turn}
use Rattle.calls.specs.Calls.{Act, build_ksm, build_rsi, give_up, remove, ask, Call, receive, about, load, After, refuse}
use Rattle.calls.specs.Calls.{entry_of, after_turn, at_partner, receiving, emptied, short, no_room, acting, perform, run}
use Rattle.partner.specs.Table.{holding}
use Rattle.calls.specs.Claims.{sender, subject, OfOneEntry}
use Rattle.calls.proofs.Tests.{by_part}
use Rattle.calls.proofs.Turns.{Does, does_change, change_identity, receive_does, build_ksm_does}
use Rattle.calls.proofs.Turns.{build_rsi_does, give_up_does}
use Rattle.calls.proofs.Tables.{own_name, Held, entry_held, held_legal}
use Rattle.calls.proofs.Tables.{turned_after, emptied_after}

-- two calls alike: the same outcome, and the same entry for the partner afterwards
abbrev pub Alike : Text → After → After → Type 0
Alike id a b = (a.outcome ≡ b.outcome) × (entry_of id a.table ≡ entry_of id b.table)

-- a turn that keeps a legal entry's identity
abbrev Keeping : (Entry → Turn) → Type 0
Keeping f = (e : Entry) → partner.legal e ≡ true → (f e).entry.identity ≡ e.identity

does_keeping : {us : Text} {e : Entry} {R : Text → Type 0} (r : Turn) → Does us e R r → r.entry.identity ≡ e.identity
does_keeping {e = e} r d = change_identity e r.entry (does_change r d)

module _ (t : Table) (s : List Entry) (lawful : legal t ≡ true) (lawful' : legal (holding t s) ≡ true) where
  module _ (id : Text) (same_entry : entry_of id t ≡ entry_of id (holding t s)) where
    alike_if : (b : Bool) (x y : After) (n : ℕ) → Alike id x y
        → Alike id (in_case b then refuse t n else x) (in_case b then refuse (holding t s) n else y)
    unfolding in_case◌then◌else◌
    alike_if true x y n h = (refl, same_entry)
    alike_if false x y n h = h

    -- both tables have the entry, or neither has
    alike_found : (f : Entry → Turn)
        → ((e : Entry) → Held t id e → Held (holding t s) id e
        → Alike id (after_turn t id f (Some e)) (after_turn (holding t s) id f (Some e)))
        → Alike id (at_partner t id f) (at_partner (holding t s) id f)
    unfolding at_partner
    alike_found f k =
        by_part (entry_of id t) (λ q. rw (q, sym same_entry ∙ q) (refl, cc))
        (λ e q. let r = sym same_entry ∙ q in
        rw (q, r) (k e (entry_held t id e q) (entry_held (holding t s) id e r)))

    alike_partner : (f : Entry → Turn) → Keeping f → Alike id (at_partner t id f) (at_partner (holding t s) id f)
    alike_partner f k =
        alike_found f (λ e h h'. let i = k e (held_legal t id e lawful h) in
        (refl, turned_after t id e (f e).entry h i ∙ sym (turned_after (holding t s) id e (f e).entry h' i)))

    alike_remove : Alike id (at_partner t id emptied) (at_partner (holding t s) id emptied)
    alike_remove =
        alike_found emptied
        (λ e h h'. (refl, emptied_after t id e lawful h ∙ sym (emptied_after (holding t s) id e lawful' h')))

  alike_receive : (text : Text) (o : Option Reading) → read text ≡ o
      → entry_of (sender o) t ≡ entry_of (sender o) (holding t s)
      → Alike (sender o) (receiving t text o) (receiving (holding t s) text o)
  unfolding receiving
  alike_receive text None q h = (refl, h)
  alike_receive text (Some r) q h =
      alike_if r.org h (not (same r.rcv (bare t.own))) _ _ 2
      (alike_partner r.org h _ (λ e l. does_keeping _
      (receive_does (bare t.own) e (own_name t lawful) l text r.body
      (reading_parts r (read_back text r q).0).body)))

  alike_act : (a : Act) (id : Text) → entry_of id t ≡ entry_of id (holding t s)
      → Alike id (at_partner t id (acting (bare t.own) a)) (at_partner (holding t s) id (acting (bare t.own) a))
  alike_act (build_ksm room q) id h =
      alike_partner id h _ (λ e l. does_keeping _ (build_ksm_does (bare t.own) e (own_name t lawful) l q))
  alike_act (build_rsi room svr) id h =
      alike_partner id h _ (λ e l. does_keeping _ (build_rsi_does (bare t.own) e (own_name t lawful) l svr))
  alike_act give_up id h = alike_partner id h _ (λ e l. does_keeping _ (give_up_does (bare t.own) e))
  alike_act remove id h = alike_remove id h
  alike_act ask id h = alike_partner id h _ (λ e l. refl)

  alike_perform : (c : Call) → OfOneEntry c → entry_of (subject c) t ≡ entry_of (subject c) (holding t s)
      → Alike (subject c) (perform t c) (perform (holding t s) c)
  unfolding perform subject
  alike_perform (receive room text) o h =
      alike_if (sender (read text)) h (short room) _ _ 6 (alike_receive text (read text) refl h)
  alike_perform (about id a) o h = alike_if id h (no_room a) _ _ 6 (alike_act a id h)
  alike_perform (load id name top) o h = absurd o

  alike_run : (c : Call) → OfOneEntry c → entry_of (subject c) t ≡ entry_of (subject c) (holding t s)
      → Alike (subject c) (run t c) (run (holding t s) c)
  unfolding run in_case◌then◌else◌
  alike_run c o h = rw (lawful, lawful') (alike_perform c o h)

pub alike : (t u : Table) (c : Call) → OfOneEntry c → legal t ≡ true → legal u ≡ true → t.own ≡ u.own
    → entry_of (subject c) t ≡ entry_of (subject c) u → Alike (subject c) (run t c) (run u c)
alike t u c o a b w h =
    let p : holding t u.slots ≡ u = λ j. record { own = w j; slots = u.slots } in
    subst (λ (x : Table). legal x ≡ true → entry_of (subject c) t ≡ entry_of (subject c) x
    → Alike (subject c) (run t c) (run x c)) p (λ b h. alike_run t u.slots a b c o h) b h
