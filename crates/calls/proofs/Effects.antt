-- The way of every call, and all that it can do to a table.
use Rattle.std.specs.Prelude.{Option, Some}
use mathlib.Core.Path.{◌≡◌, refl, sym, subst}
use mathlib.Core.Bool.{true}
use mathlib.Core.List.{List, [], ◌∷◌}
use Prim.Native.Nat.{ℕ}
use borrow.Author.Tests.{not-false}
use Rattle.octets.specs.Text.{Text, is_name}
use Rattle.octets.specs.Part.{bare}
use Rattle.octets.proofs.Comparing.{both as and_true, same_equal as same_true}
use Rattle.keying.specs.declared.Top.{Top}
use Rattle.keying.specs.Keys.{odd_top}
use Rattle.csm.specs.Message.{Reading, read}
use Rattle.csm.proofs.MessageLaws.{read_back, legal_parts as reading_parts}
use Rattle.partner.specs.declared.Entry.{Entry}
use Rattle.partner.specs.Entry.{empty, filled, name_of}
use Rattle.partner.specs.Legal as partner
use Rattle.partner.specs.Changes.{loaded}
use Rattle.partner.proofs.Claims.{claims}
use Rattle.partner.specs.Table.{Table, legal, identities, differs, put, into_free_slot}
use Rattle.calls.specs.Outcome.{success, nothing, Turn}
use Rattle.calls.specs.Receive as by_class
use Rattle.calls.specs.Calls.{Act, build_ksm, build_rsi, give_up, remove, ask, Call, receive, about, load, After, refuse}
use Rattle.calls.specs.Calls.{after_load, entry_of, at_partner, receiving, loading}
use Rattle.partner.specs.Table.{holding}
use Rattle.calls.specs.Calls.{acting, perform, run}
use Rattle.calls.specs.Claims.{Answers, AnswersText, Sends, Writes, sender, subject}
use Rattle.calls.proofs.Tests.{by_case, by_part}
use Rattle.calls.proofs.Turns.{Does, does, stays, refusing, receive_does, build_ksm_does, build_rsi_does}
use Rattle.calls.proofs.Turns.{give_up_does}
use Rattle.calls.proofs.Identities.{Places, place_places}
use Rattle.calls.proofs.Tables.{own_name, put_back, Held, entry_held, held_legal}

-- a call is refused, or comes to its partner's entry, or loads one
pub data Walk (t : Table) : Call → After → Type 0 where
  stops : (c : Call) (n : ℕ) → refusing n ≡ true → Walk t c (refuse t n)
  receives : (room : ℕ) (text : Text) (r : Reading) (e : Entry) → legal t ≡ true → read text ≡ Some r
      → r.rcv ≡ bare t.own → entry_of r.org t ≡ Some e
      → Walk t (receive room text) (put_back t r.org (by_class.receive (bare t.own) e text r.body))
  acts : (id : Text) (a : Act) (e : Entry) → legal t ≡ true → entry_of id t ≡ Some e
      → Walk t (about id a) (put_back t id (acting (bare t.own) a e))
  places : (id name : Text) (top : Top) (m : List Entry) → legal t ≡ true → is_name id ≡ true
      → differs (filled id) (t.own ∷ identities t.slots) ≡ true → is_name name ≡ true → odd_top top ≡ true
      → into_free_slot (loaded (name_of id) (name_of name) top) t.slots ≡ Some m
      → Walk t (load id name top) (after_load t (Some m))

walk_in : (t : Table) → legal t ≡ true → (c : Call) → Walk t c (perform t c)
unfolding perform receiving at_partner loading
walk_in t l (receive room text) =
    by_case (Walk t (receive room text)) _ _ _ (λ _. stops _ 6 refl) λ _.
    by_part (read text) (λ q. rw q (stops _ 1 refl)) λ r q.
    rw q (by_case (Walk t (receive room text)) _ _ _ (λ _. stops _ 2 refl) λ u.
    by_part (entry_of r.org t) (λ k. rw k (stops _ 3 refl)) λ e k.
    rw k (receives room text r e l q (same_true _ _ (not-false _ u)) k))
walk_in t l (about id a) =
    by_case (Walk t (about id a)) _ _ _ (λ _. stops _ 6 refl) λ _.
    by_part (entry_of id t) (λ k. rw k (stops _ 3 refl)) λ e k. rw k (acts id a e l k)
walk_in t l (load id name top) =
    by_case (Walk t (load id name top)) _ _ _ (λ _. stops _ 10 refl) λ h.
    by_case (Walk t (load id name top)) _ _ _ (λ _. stops _ 12 refl) λ n.
    by_case (Walk t (load id name top)) _ _ _ (λ _. stops _ 11 refl) λ o.
    let i = and_true (is_name id) (differs (filled id) (t.own ∷ identities t.slots)) (not-false _ h) in
    by_part (into_free_slot (loaded (name_of id) (name_of name) top) t.slots) (λ q. rw q (stops _ 9 refl)) λ m q.
    rw q (places id name top m l i.0 i.1 (not-false _ n) (not-false _ o) q)

pub run_walk : (t : Table) (c : Call) → Walk t c (run t c)
unfolding run
run_walk t c = by_case (Walk t c) _ _ _ (λ l. walk_in t l c) (λ _. stops c 13 refl)

pub data Effect (t : Table) (id : Text) (R : Text → Type 0) : After → Type 0 where
  refuses : (n : ℕ) → refusing n ≡ true → Effect t id R (refuse t n)
  turns : (e : Entry) (r : Turn) → legal t ≡ true → Held t id e → Does (bare t.own) e R r
      → Effect t id R (put_back t id r)
  loads : (e : Entry) (m : List Entry) → legal t ≡ true → Places e t.slots m → e.identity.bytes ≡ filled id
      → partner.legal e ≡ true → differs (filled id) (t.own ∷ identities t.slots) ≡ true → R []
      → Effect t id R (record { outcome = success [] nothing; table = holding t m })
  empties : (e : Entry) → legal t ≡ true → Held t id e → R []
      → Effect t id R (record { outcome = success [] nothing; table = holding t (put (filled id) empty t.slots) })

module _ (t : Table) where
  -- a turn of the entry is one of those
  turned : (id : Text) (R : Text → Text → Type 0) (e : Entry) (r : Turn) → legal t ≡ true → entry_of id t ≡ Some e
      → (partner.legal e ≡ true → Does (bare t.own) e (R (bare e.identity.bytes)) r)
      → Effect t id (R id) (put_back t id r)
  turned id R e r l q h =
      let k = entry_held t id e q in
      turns e r l k (subst (λ (n : Text). Does (bare t.own) e (R n) r) k.bare_identity
      (h (held_legal t id e l k)))

  effect_of : {c : Call} {a : After} → Walk t c a → Effect t (subject c) (Writes (bare t.own) c) a
  unfolding subject loaded
  effect_of (stops c n k) = refuses n k
  effect_of (receives room text r e l q u k) =
      let us = bare t.own in
      let x = by_class.receive us e text r.body in
      subst (λ (o : Option Reading). Effect t (sender o) (AnswersText us o) (put_back t r.org x)) (sym q)
      (turned r.org (λ them. Answers (bare t.own) them r.body) e x l k (λ p.
      receive_does (bare t.own) e (own_name t l) p text r.body (reading_parts r (read_back text r q).0).body))
  effect_of (acts id (build_ksm room q) e l k) =
      turned id (λ them. Sends (bare t.own) them (build_ksm room q)) e _ l k
      (λ p. build_ksm_does (bare t.own) e (own_name t l) p q)
  effect_of (acts id (build_rsi room contents) e l k) =
      turned id (λ them. Sends (bare t.own) them (build_rsi room contents)) e _ l k
      (λ p. build_rsi_does (bare t.own) e (own_name t l) p contents)
  effect_of (acts id give_up e l k) = turned id (λ them s. s ≡ []) e _ l k (λ p. give_up_does (bare t.own) e)
  effect_of (acts id remove e l k) = empties e l (entry_held t id e k) refl
  effect_of (acts id ask e l k) = turned id (λ them s. s ≡ []) e _ l k (λ p. does e [] _ stays refl)
  effect_of (places id name top m l i d n o q) =
      let x = loaded (name_of id) (name_of name) top in
      loads x m l (place_places x t.slots m q) refl
      (claims.loaded_is_legal (name_of id) (name_of name) top (claims.filled_is_filled id i)
      (claims.filled_is_filled name n) o) d refl

  pub run_effect : (c : Call) → Effect t (subject c) (Writes (bare t.own) c) (run t c)
  run_effect c = effect_of (run_walk t c)
