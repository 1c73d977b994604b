-- The claims of specs/Refusals.antt, proved: each call is walked in its order.
use Rattle.std.specs.Prelude.{None, Some}
use mathlib.Core.Path.{◌≡◌, refl, sym, ap, ◌∙◌, subst}
use mathlib.Core.Bool.{Bool, true, false, not}
use mathlib.Core.List.Memᴰ
use mathlib.Core.List.{List, ◌∷◌, ◌++◌, Memᴰ, []}
use mathlib.Core.Logic.{◌⊎◌, inl, inr, ⊎_elim}
use Prim.Native.Nat.{ℕ, zero, suc, ◌≤◌}
use borrow.Author.Tests.{le-ltb, lt-ltb, not-false, not-true}
use Rattle.octets.specs.Text.{Text, same, is_name}
use Rattle.octets.specs.Part.{bare}
use Rattle.octets.proofs.Comparing.{both as and_true, differs_same, same_differs, same_self as same_refl}
use Rattle.octets.specs.First.{Order, first}
use Rattle.octets.proofs.Firsts.{stays}
use Rattle.keying.specs.declared.Top.{Top}
use Rattle.keying.specs.declared.Top.TheVariants.{Single, Pair}
use Rattle.keying.specs.Keys.{odd_top}
use Rattle.csm.proofs.TextLaws.{none_some}
use Rattle.csm.specs.Message.{Reading, read}
use Rattle.partner.specs.declared.Entry.{Entry}
use Rattle.partner.specs.Entry.{filled, name_of, top_of, empty}
use Rattle.partner.specs.Changes.{loaded}
use Rattle.partner.proofs.Claims.{claims}
use Rattle.partner.proofs.Ruling.{not_0}
use Rattle.partner.specs.Table.{Table, legal, is_empty, identities, differs, find, put, into_free_slot, holding, empties}
use Rattle.calls.specs.Words.{in_case◌then◌else◌}
use Rattle.calls.specs.Outcome.{success, nothing, refusal}
use Rattle.calls.specs.Calls.{Call, receive, about, build_ksm, build_rsi, give_up, load, remove, ask, refuse, start}
use Rattle.calls.specs.Calls.{entry_of, at_partner, bad_identity, loading, after_load}
use Rattle.calls.specs.Calls.{perform, run}
use Rattle.calls.specs.Good.{GoodIdentity}
use Rattle.calls.specs.Orders.{by_class, at_entry, in_order, order}
use Rattle.calls.specs.Refusals.{InUse, Empty, Loads, Refusals}
use Rattle.calls.proofs.Tests.{if_true, if_false, by_test, not_failing}
use Rattle.calls.proofs.Turns.{refusing, refusing_not_0, refusing_not_4}
use Rattle.calls.proofs.Claims as call
use Rattle.calls.proofs.Orders.{orders}
use Rattle.calls.proofs.Slots.{empty_is, put_found}
use Rattle.calls.proofs.Identities.{find_none}
use Rattle.calls.proofs.Tables.{entry_held, emptied_after}

-- ---- a call is refused by its order

pub is_refused : (t : Table) (c : Call) (n : ℕ) → refusing n ≡ true → first (order t c) ≡ n → run t c ≡ refuse t n
is_refused t c n k p =
    let i = orders.answer_is_the_first t c ∙ p in
    let z : (run t c).outcome.answer ≡ 0 → ⊥ = λ q. refusing_not_0 n k (sym i ∙ q) in
    λ j. record {
      outcome = ((call.claims).refusals_are_bare t c z (λ q. refusing_not_4 n k (sym i ∙ q)) ∙ ap refusal i) j;
      table = (call.claims).unless_done_nothing_changes t c z j;
    }

-- 6, and what follows it does not matter
cramped : (t : Table) (c : Call) (b : Bool) (rest : Order) → in_order t c ≡ (b, 6) ∷ rest → legal t ≡ true → b ≡ true
    → run t c ≡ refuse t 6
cramped t c b rest p l h = is_refused t c 6 refl (rw (l, p, h) (stays 6 rest (not_0 6 refl)))

module _ (t : Table) (room : ℕ) (text : Text) (l : legal t ≡ true) (e : 256 ≤ room) (r : Reading)
    (h : read text ≡ Some r) where
  not_for_us : (r.rcv ≡ bare t.own → ⊥) → run t (receive room text) ≡ refuse t 2
  not_for_us n =
      is_refused t (receive room text) 2 refl
      (rw (l, le-ltb room 256 e, h, differs_same r.rcv (bare t.own) n)
      (stays 2 (at_entry (entry_of r.org t) (λ e. by_class (bare t.own) e text r.body)) (not_0 2 refl)))

  no_sender : r.rcv ≡ bare t.own → entry_of r.org t ≡ None → run t (receive room text) ≡ refuse t 3
  no_sender p n =
      let s = ap (λ (w : Text). same w (bare t.own)) p ∙ same_refl (bare t.own) in
      is_refused t (receive room text) 3 refl (rw (l, le-ltb room 256 e, h, s, n))

-- ---- build an RSI, remove, ask

-- a turn that leaves the entry leaves the table
pub same_table : (t : Table) (id : Text) (e : Entry) → entry_of id t ≡ Some e
    → holding t (put (filled id) e t.slots) ≡ t
same_table t id e k = λ j. record {
  own = t.own;
  slots = put_found (filled id) t.slots e (entry_held t id e k).found j;
}

gone : (t : Table) (id : Text) (e : Entry) → legal t ≡ true → entry_of id t ≡ Some e
    → ((run t (about id remove)).outcome ≡ success [] nothing) × (entry_of id (run t (about id remove)).table ≡ None)
unfolding run perform at_partner in_case◌then◌else◌
gone t id e l k = rw (l, k) (refl, emptied_after t id e l (entry_held t id e k))

is_found : (t : Table) (id : Text) (e : Entry) → legal t ≡ true → entry_of id t ≡ Some e
    → run t (about id ask) ≡ record { outcome = success [] nothing; table = t }
unfolding run perform at_partner in_case◌then◌else◌
is_found t id e l k =
    rw (l, k) (ap (λ (u : Table). record { outcome = success [] nothing; table = u }) (same_table t id e k))

-- ---- load

-- an identity is not found exactly where all differ from it
found_differs : (id : Text) (l : List Entry) → find id l ≡ None → differs id (identities l) ≡ true
found_differs id [] h = refl
found_differs id (e ∷ l) h =
    by_test (same e.identity.bytes id)
    (λ s. let i : Some e ≡ None = rw s at h in absurd (none_some e (sym i)))
    (λ s. let d = found_differs id l (rw s at h) in by_test (is_empty e) (λ q. rw q d) (λ q. rw (q, s) d))

good_identity : (t : Table) (id : Text) → GoodIdentity t id → bad_identity t id ≡ false
good_identity t id g =
    let n = sym (if_true (is_name id) _ _ g.formed) ∙ g.not_taken in
    rw (g.formed, differs_same t.own (filled id) (λ p. g.not_ours (sym p)), found_differs (filled id) t.slots n)

identity_good : (t : Table) (id : Text) → bad_identity t id ≡ false → GoodIdentity t id
identity_good t id h =
    let a = and_true (is_name id) (differs (filled id) (t.own ∷ identities t.slots)) (not-false _ h) in
    let b = and_true (not (same t.own (filled id))) (differs (filled id) (identities t.slots)) a.1 in
    record {
      formed = a.0;
      not_ours = λ p. same_differs t.own (filled id) (not-true _ b.0) (sym p);
      not_taken =
          if_true (is_name id) _ _ a.0
          ∙ find_none (filled id) (claims.filled_is_filled id a.0) t.slots b.1;
    }

-- where each slot is in use, none is free; else the lowest is taken
none_free : (x : Entry) (l : List Entry) → InUse l → into_free_slot x l ≡ None
none_free x [] h = refl
none_free x (e ∷ l) h = rw (h e (Memᴰ.head refl), none_free x l (λ f i. h f (Memᴰ.tail i)))

record Lowest (x : Entry) (l : List Entry) : Type 0 where
  before : List Entry
  free : Entry
  after : List Entry
  slots : l ≡ before ++ (free ∷ after)
  in_use : InUse before
  is_free : is_empty free ≡ true
  placed : into_free_slot x l ≡ Some (before ++ (x ∷ after))

used_more : (e : Entry) (l : List Entry) → is_empty e ≡ false → InUse l → InUse (e ∷ l)
used_more e l p h f i =
    ⊎_elim (λ (q : f ≡ e). rw q p) (λ (j : Memᴰ f l). h f j) (Memᴰ.cases_cons i)

lowest : (x : Entry) (l : List Entry) → InUse l ⊎ Lowest x l
lowest x [] = inl (λ e i. absurd (Memᴰ.not-nil i))
lowest x (e ∷ l) = go (is_empty e) refl (lowest x l)
  where
    go : (b : Bool) → is_empty e ≡ b → InUse l ⊎ Lowest x l → InUse (e ∷ l) ⊎ Lowest x (e ∷ l)
    go true p o = inr (record {
      before = [];
      free = e;
      after = l;
      slots = refl;
      in_use = λ f i. absurd (Memᴰ.not-nil i);
      is_free = p;
      placed = rw p;
    })
    go false p (inl h) = inl (used_more e l p h)
    go false p (inr w) = inr (record {
      before = e ∷ w.before;
      free = w.free;
      after = w.after;
      slots = ap (λ (k : List Entry). e ∷ k) w.slots;
      in_use = used_more e w.before p w.in_use;
      is_free = w.is_free;
      placed = rw (p, w.placed);
    })

module _ (t : Table) (id name : Text) (top : Top) (l : legal t ≡ true) where
  is_10 : (GoodIdentity t id → ⊥) → run t (load id name top) ≡ refuse t 10
  is_10 n =
      is_refused t (load id name top) 10 refl (rw (l, not_failing (bad_identity t id) (λ p. n (identity_good t id p))))

  module _ (g : GoodIdentity t id) where
    is_12 : is_name name ≡ false → run t (load id name top) ≡ refuse t 12
    is_12 n = is_refused t (load id name top) 12 refl (rw (l, good_identity t id g, n))

    module _ (n : is_name name ≡ true) where
      is_11 : odd_top top ≡ false → run t (load id name top) ≡ refuse t 11
      is_11 o = is_refused t (load id name top) 11 refl (rw (l, good_identity t id g, n, o))

      module _ (o : odd_top top ≡ true) where
        is_9 : InUse t.slots → run t (load id name top) ≡ refuse t 9
        is_9 f =
            is_refused t (load id name top) 9 refl
            (rw (l, good_identity t id g, n, o, none_free (loaded (name_of id) (name_of name) top) t.slots f))

        place_way : run t (load id name top) ≡ after_load t (into_free_slot (loaded (name_of id) (name_of name) top) t.slots)
        unfolding run perform loading in_case◌then◌else◌
        place_way = rw (l, good_identity t id g, n, o)

        top_back : (k : Top) → top_of (loaded (name_of id) (name_of name) k).top ≡ k
        unfolding loaded top_of
        top_back (Single key) = refl
        top_back (Pair left right) = refl

        is_0 : (InUse t.slots → ⊥) → Loads id name top t (run t (load id name top))
        unfolding loaded
        is_0 f = go (lowest (loaded (name_of id) (name_of name) top) t.slots)
          where
            go : InUse t.slots ⊎ Lowest (loaded (name_of id) (name_of name) top) t.slots → Loads id name top t (run t (load id name top))
            go (inl h) = absurd (f h)
            go (inr w) = subst (Loads id name top t) (sym (place_way ∙ ap (after_load t) w.placed)) (record {
              done = refl;
              before = w.before;
              free = w.free;
              behind = w.after;
              slots = w.slots;
              lowest = w.in_use;
              is_free = w.is_free;
              entry = loaded (name_of id) (name_of name) top;
              slots_now = refl;
              identity = refl;
              key_name = refl;
              key = top_back top;
              next = refl;
              expected = refl;
              phase = refl;
              outgoing = refl;
              incoming = refl;
            })

-- ---- start

empties_empty : (n : ℕ) → Empty (empties n)
unfolding empties
empties_empty zero e i = absurd (Memᴰ.not-nil i)
empties_empty (suc n) e i =
    ⊎_elim (λ (q : e ≡ empty). rw q empty_is) (λ (j : Memᴰ e (empties n)). empties_empty n e j)
    (Memᴰ.cases_cons i)

pub refusals : Refusals
unfolding perform start empties
refusals = record {
  illegal_is_13 = λ t c h. is_refused t c 13 refl (rw h (stays 13 (in_order t c) (not_0 13 refl)));
  no_room_to_receive = λ t room text l h. cramped t (receive room text) _ _ refl l (lt-ltb room 256 h);
  no_room_to_build = λ t room id q l h. cramped t (about id (build_ksm room q)) _ _ refl l (lt-ltb room 256 h);
  no_room_to_ask_for_service = λ t room id contents l h.
      cramped t (about id (build_rsi room contents)) _ _ refl l (lt-ltb room 256 h);
  no_message_is_1 = λ t room text l r h. is_refused t (receive room text) 1 refl (rw (l, le-ltb room 256 r, h));
  not_for_us_is_2 = λ t room text r l e. not_for_us t room text l e r;
  no_sender_is_3 = λ t room text r l e. no_sender t room text l e r;
  nobody_to_build_for = λ t room id q l r n.
      is_refused t (about id (build_ksm room q)) 3 refl (rw (l, le-ltb room 256 r, n));
  nobody_to_ask_for_service = λ t room id contents l r n.
      is_refused t (about id (build_rsi room contents)) 3 refl (rw (l, le-ltb room 256 r, n));
  nobody_to_give_up = λ t id l n. is_refused t (about id give_up) 3 refl (rw (l, n));
  nobody_to_remove = λ t id l n. is_refused t (about id remove) 3 refl (rw (l, n));
  nobody_to_show = λ t id l n. is_refused t (about id ask) 3 refl (rw (l, n));
  no_service_is_12 = λ t room id contents e l r k h.
      is_refused t (about id (build_rsi room contents)) 12 refl (rw (l, le-ltb room 256 r, k, h));
  removed_is_gone = gone;
  asked_is_found = is_found;
  bad_identity_is_10 = is_10;
  bad_name_is_12 = is_12;
  even_top_is_11 = is_11;
  full_is_9 = is_9;
  else_loaded = is_0;
  bad_start_is_none = λ own h. if_false (is_name own) _ _ h;
  else_started = λ own h. (
    record { own = filled own; slots = empties 64 },
    if_true (is_name own) _ _ h,
    record { identity = refl; size = refl; all_empty = empties_empty 64 },
  );
}
