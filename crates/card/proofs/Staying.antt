-- What a call leaves in a legal table: entries whose fields fit their types, and an image of the same length.
use Rattle.std.specs.Prelude.{Option, None, Some}
use mathlib.Core.Path.{◌≡◌, refl, sym, ap, ◌∙◌, subst}
use mathlib.Core.Bool.{Bool, true, false, cond}
use mathlib.Core.List.{List, [], ◌∷◌, ◌++◌}
use Prim.Native.Nat.{ℕ, suc, ◌+◌}
use native.Mathlib.Omega.{arith}
use lib.ListN.{length, length-append}
use borrow.Author.Tests.{not-false}
use Rattle.octets.specs.Text.{Text, same, is_name}
use Rattle.octets.specs.Part.{bare, all_octets}
use Rattle.octets.proofs.Comparing.{both}
use Rattle.csm.specs.Message.{Reading, read}
use Rattle.csm.proofs.TextLaws.{none_some, some_inj}
use Rattle.keying.specs.declared.Top.{Top}
use Rattle.partner.specs.declared.Entry.{Entry}
use Rattle.partner.specs.Entry.{filled, name_of}
use Rattle.partner.specs.Changes.{loaded}
use Rattle.partner.specs.Held.{Held}
use Rattle.partner.specs.Legal as partner
use Rattle.partner.proofs.Holding.{held_name_of, held_loaded}
use Rattle.partner.specs.Table.{Table, AllHeld, legal, is_empty, find, put, into_free_slot, behind}
use Rattle.partner.proofs.Claims as entries
use Rattle.image.specs.Image.{partner_size, decode, encode, slot_bytes, slots_bytes}
use Rattle.image.proofs.Entries.{empty_held, legal_full}
use Rattle.image.proofs.Claims.{claims}
use Rattle.calls.specs.Outcome.{Turn}
use Rattle.calls.specs.Calls.{Act, build_ksm, build_rsi, give_up, remove, ask, Call, receive, about, load, After}
use Rattle.calls.specs.Calls.{entry_of, after_turn, at_partner, receiving, after_load, loading, emptied, unturned}
use Rattle.calls.specs.Calls.{acting, perform, run}
use Rattle.calls.proofs.Tests.{by_case}
use Rattle.calls.proofs.Tables.{own_name, entry_held, held_legal}
use Rattle.card.specs.Claims.{ActOf64Bits, Of64Bits, ActInPlace, InPlace}
use Rattle.card.proofs.Fitting.{name_octets, Keeps, receive_keeps, build_ksm_keeps, build_rsi_keeps}
use Rattle.card.proofs.Fitting.{give_up_keeps}
use Rattle.card.proofs.Tables.{lawful_table, encode_is}

-- ---- rows

pub find_held : (id : Text) (slots : List Entry) (e : Entry) → AllHeld slots → find id slots ≡ Some e → Held e
find_held id [] e h q = absurd (none_some _ q)
find_held id (f ∷ slots) e (k, h) q = go (same f.identity.bytes id) (λ r. find_held id slots e h r) q
  where
    go : (b : Bool) → (find id slots ≡ Some e → Held e) → cond b (Some f) (find id slots) ≡ Some e → Held e
    go true r q = subst Held (some_inj q) k
    go false r q = r q

put_held : (id : Text) (x : Entry) (slots : List Entry) → Held x → AllHeld slots → AllHeld (put id x slots)
put_held id x [] k h = h
put_held id x (e ∷ slots) k (j, h) = go (same e.identity.bytes id) (put_held id x slots k h)
  where
    go : (b : Bool) → AllHeld (put id x slots) → AllHeld (cond b (x ∷ slots) (e ∷ put id x slots))
    go true r = (k, h)
    go false r = (j, r)

place_held : (x : Entry) (slots m : List Entry) → Held x → AllHeld slots → into_free_slot x slots ≡ Some m → AllHeld m
place_held x [] m k h q = absurd (none_some _ q)
place_held x (e ∷ slots) m k (j, h) q =
    go (is_empty e) (into_free_slot x slots) (λ n r. place_held x slots n k h r) q
  where
    go : (b : Bool) (o : Option (List Entry)) → ((n : List Entry) → o ≡ Some n → AllHeld n)
        → cond b (Some (x ∷ slots)) (behind e o) ≡ Some m → AllHeld m
    go true o r q = subst AllHeld (some_inj q) (k, h)
    go false None r q = absurd (none_some _ q)
    go false (Some n) r q = subst AllHeld (some_inj q) (j, r n refl)

-- ---- tables

abbrev Holds : After → Type 0
Holds a = AllHeld a.table.slots

module _ (t : Table) (lawful : legal t ≡ true) (all : AllHeld t.slots) where
  partner_holds : (id : Text) (turn : Entry → Turn)
      → ((e : Entry) → partner.legal e ≡ true → Held e → Held (turn e).entry) → Holds (at_partner t id turn)
  unfolding at_partner
  partner_holds id turn keeps = go (entry_of id t) refl
    where
      go : (o : Option Entry) → entry_of id t ≡ o → Holds (after_turn t id turn o)
      go None q = all
      go (Some e) q =
          let k = entry_held t id e q in
          put_held (filled id) (turn e).entry t.slots
          (keeps e (held_legal t id e lawful k) (find_held (filled id) t.slots e all k.found)) all

  receive_holds : (text : Text) (o : Option Reading) → read text ≡ o → Holds (receiving t text o)
  unfolding receiving
  receive_holds text None q = all
  receive_holds text (Some r) q =
      by_case Holds _ _ _ (λ _. all) λ _.
      partner_holds r.org _ (λ e l k. (receive_keeps (bare t.own) (own_name t lawful) e l k text r q).held)

  load_holds : (id name : Text) (top : Top) → Of64Bits (load id name top) → Holds (loading t id name top)
  unfolding loading
  load_holds id name top f =
      by_case Holds _ _ _ (λ _. all) λ i. by_case Holds _ _ _ (λ _. all) λ n. by_case Holds _ _ _ (λ _. all) λ _.
      go (both (is_name id) _ (not-false _ i)).0 (not-false _ n)
      (into_free_slot (loaded (name_of id) (name_of name) top) t.slots) refl
    where
      go : is_name id ≡ true → is_name name ≡ true → (o : Option (List Entry))
          → into_free_slot (loaded (name_of id) (name_of name) top) t.slots ≡ o → Holds (after_load t o)
      go i n None q = all
      go i n (Some m) q =
          place_held (loaded (name_of id) (name_of name) top) t.slots m
          (held_loaded (name_of id) (name_of name) top (held_name_of id (name_octets id i))
          (held_name_of name (name_octets name n)) f.0 f.1) all q

  act_holds : (a : Act) (id : Text) → ActOf64Bits a → Holds (at_partner t id (acting (bare t.own) a))
  act_holds (build_ksm room q) id f =
      partner_holds id _ (λ e l k. (build_ksm_keeps (bare t.own) (own_name t lawful) e l k q f).held)
  act_holds (build_rsi room contents) id f =
      partner_holds id _ (λ e l k. (build_rsi_keeps (bare t.own) (own_name t lawful) e l k contents).held)
  act_holds give_up id f =
      partner_holds id _ (λ e l k. (give_up_keeps (bare t.own) (own_name t lawful) e l k).held)
  act_holds remove id f = partner_holds id emptied (λ e l k. empty_held)
  act_holds ask id f = partner_holds id unturned (λ e l k. k)

  perform_holds : (c : Call) → Of64Bits c → Holds (perform t c)
  unfolding perform
  perform_holds (receive room text) f = by_case Holds _ _ _ (λ _. all) (λ _. receive_holds text (read text) refl)
  perform_holds (about id a) f = by_case Holds _ _ _ (λ _. all) (λ _. act_holds a id f)
  perform_holds (load id name top) f = load_holds id name top f

  -- every entry of the table after a call fits its types
  pub run_holds : (c : Call) → Of64Bits c → Holds (run t c)
  unfolding run
  run_holds c f = by_case Holds _ _ _ (λ _. perform_holds c f) (λ _. all)

-- ---- lengths

-- where a record is put in place of one that is as long, the slots' records are as long as they were
put_long : (id : Text) (f : Entry) (slots : List Entry) (e : Entry) → find id slots ≡ Some e
    → length (slot_bytes f) ≡ length (slot_bytes e) → length (slots_bytes (put id f slots)) ≡ length (slots_bytes slots)
put_long id f [] e q h = absurd (none_some _ q)
put_long id f (g ∷ slots) e q h = go (same g.identity.bytes id) q (put_long id f slots e)
  where
    go : (b : Bool) → cond b (Some g) (find id slots) ≡ Some e
        → (find id slots ≡ Some e → length (slot_bytes f) ≡ length (slot_bytes e)
        → length (slots_bytes (put id f slots)) ≡ length (slots_bytes slots))
        → length (slots_bytes (cond b (f ∷ slots) (g ∷ put id f slots))) ≡ length (slot_bytes g ++ slots_bytes slots)
    go true q r =
        let i : g ≡ e = some_inj q in
        length-append (slot_bytes f) (slots_bytes slots)
        ∙ ap (λ (n : ℕ). n + length (slots_bytes slots)) (h ∙ ap (λ (x : Entry). length (slot_bytes x)) (sym i))
        ∙ sym (length-append (slot_bytes g) (slots_bytes slots))
    go false q r =
        length-append (slot_bytes g) (slots_bytes (put id f slots))
        ∙ ap (λ (n : ℕ). length (slot_bytes g) + n) (r q h) ∙ sym (length-append (slot_bytes g) (slots_bytes slots))

-- a legal entry's record with its kind
partner_record : (e : Entry) → partner.legal e ≡ true → Held e → length (slot_bytes e) ≡ partner_size
unfolding slot_bytes
partner_record e l h = rw (legal_full e l) (omega (arith, (entries.claims).record_has_156_bytes e h))

module _ (image : Text) (t : Table) (d : decode image ≡ Some t) (octets : all_octets image ≡ true) where
  abbrev AsLong : After → Type 0
  AsLong a = length (encode a.table) ≡ length image

  unchanged : length (encode t) ≡ length image
  unchanged = ap length (encode_is image t d)

  partner_long : (id : Text) (turn : Entry → Turn)
      → ((e : Entry) → partner.legal e ≡ true → Held e → Keeps e (turn e).entry) → AsLong (at_partner t id turn)
  unfolding at_partner encode
  partner_long id turn keeps = go (entry_of id t) refl
    where
      go : (o : Option Entry) → entry_of id t ≡ o → AsLong (after_turn t id turn o)
      go None q = unchanged
      go (Some e) q =
          let k = entry_held t id e q in
          let l = held_legal t id e (lawful_table image t d) k in
          let h = find_held (filled id) t.slots e (claims.read_is_held image t octets d) k.found in
          let f = keeps e l h in
          let n = put_long (filled id) (turn e).entry t.slots e k.found
          (partner_record (turn e).entry f.lawful f.held ∙ sym (partner_record e l h)) in
          ap suc (length-append t.own (slots_bytes (put (filled id) (turn e).entry t.slots))
          ∙ ap (λ (m : ℕ). length t.own + m) n ∙ sym (length-append t.own (slots_bytes t.slots))) ∙ unchanged

  own : is_name (bare t.own) ≡ true
  own = own_name t (lawful_table image t d)

  receive_long : (text : Text) (o : Option Reading) → read text ≡ o → AsLong (receiving t text o)
  unfolding receiving
  receive_long text None q = unchanged
  receive_long text (Some r) q =
      by_case AsLong _ _ _ (λ _. unchanged) λ _.
      partner_long r.org _ (λ e l k. receive_keeps (bare t.own) own e l k text r q)

  act_long : (a : Act) (id : Text) → ActOf64Bits a → ActInPlace a
      → AsLong (at_partner t id (acting (bare t.own) a))
  act_long (build_ksm room q) id f p = partner_long id _ (λ e l k. build_ksm_keeps (bare t.own) own e l k q f)
  act_long (build_rsi room contents) id f p =
      partner_long id _ (λ e l k. build_rsi_keeps (bare t.own) own e l k contents)
  act_long give_up id f p = partner_long id _ (λ e l k. give_up_keeps (bare t.own) own e l k)
  act_long remove id f p = absurd p
  act_long ask id f p = partner_long id unturned (λ e l k. record { lawful = l; held = k; identity = refl })

  perform_long : (c : Call) → Of64Bits c → InPlace c → AsLong (perform t c)
  unfolding perform
  perform_long (receive room text) f p =
      by_case AsLong _ _ _ (λ _. unchanged) (λ _. receive_long text (read text) refl)
  perform_long (about id a) f p = by_case AsLong _ _ _ (λ _. unchanged) (λ _. act_long a id f p)
  perform_long (load id name top) f p = absurd p

  -- the image of the table after a call in place is as long as it was
  pub run_long : (c : Call) → Of64Bits c → InPlace c → AsLong (run t c)
  unfolding run
  run_long c f p = by_case AsLong _ _ _ (λ _. perform_long c f p) (λ _. unchanged)
