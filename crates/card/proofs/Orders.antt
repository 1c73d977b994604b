-- The order of the answers over the stored image: that of the calls on its table.
use Rattle.std.specs.Prelude.{Option, None, Some}
use mathlib.Core.Path.{◌≡◌, refl, sym, ap, ◌∙◌}
use mathlib.Core.Bool.{Bool, true, false, cond, true≢false}
use mathlib.Core.List.Memᴰ
use mathlib.Core.List.{List, [], ◌∷◌, Memᴰ}
use mathlib.Core.Logic.{◌⊎◌, inl, inr}
use Prim.Native.Nat.{ℕ, suc, ◌≤◌, ◌<◌}
use native.Mathlib.Omega.{arith}
use lib.Dec.{eqb}
use lib.ListN.{length}
use Rattle.octets.specs.Text.{Text, is_name}
use Rattle.octets.specs.Number.{number}
use Rattle.keying.specs.declared.Top.{Top}
use Rattle.keying.specs.Keys.{odd_top}
use Rattle.csm.proofs.TextLaws.{none_some}
use Rattle.partner.specs.declared.Entry.{Entry}
use Rattle.partner.specs.Entry.{name_of}
use Rattle.partner.specs.Table.{Table, is_empty, identities}
use Rattle.image.specs.Image.{largest, decode}
use Rattle.image.proofs.Buffers.{started_as}
use Rattle.image.proofs.Images.{rules}
use Rattle.calls.specs.Words.{in_case◌then◌else◌}
use Rattle.calls.specs.Outcome.{Outcome, nothing, refusal, success}
use Rattle.calls.specs.Calls.{Call, After, receive, about, build_ksm, build_rsi, remove, load, refuse, run}
use Rattle.calls.specs.Good.{GoodIdentity}
use Rattle.calls.specs.Refusals.{InUse}
use Rattle.calls.proofs.Refusals.{refusals}
use Rattle.card.specs.Over.{outcome_over}
use Rattle.card.specs.Whole.{body_of, delivering, top_in, load_with, load_over, remove_over}
use Rattle.card.specs.Ways.{top_or_zero, name_or_none}
use Rattle.card.specs.Orders.{Orders}
use Rattle.card.proofs.Keys.{key_of_no_length}
use Rattle.card.proofs.Tables.{lawful_table}
use Rattle.card.proofs.Delivering.{ask_none, remove_none, load_none, ask_table, remove_table, load_table, too_short}
use Rattle.card.proofs.Delivering.{long_enough, undelivered, delivers, load_with_is}
use Rattle.card.proofs.Delivering.{start_short, start_malformed, start_done}

-- ---- every call

thirteen : (image : Text) (c : Call) → decode image ≡ None → outcome_over image c ≡ refusal 13
unfolding outcome_over
thirteen image c h = rw (outcome_over, h)

-- a call that is refused on the table
refused : (image : Text) (t : Table) (c : Call) (n : ℕ) → decode image ≡ Some t → run t c ≡ refuse t n
    → outcome_over image c ≡ refusal n
unfolding outcome_over
refused image t c n d h = rw (outcome_over, d) (ap (λ (a : After). a.outcome) h)

-- ---- slots in use

fewer : (slots : List Entry) → length (identities slots) ≤ length slots
fewer [] = omega arith
fewer (e ∷ slots) = go (is_empty e) (fewer slots)
  where
    go : (b : Bool) → length (identities slots) ≤ length slots
        → length (cond b (identities slots) (e.identity.bytes ∷ identities slots)) ≤ suc (length slots)
    go true h = omega arith
    go false h = omega arith

-- where each slot has its identity all are in use, and the other way round
all_used : (slots : List Entry) → length (identities slots) ≡ length slots → InUse slots
all_used [] h e i = absurd (Memᴰ.not-nil i)
all_used (f ∷ slots) h e i = go (is_empty f) refl (fewer slots) h (Memᴰ.cases_cons i) (λ k j. all_used slots k e j)
  where
    go : (b : Bool) → is_empty f ≡ b → length (identities slots) ≤ length slots
        → length (cond b (identities slots) (f.identity.bytes ∷ identities slots)) ≡ suc (length slots)
        → (e ≡ f) ⊎ Memᴰ e slots
        → (length (identities slots) ≡ length slots → Memᴰ e slots → is_empty e ≡ false) → is_empty e ≡ false
    go true p w h k r = absurd (omega arith)
    go false p w h (inl q) r = ap is_empty q ∙ p
    go false p w h (inr j) r = r (omega arith) j

used_all : (slots : List Entry) → InUse slots → length (identities slots) ≡ length slots
used_all [] u = refl
used_all (f ∷ slots) u = go (is_empty f) (u f (Memᴰ.head refl)) (used_all slots (λ e i. u e (Memᴰ.tail i)))
  where
    go : (b : Bool) → b ≡ false → length (identities slots) ≡ length slots
        → length (cond b (identities slots) (f.identity.bytes ∷ identities slots)) ≡ suc (length slots)
    go true p h = absurd (true≢false p)
    go false p h = ap suc h

-- ---- load and remove

module _ (image : Text) (t : Table) (d : decode image ≡ Some t) where
  slots_64 : length t.slots ≡ 64
  slots_64 = (rules t (lawful_table image t d)).slots_64

  module _ (room : ℕ) (roomy : largest ≤ room) where
    removes : (id : Text) (a : After) → run t (about id remove) ≡ a → remove_over image room id ≡ delivering a
    removes id a h = remove_table image t d room id ∙ long_enough room largest _ roomy ∙ ap delivering h

    module _ (id name key : Text) where
      loads : (o : Option Top) → top_in key ≡ o → (a : After) → run t (load id (name_or_none name o) (top_or_zero o)) ≡ a
          → load_over image room id name key ≡ delivering a
      loads o q a h =
          load_table image t d room id name key ∙ long_enough room largest _ roomy
          ∙ ap (load_with t id name) q ∙ load_with_is t (lawful_table image t d) id name o ∙ ap delivering h

      load_refused : (n : ℕ) → eqb n 0 ≡ false
          → ((o : Option Top) → top_in key ≡ o → run t (load id (name_or_none name o) (top_or_zero o)) ≡ refuse t n)
          → load_over image room id name key ≡ refusal n
      load_refused n z h = loads (top_in key) refl (refuse t n) (h (top_in key) refl) ∙ undelivered t n z

      is_10 : (GoodIdentity t id → ⊥) → load_over image room id name key ≡ refusal 10
      is_10 b = load_refused 10 refl (λ o q. refusals.bad_identity_is_10 t id _ _ (lawful_table image t d) b)

      module _ (g : GoodIdentity t id) where
        is_12 : is_name name ≡ false → load_over image room id name key ≡ refusal 12
        is_12 n = load_refused 12 refl (λ o q. refusals.bad_name_is_12 t id _ _ (lawful_table image t d) g (go o))
          where
            go : (o : Option Top) → is_name (name_or_none name o) ≡ false
            go None = refl
            go (Some top) = n

        no_key : top_in key ≡ None → load_over image room id name key ≡ refusal 12
        no_key k =
            loads None k (refuse t 12) (refusals.bad_name_is_12 t id _ _ (lawful_table image t d) g refl)
            ∙ undelivered t 12 refl

        module _ (n : is_name name ≡ true) (top : Top) (k : top_in key ≡ Some top) where
          is_11 : odd_top top ≡ false → load_over image room id name key ≡ refusal 11
          is_11 o =
              loads (Some top) k (refuse t 11) (refusals.even_top_is_11 t id name top (lawful_table image t d) g n o)
              ∙ undelivered t 11 refl

          is_9 : odd_top top ≡ true → length (identities t.slots) ≡ 64 → load_over image room id name key ≡ refusal 9
          is_9 o f =
              loads (Some top) k (refuse t 9)
              (refusals.full_is_9 t id name top (lawful_table image t d) g n o
              (all_used t.slots (f ∙ sym slots_64)))
              ∙ undelivered t 9 refl

          is_0 : odd_top top ≡ true → length (identities t.slots) < 64 → (load_over image room id name key).answer ≡ 0
          is_0 o f =
              let l = slots_64 in
              let r = refusals.else_loaded t id name top (lawful_table image t d) g n o
              (λ u. let z = used_all t.slots u in omega arith) in
              ap (λ (x : Outcome). x.answer)
              (loads (Some top) k _ refl ∙ delivers _ (ap (λ (x : Outcome). x.answer) r.done))

-- ---- together

pub orders : Orders
unfolding top_in number in_case◌then◌else◌
orders = record {
  call_13 = thirteen;
  receive_6 = λ image t room text d h.
      refused image t (receive room text) 6 d (refusals.no_room_to_receive t room text (lawful_table image t d) h);
  build_ksm_6 = λ image t room id q d h.
      refused image t (about id (build_ksm room q)) 6 d (refusals.no_room_to_build t room id q (lawful_table image t d) h);
  build_rsi_6 = λ image t room id contents d h.
      refused image t (about id (build_rsi room contents)) 6 d
      (refusals.no_room_to_ask_for_service t room id contents (lawful_table image t d) h);
  ask_13 = λ image room id h. ask_none image h room id;
  ask_6 = λ image t room id d h. ask_table image t d room id ∙ too_short room 256 _ h;
  ask_3 = λ image t room id d h n. ask_table image t d room id ∙ long_enough room 256 _ h ∙ ap body_of n;
  ask_0 = λ image t room id e d h n. ask_table image t d room id ∙ long_enough room 256 _ h ∙ ap body_of n;
  start_6 = start_short;
  start_10 = start_malformed;
  start_0 = λ own room h n.
      start_done own room h n ∙ ap (λ (s : Text). success s nothing) (sym (started_as (name_of own)));
  remove_13 = λ image room id h. remove_none image h room id;
  remove_6 = λ image t room id d h. remove_table image t d room id ∙ too_short room largest _ h;
  remove_3 = λ image t room id d h n.
      removes image t d room h id (refuse t 3) (refusals.nobody_to_remove t id (lawful_table image t d) n)
      ∙ undelivered t 3 refl;
  remove_0 = λ image t room id e d h n.
      ap (λ (o : Outcome). o.answer)
      (removes image t d room h id _ refl
      ∙ delivers _ (ap (λ (o : Outcome). o.answer) (refusals.removed_is_gone t id e (lawful_table image t d) n).0));
  load_13 = λ image room id name key h. load_none image h room id name key;
  load_6 = λ image t room id name key d h. load_table image t d room id name key ∙ too_short room largest _ h;
  load_10_malformed = λ image t room id name key d h n.
      is_10 image t d room h id name key (λ g. true≢false (sym g.formed ∙ n));
  load_10_ours = λ image t room id name key d h n. is_10 image t d room h id name key (λ g. g.not_ours n);
  load_10_taken = λ image t room id name key e d h n.
      is_10 image t d room h id name key (λ g. none_some e (sym g.not_taken ∙ n));
  load_12_name = λ image t room id name key d h. is_12 image t d room h id name key;
  load_12_key = λ image t room id name key d h p a b.
      no_key image t d room h id name key p (key_of_no_length key a b);
  load_11 = λ image t room id name key top d h p n k o. is_11 image t d room h id name key p n top k o;
  load_9 = λ image t room id name key top d h p n k o f. is_9 image t d room h id name key p n top k o f;
  load_0 = λ image t room id name key top d h p n k o f. is_0 image t d room h id name key p n top k o f;
  key_of_8 = refl;
  key_of_16 = refl;
}
