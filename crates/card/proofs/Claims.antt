-- The claims of specs/Claims.antt, proved.
use Rattle.std.specs.Prelude.{Option, None, Some}
use mathlib.Core.Path.{◌≡◌, refl, ap, ◌∙◌}
use mathlib.Core.Bool.{true, false}
use mathlib.Core.List.{List, []}
use Prim.Native.Nat.{ℕ, ◌≤◌}
use native.Mathlib.Omega.{arith}
use lib.Dec.{eqb}
use lib.ListN.{length}
use borrow.Author.Tests.{eqb-false}
use Rattle.octets.specs.Text.{Text, stands}
use Rattle.octets.specs.Part.{all_octets, found}
use Rattle.keying.specs.declared.Top.{Top}
use Rattle.partner.specs.declared.Entry.{Entry}
use Rattle.partner.specs.Entry.{name_of}
use Rattle.partner.proofs.Naming.{filled_filled}
use Rattle.partner.specs.Table.{Table, into_free_slot}
use Rattle.image.specs.Image.{decode, encode}
use Rattle.image.proofs.Images.{table_there}
use Rattle.image.proofs.Claims as stored
use Rattle.calls.specs.Outcome.{Outcome, nothing, refusal, success}
use Rattle.calls.specs.Calls as calls
use Rattle.calls.specs.Calls.{Call, load, about, remove, After, entry_of, after_turn, at_partner, after_load, loading}
use Rattle.calls.specs.Calls.{emptied, perform, run}
use Rattle.calls.proofs.Tests.{by_case}
use Rattle.calls.proofs.Claims as call
use Rattle.calls.specs.Orders.{answers}
use Rattle.calls.proofs.Orders.{has_0, orders}
use Rattle.outcome.specs.Report.{replied}
use Rattle.card.specs.Over.{outcome_over, image_over}
use Rattle.card.specs.Whole.{body_of, ask_over, start_over, delivering, top_in, load_with, load_over}
use Rattle.card.specs.Whole.{remove_over}
use Rattle.card.specs.Claims.{Of64Bits, DoneOrRefused, NewImage, Claims}
use Rattle.card.proofs.Keys.{top_fits}
use Rattle.card.proofs.Tables.{lawful_table, encode_is}
use Rattle.card.proofs.Staying.{run_holds, run_long}

-- ---- every call over an image

-- where the bytes are no image, and where they are
by_image : (image : Text) (c : Call) (P : Outcome → Text → Type 0) → P (refusal 13) image
    → ((t : Table) → decode image ≡ Some t → P (run t c).outcome (encode (run t c).table))
    → P (outcome_over image c) (image_over image c)
unfolding outcome_over image_over
by_image image c P n s = go (decode image) refl
  where
    go : (o : Option Table) → decode image ≡ o
        → P (elim o as (λ x. Outcome) [ None ↦ refusal 13 | Some t ↦ (run t c).outcome ])
        (elim o as (λ x. Text) [ None ↦ image | Some t ↦ encode (run t c).table ])
    go None d = n
    go (Some t) d = s t d

bare : (image : Text) (c : Call) → ((outcome_over image c).answer ≡ 0 → ⊥) → ((outcome_over image c).answer ≡ 4 → ⊥)
    → outcome_over image c ≡ refusal (outcome_over image c).answer
bare image c =
    by_image image c (λ o s. (o.answer ≡ 0 → ⊥) → (o.answer ≡ 4 → ⊥) → o ≡ refusal o.answer)
    (λ h k. refl) (λ t d. (call.claims).refusals_are_bare t c)

untouched : (o : Outcome) (n : ℕ) (buffer : Text) → o ≡ refusal n → replied o buffer ≡ buffer
unfolding replied
untouched o n buffer p = ap (λ (x : Outcome). replied x buffer) p

-- the image of the table after a call reads as that table
pub written_read : (image : Text) (t : Table) (c : Call) → all_octets image ≡ true → Of64Bits c → decode image ≡ Some t
    → decode (encode (run t c).table) ≡ Some (run t c).table
written_read image t c o f d =
    let l = lawful_table image t d in
    (stored.claims).write_then_read (run t c).table ((call.claims).stays_legal t c l)
    (run_holds t l ((stored.claims).read_is_held image t o d) c f)

over_read : (image : Text) (t : Table) (c : Call) → all_octets image ≡ true → Of64Bits c → decode image ≡ Some t
    → decode (image_over image c) ≡ Some (run t c).table
unfolding image_over
over_read image t c o f d = rw (image_over, d) (written_read image t c o f d)

-- ---- the calls that write to a buffer

-- 13, or a step on the table
by_table : (image : Text) (P : Outcome → Type 0) (f : Table → Outcome) → P (refusal 13)
    → ((t : Table) → decode image ≡ Some t → P (f t))
    → P (elim (decode image) [ None ↦ refusal 13 | Some t ↦ f t ])
by_table image P f n s = go (decode image) refl
  where
    go : (o : Option Table) → decode image ≡ o
        → P (elim o as (λ x. Outcome) [ None ↦ refusal 13 | Some t ↦ f t ])
    go None d = n
    go (Some t) d = s t d

refused_so : (n : ℕ) → n ≤ 13 → DoneOrRefused (refusal n)
refused_so n h = record { answer = h; bare = λ k. refl }

done_so : (s : Text) → DoneOrRefused (success s nothing)
done_so s = record { answer = omega arith; bare = λ k. absurd (k refl) }

abbrev Settled : After → Type 0
Settled a = DoneOrRefused a.outcome

-- what is delivered is so where the call's outcome is
deliver_so : (a : After) → Settled a → DoneOrRefused (delivering a)
unfolding delivering
deliver_so a h = by_case DoneOrRefused _ _ _ (λ _. done_so _) (λ _. h)

ask_so : (image : Text) (room : ℕ) (id : Text) → DoneOrRefused (ask_over image room id)
unfolding ask_over
ask_so image room id =
    by_table image DoneOrRefused _ (refused_so _ (omega arith)) λ t d.
    by_case DoneOrRefused _ _ _ (λ _. refused_so _ (omega arith)) (λ _. go (entry_of id t))
  where
    go : (o : Option Entry) → DoneOrRefused (body_of o)
    go None = refused_so _ (omega arith)
    go (Some e) = done_so _

start_so : (own : Text) (room : ℕ) → DoneOrRefused (start_over own room)
unfolding start_over
start_so own room =
    by_case DoneOrRefused _ _ _ (λ _. refused_so _ (omega arith)) (λ _. go (calls.start own))
  where
    go : (o : Option Table)
        → DoneOrRefused (elim o as (λ x. Outcome) [ None ↦ refusal 10 | Some t ↦ success (encode t) nothing ])
    go None = refused_so _ (omega arith)
    go (Some t) = done_so _

-- load and remove on a table
load_runs_so : (t : Table) (id name : Text) (top : Top) → Settled (run t (load id name top))
unfolding run perform loading
load_runs_so t id name top =
    by_case Settled _ _ _
    (λ _. by_case Settled _ _ _ (λ _. refused_so _ (omega arith)) λ _.
    by_case Settled _ _ _ (λ _. refused_so _ (omega arith)) λ _.
    by_case Settled _ _ _ (λ _. refused_so _ (omega arith)) λ _. go (into_free_slot _ t.slots))
    (λ _. refused_so _ (omega arith))
  where
    go : (o : Option (List Entry)) → Settled (after_load t o)
    go None = refused_so _ (omega arith)
    go (Some slots) = done_so []

remove_runs_so : (t : Table) (id : Text) → Settled (run t (about id remove))
unfolding run perform at_partner
remove_runs_so t id =
    by_case Settled _ _ _ (λ _. by_case Settled _ _ _ (λ _. refused_so _ (omega arith)) (λ _. go (entry_of id t)))
    (λ _. refused_so _ (omega arith))
  where
    go : (o : Option Entry) → Settled (after_turn t id emptied o)
    go None = refused_so _ (omega arith)
    go (Some e) = done_so []

load_so : (image : Text) (room : ℕ) (id name key : Text) → DoneOrRefused (load_over image room id name key)
unfolding load_over load_with
load_so image room id name key =
    by_table image DoneOrRefused _ (refused_so _ (omega arith)) λ t d.
    by_case DoneOrRefused _ _ _ (λ _. refused_so _ (omega arith)) (λ _. go t (top_in key))
  where
    go : (t : Table) (o : Option Top) → DoneOrRefused (load_with t id name o)
    go t None = by_case DoneOrRefused _ _ _ (λ _. refused_so _ (omega arith)) (λ _. refused_so _ (omega arith))
    go t (Some top) = deliver_so (run t (load id name top)) (load_runs_so t id name top)

remove_so : (image : Text) (room : ℕ) (id : Text) → DoneOrRefused (remove_over image room id)
unfolding remove_over
remove_so image room id =
    by_table image DoneOrRefused _ (refused_so _ (omega arith)) λ t d.
    by_case DoneOrRefused _ _ _ (λ _. refused_so _ (omega arith)) λ _.
    deliver_so (run t (about id remove)) (remove_runs_so t id)

-- ---- new images

refused_new : (n : ℕ) → eqb n 0 ≡ false → NewImage (refusal n)
refused_new n h k = absurd (eqb-false n 0 h k)

-- the image of the table after a call
deliver_new : (image : Text) (t : Table) (c : Call) → all_octets image ≡ true → Of64Bits c → decode image ≡ Some t
    → NewImage (delivering (run t c))
unfolding delivering
deliver_new image t c o f d =
    let r = run t c in
    by_case NewImage (eqb r.outcome.answer 0) (success (encode r.table) nothing) r.outcome
    (λ _ _. ap found (written_read image t c o f d)) (λ h k. absurd (eqb-false r.outcome.answer 0 h k))

start_new : (own : Text) (room : ℕ) → NewImage (start_over own room)
unfolding start_over calls.start
start_new own room =
    by_case NewImage _ _ _ (λ _. refused_new 6 refl) λ _.
    by_case (λ (o : Option Table). NewImage (elim o as (λ x. Outcome) [
      | None ↦ refusal 10
      | Some t ↦ success (encode t) nothing
    ])) _ _ _ (λ n _. ap found ((stored.claims).start_is_legal (name_of own) (filled_filled own n)))
    (λ _. refused_new 10 refl)

load_new : (image : Text) (room : ℕ) (id name key : Text) → all_octets image ≡ true → all_octets key ≡ true
    → NewImage (load_over image room id name key)
unfolding load_over load_with
load_new image room id name key o k =
    by_table image NewImage _ (refused_new 13 refl) λ t d.
    by_case NewImage _ _ _ (λ _. refused_new 6 refl) (λ _. go t d (top_in key) refl)
  where
    go : (t : Table) → decode image ≡ Some t → (top : Option Top) → top_in key ≡ top
        → NewImage (load_with t id name top)
    go t d None q = by_case NewImage _ _ _ (λ _. refused_new 10 refl) (λ _. refused_new 12 refl)
    go t d (Some top) q = deliver_new image t (load id name top) o (top_fits key top k q) d

remove_new : (image : Text) (room : ℕ) (id : Text) → all_octets image ≡ true → NewImage (remove_over image room id)
unfolding remove_over
remove_new image room id o =
    by_table image NewImage _ (refused_new 13 refl) λ t d.
    by_case NewImage _ _ _ (λ _. refused_new 6 refl) (λ _. deliver_new image t (about id remove) o tt d)

-- ---- together

pub claims : Claims
claims = record {
  answers_are_the_papers = λ image c.
      by_image image c (λ o s. stands o.answer (answers c) ≡ true) (has_0 c).1
      (λ t d. orders.answers_are_the_papers t c);
  unless_done_nothing_changes = λ image c.
      by_image image c (λ o s. (o.answer ≡ 0 → ⊥) → s ≡ image) (λ h. refl)
      (λ t d h. ap encode ((call.claims).unless_done_nothing_changes t c h) ∙ encode_is image t d);
  refusals_are_bare = bare;
  refusals_write_nothing = λ image c buffer h k. untouched _ _ buffer (bare image c h k);
  stays_legal = over_read;
  length_stays = λ image c o f p.
      by_image image c (λ x s. length s ≡ length image) refl (λ t d. run_long image t d o c f p);
  ask_answers = ask_so;
  start_answers = start_so;
  load_answers = load_so;
  remove_answers = remove_so;
  started_image = start_new;
  loaded_image = load_new;
  removed_image = remove_new;
  kept_in_place = λ room id text q. (tt, (tt, (tt, (tt, tt))));
  load_adds = λ id name top h. h;
  remove_takes_out = λ id h. h;
  without_numbers = λ room id text. (tt, (tt, (tt, (tt, tt))));
  request_of_64_bits = λ room id q a b c. record { first = a; second = b; iv = c };
  single_of_64_bits = λ id name key h. (h, omega arith);
  pair_of_64_bits = λ id name left right h k. (h, k);
  fourteen_is_no_answer = λ h. omega (arith, h.answer);
  letters_are_not_bare = λ h. omega (arith, ap (λ (o : Outcome). o.letters) (h.bare (λ e. omega arith)));
  reply_is_not_bare = λ h. omega (arith, ap (λ (o : Outcome). length o.reply) (h.bare (λ e. omega arith)));
  no_byte_is_no_image = λ h.
      let p = table_there [] (h refl) in
      omega (arith, ((stored.claims).image_sizes [] p.0 p.1).0);
}
