-- A call that makes the steps: its answer, what it writes, and the image that is kept.
use Rattle.std.specs.Prelude.{Option, None, Some}
use mathlib.Core.Path.{◌≡◌, refl, sym, ap, ◌∙◌, subst}
use mathlib.Core.Bool.{true}
use Prim.Native.Nat.{ℕ, ◌<◌}
use native.Mathlib.Omega.{arith}
use lib.Dec.{eqb}
use lib.ListN.{length}
use borrow.Author.Tests.{eqb-true, eqb-false}
use Rattle.octets.specs.Text.{Text}
use Rattle.octets.specs.Part.{bare, all_octets}
use Rattle.csm.specs.Format.{value}
use Rattle.csm.specs.Fields.{svr}
use Rattle.csm.specs.Message.{rsi, print}
use Rattle.csm.proofs.TextLaws.{some_inj}
use Rattle.partner.specs.declared.Entry.{Entry}
use Rattle.partner.specs.Entry.{filled}
use Rattle.partner.proofs.Claims as partner
use Rattle.partner.specs.Table.{Table, legal, put, holding}
use Rattle.image.specs.Image.{decode, encode}
use Rattle.image.proofs.Claims as stored
use Rattle.calls.specs.Words.{in_case◌then◌else◌}
use Rattle.calls.specs.Outcome.{Outcome, Turn, nothing, success, refused, done}
use Rattle.calls.specs.Receive.{to_partner}
use Rattle.calls.specs.Build as building
use Rattle.calls.specs.Calls.{After, entry_of, after_turn, at_partner, unturned, perform, run}
use Rattle.calls.specs.Calls as steps
use Rattle.calls.proofs.Tests.{by_case, if_false}
use Rattle.calls.proofs.Slots.{put_found}
use Rattle.calls.proofs.Tables.{entry_held}
use Rattle.calls.proofs.Claims as call
use Rattle.request.specs.Request.{request_in}
use Rattle.card.specs.Whole.{delivering}
use Rattle.card.specs.Claims.{Of64Bits}
use Rattle.card.proofs.Staying.{run_long}
use Rattle.demands.specs.Face.{Call, receive, build_ksm, build_rsi, ask, give_up, load, remove, left}
use Rattle.demands.specs.Face.{new_image, kept}
use Rattle.demands.specs.Terms.{Bytes, OfBytes, step_of, showing, in_bytes, AsTheSteps}
use Rattle.demands.proofs.Telling.{written_reply}
use Rattle.demands.proofs.Ways.{image_by, stepped, shown_nobody, shown_entry}
use Rattle.demands.proofs.Keeping.{request_sized, step_fits, after_read, after_octets, entry_fits, reply_short}

-- ---- the answer is that of the steps

delivered_answer : (a : After) → (delivering a).answer ≡ a.outcome.answer
unfolding delivering
delivered_answer a =
    by_case (λ (o : Outcome). o.answer ≡ a.outcome.answer) (eqb a.outcome.answer 0) _ _
    (λ h. sym (eqb-true a.outcome.answer 0 h)) (λ _. refl)

shown_answer : (partner : Text) (a : After) → (showing partner a).answer ≡ a.outcome.answer
unfolding showing
shown_answer partner a =
    by_case (λ (o : Outcome). o.answer ≡ a.outcome.answer) (eqb a.outcome.answer 0) _ _
    (λ h. sym (eqb-true a.outcome.answer 0 h)) (λ _. refl)

pub in_bytes_answer : (c : Call) (a : After) → (in_bytes c a).answer ≡ a.outcome.answer
in_bytes_answer (receive text) a = refl
in_bytes_answer (build_ksm partner request) a = refl
in_bytes_answer (build_rsi partner service) a = refl
in_bytes_answer (ask partner) a = shown_answer partner a
in_bytes_answer (give_up partner) a = refl
in_bytes_answer (load partner name key) a = delivered_answer a
in_bytes_answer (remove partner) a = delivered_answer a

-- ---- build an RSI and ask leave the table

partner_leaves : (t : Table) (id : Text) (turn : Entry → Turn) → ((e : Entry) → (turn e).entry ≡ e)
    → (at_partner t id turn).table ≡ t
unfolding at_partner
partner_leaves t id turn same = go (entry_of id t) refl
  where
    go : (o : Option Entry) → entry_of id t ≡ o → (after_turn t id turn o).table ≡ t
    go None q = refl
    go (Some e) q =
        ap (λ (x : Entry). holding t (put (filled id) x t.slots)) (same e)
        ∙ ap (holding t) (put_found (filled id) t.slots e (entry_held t id e q).found)

service_same : (own : Text) (e : Entry) (contents : Text) → (building.build_rsi own e contents).entry ≡ e
unfolding building.build_rsi
service_same own e contents = go (value svr contents)
  where
    go : (o : Option ℕ) → (elim o as (λ x. Turn) [
      | None ↦ refused e 12
      | Some s ↦ done e (print (to_partner own e (rsi (record { svr = s; edc = None })))) nothing
    ]).entry ≡ e
    go None = refl
    go (Some s) = refl

rsi_leaves : (t : Table) (room : ℕ) (id contents : Text) → (run t (steps.about id (steps.build_rsi room contents))).table ≡ t
unfolding run perform
rsi_leaves t room id contents =
    by_case (λ (a : After). a.table ≡ t) _ _ _
    (λ _. by_case (λ (a : After). a.table ≡ t) _ _ _ (λ _. refl)
    (λ _. partner_leaves t id _ (λ e. service_same (bare t.own) e contents)))
    (λ _. refl)

ask_leaves : (t : Table) (id : Text) → (run t (steps.about id steps.ask)).table ≡ t
unfolding run perform
ask_leaves t id =
    by_case (λ (a : After). a.table ≡ t) _ _ _
    (λ _. by_case (λ (a : After). a.table ≡ t) _ _ _ (λ _. refl) (λ _. partner_leaves t id unturned (λ e. refl))) (λ _. refl)

-- ---- what is kept

module _ (image buffer : Text) (t : Table) (octets : Bytes image) (is : decode image ≡ Some t) where
  encoded : encode t ≡ image
  encoded = ((stored.claims).read_then_write image t is).1

  lawful : legal t ≡ true
  lawful = ((stored.claims).read_then_write image t is).0

  -- the image as it was is that of the table after a call that leaves it
  still : (d : steps.Call) → (run t d).table ≡ t → image ≡ encode (run t d).table
  still d h = sym encoded ∙ ap encode (sym h)

  module _ (d : steps.Call) (fits : Of64Bits d) where
    image_short : length (encode (run t d).table) < 65_536
    image_short =
        omega (
          arith,
          ((stored.claims).image_sizes (encode (run t d).table) (run t d).table
              (after_read image t d octets is fits)).1,
        )

    delivered_short : length (delivering (run t d)).reply < 65_536
    unfolding delivering
    delivered_short =
        by_case (λ (o : Outcome). length o.reply < 65_536) (eqb (run t d).outcome.answer 0) _ _ (λ _. image_short)
        (λ _. omega (arith, reply_short t d))

    new_is : new_image (left (delivering (run t d)) image buffer) ≡ encode (run t d).table
    unfolding new_image delivering left in_case◌then◌else◌
    new_is =
        by_case (λ (o : Outcome). new_image (left o image buffer) ≡ encode (run t d).table)
        (eqb (run t d).outcome.answer 0) (success (encode (run t d).table) nothing) (run t d).outcome
        (λ _. written_reply (success (encode (run t d).table) nothing) image buffer image_short)
        (λ h. if_false (eqb (run t d).outcome.answer 0) _ _ h
        ∙ still d ((call.claims).unless_done_nothing_changes t d (eqb-false (run t d).outcome.answer 0 h)))

  -- ask writes a record
  shown_short : (id : Text) → length (showing id (run t (steps.about id steps.ask))).reply < 65_536
  shown_short id = go (entry_of id t) refl
    where
      go : (o : Option Entry) → entry_of id t ≡ o → length (showing id (run t (steps.about id steps.ask))).reply < 65_536
      go None q =
          omega (arith, ap (λ (o : Outcome). length o.reply) (shown_nobody t id lawful q))
      go (Some e) q =
          omega (
            arith,
            ap (λ (o : Outcome). length o.reply) (shown_entry t id e lawful q),
            (partner.claims).record_has_156_bytes e (entry_fits image t id e octets is q),
          )

  -- what each call writes is short
  pub short : (c : Call) (d : steps.Call) → OfBytes c → step_of (length buffer) c ≡ Some d
      → length (in_bytes c (run t d)).reply < 65_536
  short (receive text) d o e = omega (arith, reply_short t d)
  short (build_ksm partner request) d o e = omega (arith, reply_short t d)
  short (build_rsi partner service) d o e = omega (arith, reply_short t d)
  short (ask partner) d o e =
      subst (λ (x : steps.Call). length (showing partner (run t x)).reply < 65_536) (some_inj e) (shown_short partner)
  short (give_up partner) d o e = omega (arith, reply_short t d)
  short (load partner name key) d o e =
      delivered_short d (step_fits (load partner name key) (length buffer) d o e)
  short (remove partner) d o e = delivered_short d (step_fits (remove partner) (length buffer) d o e)

  -- the image that is kept is that of the table after the steps
  pub kept_is : (c : Call) (d : steps.Call) → OfBytes c → step_of (length buffer) c ≡ Some d
      → kept c (stepped image buffer c (run t d)) ≡ encode (run t d).table
  unfolding kept left
  kept_is (receive text) d o e = refl
  kept_is (build_ksm partner request) d o e = refl
  kept_is (build_rsi partner service) d o e =
      still d (subst (λ (x : steps.Call). (run t x).table ≡ t) (some_inj e)
      (rsi_leaves t (length buffer) partner service))
  kept_is (ask partner) d o e =
      still d (subst (λ (x : steps.Call). (run t x).table ≡ t) (some_inj e) (ask_leaves t partner))
  kept_is (give_up partner) d o e = refl
  kept_is (load partner name key) d o e = new_is d (step_fits (load partner name key) (length buffer) d o e)
  kept_is (remove partner) d o e = new_is d (step_fits (remove partner) (length buffer) d o e)

  -- the image lent keeps its length
  image_long : (c : Call) (d : steps.Call) → OfBytes c → step_of (length buffer) c ≡ Some d
      → length (image_by c image (run t d)) ≡ length image
  image_long (receive text) d o e =
      subst (λ (x : steps.Call). length (encode (run t x).table) ≡ length image) (some_inj e)
      (run_long image t is octets (steps.receive (length buffer) text) tt tt)
  image_long (build_ksm partner request) d o e =
      subst (λ (x : steps.Call). length (encode (run t x).table) ≡ length image) (some_inj e)
      (run_long image t is octets (steps.about partner (steps.build_ksm (length buffer) (request_in request)))
      (request_sized request o) tt)
  image_long (build_rsi partner service) d o e = refl
  image_long (ask partner) d o e = refl
  image_long (give_up partner) d o e =
      subst (λ (x : steps.Call). length (encode (run t x).table) ≡ length image) (some_inj e)
      (run_long image t is octets (steps.about partner steps.give_up) tt tt)
  image_long (load partner name key) d o e = refl
  image_long (remove partner) d o e = refl

  -- ---- together

  pub as_stepped : (c : Call) (d : steps.Call) → OfBytes c → step_of (length buffer) c ≡ Some d
      → AsTheSteps image buffer c (run t d) (stepped image buffer c (run t d))
  unfolding left
  as_stepped c d o e = record {
    answer = in_bytes_answer c (run t d);
    table = ap decode (kept_is c d o e) ∙ after_read image t d octets is (step_fits c (length buffer) d o e);
    buffer_after = refl;
    reply = written_reply (in_bytes c (run t d)) (image_by c image (run t d)) buffer (short c d o e);
    report_after = refl;
    length_stays = image_long c d o e;
  }

  pub kept_bytes : (c : Call) (d : steps.Call) → OfBytes c → step_of (length buffer) c ≡ Some d
      → Bytes (kept c (stepped image buffer c (run t d)))
  kept_bytes c d o e =
      ap all_octets (kept_is c d o e) ∙ after_octets image t d octets is (step_fits c (length buffer) d o e)
