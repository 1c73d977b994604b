-- Demand 2.
use Rattle.std.specs.Prelude.{Option, None, Some}
use mathlib.Core.Path.{◌≡◌, refl, sym, ap, ◌∙◌, subst}
use mathlib.Core.Bool.{Bool, true, false}
use Prim.Native.Nat.{ℕ, ◌≤◌}
use lib.Dec.{eqb, ltb}
use lib.ListN.{length, drop}
use borrow.Author.Tests.{ltb-true, ltb-false, le-ltb, eqb-false}
use Rattle.octets.specs.Text.{Text, is_name}
use Rattle.octets.specs.Part.{bare}
use Rattle.keying.proofs.Laws as keying
use Rattle.csm.proofs.Claims as csm
use Rattle.csm.proofs.TextLaws.{some_inj, none_some}
use Rattle.partner.specs.declared.Entry.{Entry}
use Rattle.partner.specs.Entry.{name_of}
use Rattle.partner.specs.Record.{entry_in}
use Rattle.partner.proofs.Claims.{claims}
use Rattle.partner.specs.Table.{Table, legal, started}
use Rattle.image.specs.Image.{largest, decode}
use Rattle.image.proofs.Claims as stored
use Rattle.calls.specs.declared.Request.{Request}
use Rattle.calls.specs.Words.{in_case◌then◌else◌}
use Rattle.calls.specs.Outcome.{Outcome, keys}
use Rattle.calls.specs.Calls.{After, refuse, entry_of, perform, run}
use Rattle.calls.specs.Calls as steps
use Rattle.calls.specs.Good.{GoodRequest}
use Rattle.calls.specs.Steps as step
use Rattle.calls.specs.Refusals.{Starts}
use Rattle.calls.proofs.Tests.{if_false}
use Rattle.calls.proofs.Claims as call
use Rattle.calls.proofs.Steps.{steps as EachStep}
use Rattle.calls.proofs.Refusals.{refusals}
use Rattle.calls.proofs.Numbers.{numbers}
use Rattle.outcome.specs.Report.{report}
use Rattle.host.specs.Report.{report_bytes}
use Rattle.request.specs.Request.{request_in}
use Rattle.card.proofs.Tables.{own_is}
use Rattle.demands.specs.Face.{Call, receive, build_ksm, ask, Left, left, leaves, start_leaves, put_out, kept}
use Rattle.demands.specs.Terms.{Bytes, OfBytes, our_identity, in_table, entry_stored, entry_told, refused}
use Rattle.demands.specs.Terms.{room_for, step_of}
use Rattle.demands.specs.Terms.{AsTheSteps, tells, Exchange, built, taken, confirming, Exchanged}
use Rattle.demands.specs.Demands.{Demand2}
use Rattle.demands.proofs.Ways.{no_image, no_room, no_key, no_key_but_10, by_steps, start_no_room}
use Rattle.demands.proofs.Ways.{start_no_name, start_done, shown_entry}
use Rattle.demands.proofs.Keeping.{request_sized, entry_fits}
use Rattle.demands.proofs.Starting.{start_is, started_read, written_started}
use Rattle.demands.proofs.Stepping.{as_stepped, kept_bytes}

-- ---- the steps

module _ (image buffer : Text) (t : Table) (octets : Bytes image) (is : decode image ≡ Some t) where
  pub as_the_steps : (c : Call) (d : steps.Call) → OfBytes c → room_for c ≤ length buffer
      → step_of (length buffer) c ≡ Some d → AsTheSteps image buffer c (run t d) (leaves image buffer c)
  as_the_steps c d o r e =
      subst (AsTheSteps image buffer c (run t d)) (sym (by_steps image buffer t is c d r e))
      (as_stepped image buffer t octets is c d o e)

  pub bytes_kept : (c : Call) (d : steps.Call) → OfBytes c → room_for c ≤ length buffer
      → step_of (length buffer) c ≡ Some d → Bytes (kept c (leaves image buffer c))
  bytes_kept c d o r e =
      subst (λ l. Bytes (kept c l)) (sym (by_steps image buffer t is c d r e))
      (kept_bytes image buffer t octets is c d o e)

-- ---- the entry that an image has

pub stored_of : (image partner : Text) (t : Table) → decode image ≡ Some t
    → entry_stored image partner ≡ entry_of partner t
unfolding entry_stored
stored_of image partner t is = ap (λ (o : Option Table). in_table o partner) is

pub stored_in : (image partner : Text) (e : Entry) → entry_stored image partner ≡ Some e
    → (t : Table) × (decode image ≡ Some t) × (entry_of partner t ≡ Some e)
unfolding entry_stored
stored_in image partner e h = go (decode image) refl h
  where
    go : (o : Option Table) → decode image ≡ o → in_table o partner ≡ Some e
        → (t : Table) × (decode image ≡ Some t) × (entry_of partner t ≡ Some e)
    go None p h = absurd (none_some _ h)
    go (Some t) p h = (t, p, h)

module _ (image buffer partner : Text) (octets : Bytes image) where
  -- the record that is written reads as the entry
  shown : (t : Table) (e : Entry) → decode image ≡ Some t → entry_of partner t ≡ Some e → 256 ≤ length buffer
      → ((leaves image buffer (ask partner)).answer ≡ 0) × (entry_told image buffer partner ≡ e)
  shown t e is there r =
      let a = as_the_steps image buffer t octets is (ask partner) (steps.about partner steps.ask) tt r refl in
      let s = refusals.asked_is_found t partner e ((stored.claims).read_then_write image t is).0 there in (
        a.answer ∙ ap (λ (x : After). x.outcome.answer) s,
        ap entry_in (a.reply ∙ ap (λ (o : Outcome). o.reply) (shown_entry t partner e ((stored.claims).read_then_write image t is).0 there))
            ∙ claims.written_then_read e (entry_fits image t partner e octets is there),
      )

  pub entry_is_told : (e : Entry) → 256 ≤ length buffer → entry_stored image partner ≡ Some e
      → ((leaves image buffer (ask partner)).answer ≡ 0) × (entry_told image buffer partner ≡ e)
  entry_is_told e r h = let (t, is, there) = stored_in image partner e h in shown t e is there r

  -- 0 is answered in room, and where the image has an entry
  pub told_is_stored : (leaves image buffer (ask partner)).answer ≡ 0
      → entry_stored image partner ≡ Some (entry_told image buffer partner)
  told_is_stored z = by_image (decode image) refl
    where
      refuses : (n : ℕ) → eqb n 0 ≡ false → leaves image buffer (ask partner) ≡ refused n image buffer → ⊥
      refuses n p q = eqb-false n 0 p (ap (λ (l : Left). l.answer) (sym q) ∙ z)

      by_entry : (t : Table) → decode image ≡ Some t → 256 ≤ length buffer → (o : Option Entry) → entry_of partner t ≡ o
          → entry_stored image partner ≡ Some (entry_told image buffer partner)
      by_entry t is r None h =
          let a = as_the_steps image buffer t octets is (ask partner) (steps.about partner steps.ask) tt r refl in
          let s = refusals.nobody_to_show t partner ((stored.claims).read_then_write image t is).0 h in
          absurd (eqb-false 3 0 refl (sym (a.answer ∙ ap (λ (x : After). x.outcome.answer) s) ∙ z))
      by_entry t is r (Some e) h =
          stored_of image partner t is ∙ h ∙ ap {B = Option Entry} Some (sym (shown t e is h r).1)

      by_room : (t : Table) → decode image ≡ Some t → (b : Bool) → ltb (length buffer) 256 ≡ b
          → entry_stored image partner ≡ Some (entry_told image buffer partner)
      by_room t is true p =
          absurd (refuses 6 refl (no_room image buffer t is (ask partner) (ltb-true (length buffer) 256 p)))
      by_room t is false p = by_entry t is (ltb-false (length buffer) 256 p) (entry_of partner t) refl

      by_image : (o : Option Table) → decode image ≡ o
          → entry_stored image partner ≡ Some (entry_told image buffer partner)
      by_image None is = absurd (refuses 13 refl (no_image image buffer is (ask partner)))
      by_image (Some t) is = by_room t is (ltb (length buffer) 256) refl

-- ---- start

else_started : (own out : Text) → largest ≤ length out → is_name own ≡ true
    → (t : Table) × ((start_leaves own out).answer ≡ 0)
    × (decode (put_out (start_leaves own out)) ≡ Some t) × Starts own t
unfolding left
else_started own out r n =
    let (t, p, k) = refusals.else_started own n in
    let d = start_done own out r n in
    let q : t ≡ started (name_of own) = some_inj (sym p ∙ start_is own n) in (
      t,
      ap (λ (l : Left). l.answer) d,
      ap (λ (l : Left). decode (put_out l)) d ∙ ap decode (written_started own n out) ∙ started_read own n
          ∙ ap {B = Option Table} Some (sym q),
      k,
    )

-- ---- a whole exchange

-- any room that is enough serves
receive_anywhere : (t : Table) (room other : ℕ) → 256 ≤ room → 256 ≤ other → (text : Text)
    → run t (steps.receive room text) ≡ run t (steps.receive other text)
unfolding run perform
receive_anywhere t room other r o text =
    ap (λ (a : After). in_case legal t then a else refuse t 13)
    (if_false (ltb room 256) _ _ (le-ltb room 256 r) ∙ sym (if_false (ltb other 256) _ _ (le-ltb other 256 o)))

-- what a report tells of an outcome
told_so : (o : Outcome) → drop 4 (report_bytes (report o)) ≡ tells o.told
unfolding report report_bytes
told_so o = refl

module _ (x : Exchange) (t u : Table) (e f : Entry) (a_bytes : Bytes x.a) (b_bytes : Bytes x.b)
    (request_bytes : Bytes x.request) (a_is : decode x.a ≡ Some t) (b_is : decode x.b ≡ Some u)
    (named : x.partner ≡ bare u.own) (partners : step.Partners t u e f)
    (good : GoodRequest e (request_in x.request)) (first : 256 ≤ length x.first)
    (second : 256 ≤ length x.second) (third : 256 ≤ length x.third) where
  abbrev q : Request
  q = request_in x.request

  abbrev room : ℕ
  room = length x.first

  exchanged : step.Exchanged t u e q room
  exchanged = EachStep.exchange t u e f q room partners good (request_sized x.request request_bytes) first

  -- A builds
  abbrev building : Call
  building = build_ksm x.partner x.request

  first_steps : AsTheSteps x.a x.first building (step.after_built t u q room) (built x)
  first_steps =
      subst (λ (p : Text). AsTheSteps x.a x.first building (run t (steps.about p (steps.build_ksm room q))) (built x)) named
      (as_the_steps x.a x.first t a_bytes a_is building (steps.about x.partner (steps.build_ksm room q)) request_bytes
      first refl)

  image_built : decode (built x).image ≡ Some (step.after_built t u q room).table
  unfolding kept
  image_built = first_steps.table

  bytes_built : Bytes (built x).image
  unfolding kept
  bytes_built =
      bytes_kept x.a x.first t a_bytes a_is building (steps.about x.partner (steps.build_ksm room q)) request_bytes
      first refl

  -- B receives
  taken_is : run u (steps.receive (length x.second) (put_out (built x))) ≡ step.after_taken t u q room
  taken_is =
      receive_anywhere u (length x.second) room second first (put_out (built x))
      ∙ ap (λ (w : Text). run u (steps.receive room w)) first_steps.reply

  second_steps : AsTheSteps x.b x.second (receive (put_out (built x))) (step.after_taken t u q room) (taken x)
  second_steps =
      subst (λ (a : After). AsTheSteps x.b x.second (receive (put_out (built x))) a (taken x)) taken_is
      (as_the_steps x.b x.second u b_bytes b_is (receive (put_out (built x)))
      (steps.receive (length x.second) (put_out (built x))) tt second refl)

  image_taken : decode (taken x).image ≡ Some (step.after_taken t u q room).table
  unfolding kept
  image_taken = second_steps.table

  -- A receives
  confirmed_is : run (step.after_built t u q room).table (steps.receive (length x.third) (put_out (taken x)))
      ≡ step.after_confirmed t u q room
  confirmed_is =
      receive_anywhere (step.after_built t u q room).table (length x.third) room third first (put_out (taken x))
      ∙ ap (λ (w : Text). run (step.after_built t u q room).table (steps.receive room w)) second_steps.reply

  third_steps : AsTheSteps (built x).image x.third (receive (put_out (taken x))) (step.after_confirmed t u q room)
      (confirming x)
  third_steps =
      subst (λ (a : After). AsTheSteps (built x).image x.third (receive (put_out (taken x))) a (confirming x))
      confirmed_is
      (as_the_steps (built x).image x.third (step.after_built t u q room).table bytes_built image_built
      (receive (put_out (taken x))) (steps.receive (length x.third) (put_out (taken x))) tt third refl)

  image_confirmed : decode (confirming x).image ≡ Some (step.after_confirmed t u q room).table
  unfolding kept
  image_confirmed = third_steps.table

  pub exchange : Exchanged x e
  exchange = record {
    built_answer = first_steps.answer ∙ exchanged.built;
    taken_answer = second_steps.answer ∙ exchanged.taken;
    confirming_answer = third_steps.answer ∙ ap (λ (o : Outcome). o.answer) exchanged.confirmation;
    no_reply = third_steps.reply ∙ ap (λ (o : Outcome). o.reply) exchanged.confirmation;
    returned = ap (drop 4) second_steps.report_after ∙ told_so (step.after_taken t u q room).outcome
        ∙ ap tells exchanged.returned;
    ours = exchanged.ours;
    theirs = exchanged.theirs;
    our_entry = stored_of (confirming x).image x.partner _ image_confirmed
        ∙ ap (λ (p : Text). entry_of p (step.after_confirmed t u q room).table) named ∙ exchanged.our_entry;
    their_entry = stored_of (taken x).image (our_identity x.a) _ image_taken
        ∙ ap (λ (w : Text). entry_of (bare w) (step.after_taken t u q room).table) (own_is x.a t a_is)
        ∙ exchanged.their_entry;
    phase = exchanged.phase;
    requested = exchanged.keys;
    same_keys = exchanged.same_keys;
    sent = exchanged.sent;
    accepted = exchanged.accepted;
  }

pub demand_2 : Demand2
demand_2 = record {
  texts = csm.claims;
  keys = keying.claims;
  records = claims;
  images = stored.claims;
  starred = numbers;
  steps = EachStep;
  in_order = refusals;
  every_call = call.claims;
  no_image_is_13 = λ image buffer c h. no_image image buffer h c;
  no_room_is_6 = λ image buffer c t is. no_room image buffer t is c;
  no_key_is_12 = λ image buffer partner name key t is r e.
      no_key image buffer t is partner name key r e;
  no_key_after_10 = λ image buffer partner name key t is r e.
      no_key_but_10 image buffer t is partner name key r e;
  as_the_steps = λ image buffer c d t octets o is. as_the_steps image buffer t octets is c d o;
  no_room_to_start = start_no_room;
  no_identity_to_start = start_no_name;
  else_started = else_started;
  entry_is_told = λ image buffer partner e octets. entry_is_told image buffer partner octets e;
  told_is_stored = told_is_stored;
  exchange = exchange;
}
