-- The ways that a call over bytes can go: all that is used of the definitions behind the contracts of `khl_*`.
use Rattle.std.specs.Prelude.{Option, None, Some}
use mathlib.Core.Path.{◌≡◌, refl, sym, ap, ◌∙◌, subst}
use mathlib.Core.Bool.{Bool, true, false}
use mathlib.Core.List.{[], ◌∷◌}
use Prim.Native.Nat.{ℕ, ◌<◌, ◌≤◌}
use native.Mathlib.Omega.{arith}
use lib.Dec.{ltb}
use lib.ListN.{length}
use borrow.Author.Tests.{ltb-true, ltb-false, lt-ltb, le-ltb, eqb-false}
use Rattle.octets.specs.Text.{Text, is_name}
use Rattle.keying.specs.declared.Top.{Top}
use Rattle.keying.specs.declared.Top.TheVariants.{Single}
use Rattle.csm.proofs.TextLaws.{some_inj, none_some}
use Rattle.partner.specs.declared.Entry.{Entry}
use Rattle.partner.specs.Entry.{name_of}
use Rattle.partner.specs.Record.{entry_bytes}
use Rattle.partner.specs.Table.{Table, legal, started}
use Rattle.image.specs.Image.{largest, decode, encode}
use Rattle.image.proofs.Claims as stored
use Rattle.calls.specs.Words.{in_case◌then◌else◌}
use Rattle.calls.specs.Outcome.{Outcome, nothing, refusal, success}
use Rattle.calls.specs.Calls.{After, refuse, bad_identity, perform, run}
use Rattle.calls.specs.Calls as steps
use Rattle.calls.specs.Good.{GoodIdentity}
use Rattle.calls.proofs.Tests.{if_true, if_false}
use Rattle.calls.proofs.Refusals.{refusals}
use Rattle.request.specs.Request.{request_in}
use Rattle.card.specs.Over.{outcome_over, image_over}
use Rattle.card.specs.Whole.{body_of, ask_over, start_over, delivering, top_in, load_with, load_over, remove_over}
use Rattle.line.specs.Line.{◌∈◌}
use Rattle.demands.specs.Face.{Call, receive, build_ksm, build_rsi, ask, give_up, load, remove, Left, left, over_image}
use Rattle.demands.specs.Face.{leaves, start_leaves}
use Rattle.demands.specs.Terms.{answers_of, refused, room_for, loading, step_of, record_of, showing, in_bytes}
use Rattle.demands.proofs.Telling.{left_refusal}
use Rattle.demands.proofs.Answers.{is_in}

-- the image that a call of the steps leaves: receive, build a KSM and give up write it, the others read it only
abbrev pub image_by : Call → Text → After → Text
image_by (receive text) image a = encode a.table
image_by (build_ksm partner request) image a = encode a.table
image_by (build_rsi partner service) image a = image
image_by (ask partner) image a = image
image_by (give_up partner) image a = encode a.table
image_by (load partner name key) image a = image
image_by (remove partner) image a = image

abbrev pub stepped : Text → Text → Call → After → Left
stepped image buffer c a = left (in_bytes c a) (image_by c image a) buffer

-- ---- ask

-- 3 where there is nobody, else the record of the entry
pub shown_nobody : (t : Table) (partner : Text) → legal t ≡ true → steps.entry_of partner t ≡ None
    → showing partner (run t (steps.about partner steps.ask)) ≡ refusal 3
unfolding showing in_case◌then◌else◌
shown_nobody t partner lawful q = ap (showing partner) (refusals.nobody_to_show t partner lawful q)

pub shown_entry : (t : Table) (partner : Text) (e : Entry) → legal t ≡ true → steps.entry_of partner t ≡ Some e
    → showing partner (run t (steps.about partner steps.ask)) ≡ success (entry_bytes e) nothing
unfolding showing in_case◌then◌else◌
shown_entry t partner e lawful q =
    ap (showing partner) (refusals.asked_is_found t partner e lawful q)
    ∙ ap (λ (o : Option Entry). success (record_of o) nothing) q

shown_so : (t : Table) (partner : Text) → legal t ≡ true
    → body_of (steps.entry_of partner t) ≡ showing partner (run t (steps.about partner steps.ask))
shown_so t partner lawful = go (steps.entry_of partner t) refl
  where
    go : (o : Option Entry) → steps.entry_of partner t ≡ o
        → body_of (steps.entry_of partner t) ≡ showing partner (run t (steps.about partner steps.ask))
    go None q = ap body_of q ∙ sym (shown_nobody t partner lawful q)
    go (Some e) q = ap body_of q ∙ sym (shown_entry t partner e lawful q)

-- ---- 13

module _ (image buffer : Text) (h : decode image ≡ None) where
  over_none : (c : steps.Call) → over_image image buffer c ≡ refused 13 image buffer
  unfolding outcome_over image_over
  over_none c = rw (outcome_over, image_over, h) (left_refusal 13 image buffer)

  pub no_image : (c : Call) → leaves image buffer c ≡ refused 13 image buffer
  unfolding leaves outcome_over ask_over load_over remove_over
  no_image (receive text) = over_none _
  no_image (build_ksm partner request) = over_none _
  no_image (build_rsi partner service) = rw (outcome_over, h) (left_refusal 13 image buffer)
  no_image (ask partner) = rw (ask_over, h) (left_refusal 13 image buffer)
  no_image (give_up partner) = over_none _
  no_image (load partner name key) = rw (load_over, h) (left_refusal 13 image buffer)
  no_image (remove partner) = rw (remove_over, h) (left_refusal 13 image buffer)

-- ---- an image

module _ (image buffer : Text) (t : Table) (h : decode image ≡ Some t) where
  lawful : legal t ≡ true
  lawful = ((stored.claims).read_then_write image t h).0

  encoded : encode t ≡ image
  encoded = ((stored.claims).read_then_write image t h).1

  over_some : (c : steps.Call)
      → over_image image buffer c ≡ left (run t c).outcome (encode (run t c).table) buffer
  unfolding outcome_over image_over
  over_some c = rw (outcome_over, image_over, h)

  -- a refusal of the steps
  over_refused : (c : steps.Call) (n : ℕ) → run t c ≡ refuse t n → over_image image buffer c ≡ refused n image buffer
  over_refused c n e =
      over_some c ∙ ap (λ (a : After). left a.outcome (encode a.table) buffer) e
      ∙ ap (λ (s : Text). left (refusal n) s buffer) encoded ∙ left_refusal n image buffer

  -- ---- 6

  pub no_room : (c : Call) → length buffer < room_for c → leaves image buffer c ≡ refused 6 image buffer
  unfolding leaves outcome_over ask_over load_over remove_over
  no_room (receive text) r = over_refused _ 6 (refusals.no_room_to_receive t (length buffer) text lawful r)
  no_room (build_ksm partner request) r =
      over_refused _ 6 (refusals.no_room_to_build t (length buffer) partner (request_in request) lawful r)
  no_room (build_rsi partner service) r =
      rw (outcome_over, h)
      (ap (λ (a : After). left a.outcome image buffer)
      (refusals.no_room_to_ask_for_service t (length buffer) partner service lawful r) ∙ left_refusal 6 image buffer)
  no_room (ask partner) r =
      rw (ask_over, h)
      (ap (λ (o : Outcome). left o image buffer) (if_true _ _ _ (lt-ltb (length buffer) 256 r))
      ∙ left_refusal 6 image buffer)
  no_room (give_up partner) r = absurd (omega arith)
  no_room (load partner name key) r =
      rw (load_over, h)
      (ap (λ (o : Outcome). left o image buffer) (if_true _ _ _ (lt-ltb (length buffer) largest r))
      ∙ left_refusal 6 image buffer)
  no_room (remove partner) r =
      rw (remove_over, h)
      (ap (λ (o : Outcome). left o image buffer) (if_true _ _ _ (lt-ltb (length buffer) largest r))
      ∙ left_refusal 6 image buffer)

  -- ---- a load without a key

  load_is : (partner name key : Text) → largest ≤ length buffer
      → leaves image buffer (load partner name key) ≡ left (load_with t partner name (top_in key)) image buffer
  unfolding leaves load_over
  load_is partner name key r =
      rw (load_over, h)
      (ap (λ (o : Outcome). left o image buffer) (if_false _ _ _ (le-ltb (length buffer) largest r)))

  module _ (partner name key : Text) (room : largest ≤ length buffer) (none_there : top_in key ≡ None) where
    keyless : leaves image buffer (load partner name key)
        ≡ left (in_case bad_identity t partner then refusal 10 else refusal 12) image buffer
    unfolding load_with
    keyless =
        load_is partner name key room
        ∙ ap (λ (o : Option Top). left (load_with t partner name o) image buffer) none_there

    pub keyless_10 : bad_identity t partner ≡ true
        → leaves image buffer (load partner name key) ≡ refused 10 image buffer
    keyless_10 b =
        keyless ∙ ap (λ (o : Outcome). left o image buffer) (if_true (bad_identity t partner) _ _ b)
        ∙ left_refusal 10 image buffer

    pub keyless_12 : bad_identity t partner ≡ false
        → leaves image buffer (load partner name key) ≡ refused 12 image buffer
    keyless_12 b =
        keyless ∙ ap (λ (o : Outcome). left o image buffer) (if_false (bad_identity t partner) _ _ b)
        ∙ left_refusal 12 image buffer

    -- with a bad key name the steps answer so too
    nameless : (b : Bool) → bad_identity t partner ≡ b
        → (in_case b then refuse t 10 else refuse t 12) ≡ run t (steps.load partner [] (Single 0))
    unfolding run perform steps.loading in_case◌then◌else◌
    nameless true p = sym (if_true (legal t) _ _ lawful ∙ if_true (bad_identity t partner) _ _ p)
    nameless false p = sym (if_true (legal t) _ _ lawful ∙ if_false (bad_identity t partner) _ _ p)

    apart : {n m : ℕ} → refuse t n ≡ refuse t m → n ≡ m
    apart e = ap (λ (a : After). a.outcome.answer) e

    pub no_key : GoodIdentity t partner → leaves image buffer (load partner name key) ≡ refused 12 image buffer
    unfolding in_case◌then◌else◌
    no_key g = go (bad_identity t partner) refl
      where
        go : (b : Bool) → bad_identity t partner ≡ b
            → leaves image buffer (load partner name key) ≡ refused 12 image buffer
        go true p =
            absurd (eqb-false 10 12 refl
            (apart (nameless true p ∙ refusals.bad_name_is_12 t partner [] (Single 0) lawful g refl)))
        go false p = keyless_12 p

    pub no_key_but_10 : (GoodIdentity t partner → ⊥)
        → leaves image buffer (load partner name key) ≡ refused 10 image buffer
    unfolding in_case◌then◌else◌
    no_key_but_10 g = go (bad_identity t partner) refl
      where
        go : (b : Bool) → bad_identity t partner ≡ b
            → leaves image buffer (load partner name key) ≡ refused 10 image buffer
        go true p = keyless_10 p
        go false p =
            absurd (eqb-false 12 10 refl
            (apart (nameless false p ∙ refusals.bad_identity_is_10 t partner [] (Single 0) lawful g)))

  -- ---- the steps

  pub by_steps : (c : Call) (d : steps.Call) → room_for c ≤ length buffer → step_of (length buffer) c ≡ Some d
      → leaves image buffer c ≡ stepped image buffer c (run t d)
  unfolding leaves outcome_over ask_over load_with remove_over
  by_steps (receive text) d r e =
      over_some _ ∙ ap (λ (x : steps.Call). stepped image buffer (receive text) (run t x)) (some_inj e)
  by_steps (build_ksm partner request) d r e =
      over_some _ ∙ ap (λ (x : steps.Call). stepped image buffer (build_ksm partner request) (run t x)) (some_inj e)
  by_steps (build_rsi partner service) d r e =
      rw (outcome_over, h)
      (ap (λ (x : steps.Call). stepped image buffer (build_rsi partner service) (run t x)) (some_inj e))
  by_steps (ask partner) d r e =
      rw (ask_over, h)
      (ap (λ (o : Outcome). left o image buffer) (if_false _ _ _ (le-ltb (length buffer) 256 r) ∙ shown_so t partner lawful)
      ∙ ap (λ (x : steps.Call). stepped image buffer (ask partner) (run t x)) (some_inj e))
  by_steps (give_up partner) d r e =
      over_some _ ∙ ap (λ (x : steps.Call). stepped image buffer (give_up partner) (run t x)) (some_inj e)
  by_steps (load partner name key) d r e = load_is partner name key r ∙ go (top_in key) e
    where
      go : (o : Option Top) → loading partner name o ≡ Some d
          → left (load_with t partner name o) image buffer ≡ left (delivering (run t d)) image buffer
      go None e = absurd (none_some _ e)
      go (Some top) e = ap (λ (x : steps.Call). left (delivering (run t x)) image buffer) (some_inj e)
  by_steps (remove partner) d r e =
      rw (remove_over, h)
      (ap (λ (o : Outcome). left o image buffer) (if_false _ _ _ (le-ltb (length buffer) largest r))
      ∙ ap (λ (x : steps.Call). stepped image buffer (remove partner) (run t x)) (some_inj e))

-- ---- every way

-- a refusal with one of the call's own numbers, or the steps on the table of the image
pub data Way (image buffer : Text) (c : Call) : Left → Type 0 where
  refuses : (n : ℕ) → n ∈ answers_of c → (n ≡ 0 → ⊥) → (n ≡ 4 → ⊥) → Way image buffer c (refused n image buffer)
  makes : (t : Table) (d : steps.Call) → decode image ≡ Some t → step_of (length buffer) c ≡ Some d
      → Way image buffer c (stepped image buffer c (run t d))

thirteen : (c : Call) → 13 ∈ answers_of c
thirteen (receive text) = is_in 13 _ refl
thirteen (build_ksm partner request) = is_in 13 _ refl
thirteen (build_rsi partner service) = is_in 13 _ refl
thirteen (ask partner) = is_in 13 _ refl
thirteen (give_up partner) = is_in 13 _ refl
thirteen (load partner name key) = is_in 13 _ refl
thirteen (remove partner) = is_in 13 _ refl

six : (c : Call) (room : ℕ) → room < room_for c → 6 ∈ answers_of c
six (receive text) room h = is_in 6 _ refl
six (build_ksm partner request) room h = is_in 6 _ refl
six (build_rsi partner service) room h = is_in 6 _ refl
six (ask partner) room h = is_in 6 _ refl
six (give_up partner) room h = absurd (omega arith)
six (load partner name key) room h = is_in 6 _ refl
six (remove partner) room h = is_in 6 _ refl

module _ (image buffer : Text) (t : Table) (h : decode image ≡ Some t) where
  no_step : (c : Call) → room_for c ≤ length buffer → step_of (length buffer) c ≡ None
      → Way image buffer c (leaves image buffer c)
  no_step (receive text) r e = absurd (none_some _ (sym e))
  no_step (build_ksm partner request) r e = absurd (none_some _ (sym e))
  no_step (build_rsi partner service) r e = absurd (none_some _ (sym e))
  no_step (ask partner) r e = absurd (none_some _ (sym e))
  no_step (give_up partner) r e = absurd (none_some _ (sym e))
  no_step (load partner name key) r e = go (top_in key) refl e
    where
      by : (b : Bool) → bad_identity t partner ≡ b → top_in key ≡ None
          → Way image buffer (load partner name key) (leaves image buffer (load partner name key))
      by true p q =
          subst (Way image buffer (load partner name key)) (sym (keyless_10 image buffer t h partner name key r q p))
          (refuses 10 (is_in 10 _ refl) (eqb-false 10 0 refl) (eqb-false 10 4 refl))
      by false p q =
          subst (Way image buffer (load partner name key)) (sym (keyless_12 image buffer t h partner name key r q p))
          (refuses 12 (is_in 12 _ refl) (eqb-false 12 0 refl) (eqb-false 12 4 refl))

      go : (o : Option Top) → top_in key ≡ o → loading partner name o ≡ None
          → Way image buffer (load partner name key) (leaves image buffer (load partner name key))
      go None q e = by (bad_identity t partner) refl q
      go (Some top) q e = absurd (none_some _ (sym e))
  no_step (remove partner) r e = absurd (none_some _ (sym e))

  with_image : (c : Call) → Way image buffer c (leaves image buffer c)
  with_image c = go (ltb (length buffer) (room_for c)) refl
    where
      step : room_for c ≤ length buffer → (o : Option steps.Call) → step_of (length buffer) c ≡ o
          → Way image buffer c (leaves image buffer c)
      step r None e = no_step c r e
      step r (Some d) e =
          subst (Way image buffer c) (sym (by_steps image buffer t h c d r e)) (makes t d h e)

      go : (b : Bool) → ltb (length buffer) (room_for c) ≡ b → Way image buffer c (leaves image buffer c)
      go true p =
          let r = ltb-true (length buffer) (room_for c) p in
          subst (Way image buffer c) (sym (no_room image buffer t h c r))
          (refuses 6 (six c (length buffer) r) (eqb-false 6 0 refl) (eqb-false 6 4 refl))
      go false p =
          step (ltb-false (length buffer) (room_for c) p) (step_of (length buffer) c) refl

pub way : (image buffer : Text) (c : Call) → Way image buffer c (leaves image buffer c)
way image buffer c = go (decode image) refl
  where
    go : (o : Option Table) → decode image ≡ o → Way image buffer c (leaves image buffer c)
    go None h =
        subst (Way image buffer c) (sym (no_image image buffer h c))
        (refuses 13 (thirteen c) (eqb-false 13 0 refl) (eqb-false 13 4 refl))
    go (Some t) h = with_image image buffer t h c

-- ---- start

module _ (own out : Text) where
  pub start_no_room : length out < largest → start_leaves own out ≡ refused 6 [] out
  unfolding start_leaves start_over
  start_no_room r =
      ap (λ (o : Outcome). left o [] out) (if_true _ _ _ (lt-ltb (length out) largest r)) ∙ left_refusal 6 [] out

  started_by : largest ≤ length out → (b : Bool) → is_name own ≡ b
      → start_leaves own out ≡ left (elim (in_case b then Some (started (name_of own)) else None) as (λ x. Outcome) [
        | None ↦ refusal 10
        | Some t ↦ success (encode t) nothing
      ]) [] out
  unfolding start_leaves start_over steps.start
  started_by r b p =
      ap (λ (o : Outcome). left o [] out) (if_false _ _ _ (le-ltb (length out) largest r)
      ∙ ap {B = Outcome} (λ (b : Bool). elim (in_case b then Some (started (name_of own)) else None) as (λ x. Outcome) [
        | None ↦ refusal 10
        | Some t ↦ success (encode t) nothing
      ]) p)

  pub start_no_name : largest ≤ length out → is_name own ≡ false → start_leaves own out ≡ refused 10 [] out
  unfolding in_case◌then◌else◌
  start_no_name r p = started_by r false p ∙ left_refusal 10 [] out

  pub start_done : largest ≤ length out → is_name own ≡ true
      → start_leaves own out ≡ left (success (encode (started (name_of own))) nothing) [] out
  unfolding in_case◌then◌else◌
  start_done r p = started_by r true p

-- a refusal, or the image of a new table
pub data Beginning (own out : Text) : Left → Type 0 where
  refuses : (n : ℕ) → n ∈ (0 ∷ 6 ∷ 10 ∷ []) → (n ≡ 0 → ⊥) → Beginning own out (refused n [] out)
  starts : is_name own ≡ true → Beginning own out (left (success (encode (started (name_of own))) nothing) [] out)

pub beginning : (own out : Text) → Beginning own out (start_leaves own out)
beginning own out = go (ltb (length out) largest) refl
  where
    named : largest ≤ length out → (b : Bool) → is_name own ≡ b → Beginning own out (start_leaves own out)
    named r true p = subst (Beginning own out) (sym (start_done own out r p)) (starts p)
    named r false p =
        subst (Beginning own out) (sym (start_no_name own out r p)) (refuses 10 (is_in 10 _ refl) (eqb-false 10 0 refl))

    go : (b : Bool) → ltb (length out) largest ≡ b → Beginning own out (start_leaves own out)
    go true p =
        subst (Beginning own out) (sym (start_no_room own out (ltb-true (length out) largest p)))
        (refuses 6 (is_in 6 _ refl) (eqb-false 6 0 refl))
    go false p = named (ltb-false (length out) largest p) (is_name own) refl
