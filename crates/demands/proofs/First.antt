-- Demand 1.
use Rattle.std.specs.Prelude.{Option, None, Some}
use mathlib.Core.Path.{◌≡◌, refl, sym, ap, ◌∙◌, subst}
use mathlib.Core.List.Memᴰ
use mathlib.Core.List.{List, [], ◌∷◌, ◌++◌}
use mathlib.Core.Logic.{◌≢◌}
use Prim.Native.Nat.{ℕ}
use native.Mathlib.Omega.{arith}
use lib.Dec.{eqb}
use lib.ListN.{length, drop}
use borrow.Author.Tests.{eqb-false, ne_eqb}
use Rattle.octets.specs.Text.{Text}
use Rattle.octets.specs.Part.{bare}
use Rattle.octets.specs.Number.{bytes, copies}
use Rattle.keying.specs.declared.Top.{Top}
use Rattle.csm.specs.Message.{Reading, esm, read}
use Rattle.csm.proofs.TextLaws.{some_inj, none_some}
use Rattle.partner.specs.Entry.{name_of}
use Rattle.partner.specs.Table.{Table, started}
use Rattle.image.specs.Image.{decode, encode}
use Rattle.image.proofs.Claims as stored
use Rattle.calls.specs.Outcome.{Outcome, nothing, refusal, success}
use Rattle.calls.specs.Calls.{After, refuse, receiving, perform, run}
use Rattle.calls.specs.Calls as steps
use Rattle.calls.specs.Claims as said
use Rattle.calls.proofs.Tests.{by_case, if_false}
use Rattle.calls.proofs.Claims as call
use Rattle.card.specs.Whole.{delivering, top_in}
use Rattle.card.proofs.Tables.{own_is}
use Rattle.line.specs.Line.{◌∈◌}
use Rattle.demands.specs.Face.{Call, receive, build_ksm, build_rsi, ask, give_up, load, remove, Left, left}
use Rattle.demands.specs.Face.{leaves, start_leaves, put_out}
use Rattle.demands.specs.Terms.{Bytes, OfBytes, answers_of, refused, Complains, loading, step_of, showing}
use Rattle.demands.specs.Terms.{in_bytes}
use Rattle.demands.specs.Demands.{Demand1}
use Rattle.demands.proofs.Telling.{left_refusal, error_report, written_reply, rest_stays}
use Rattle.demands.proofs.Answers.{is_in, run_gives}
use Rattle.demands.proofs.Ways.{image_by, stepped, Way, refuses, makes, way, Beginning, starts, beginning}
use Rattle.demands.proofs.Keeping.{reply_short}
use Rattle.demands.proofs.Starting.{started_short}
use Rattle.demands.proofs.Stepping.{in_bytes_answer, short}

-- ---- answers

made : {c d : steps.Call} (l : List ℕ) (t : Table) → c ≡ d → (run t c).outcome.answer ∈ l → (run t d).outcome.answer ∈ l
made l t p m = subst (λ (x : steps.Call). (run t x).outcome.answer ∈ l) p m

step_gives : (c : Call) (room : ℕ) (t : Table) (d : steps.Call) → step_of room c ≡ Some d
    → (run t d).outcome.answer ∈ answers_of c
step_gives (receive text) room t d e = made _ t (some_inj e) (run_gives t _ _ refl)
step_gives (build_ksm partner request) room t d e = made _ t (some_inj e) (run_gives t _ _ refl)
step_gives (build_rsi partner service) room t d e = made _ t (some_inj e) (run_gives t _ _ refl)
step_gives (ask partner) room t d e = made _ t (some_inj e) (run_gives t _ _ refl)
step_gives (give_up partner) room t d e = made _ t (some_inj e) (run_gives t _ _ refl)
step_gives (load partner name key) room t d e = go (top_in key) e
  where
    go : (o : Option Top) → loading partner name o ≡ Some d
        → (run t d).outcome.answer ∈ answers_of (load partner name key)
    go None e = absurd (none_some _ e)
    go (Some top) e = made _ t (some_inj e) (run_gives t _ _ refl)
step_gives (remove partner) room t d e = made _ t (some_inj e) (run_gives t _ _ refl)

answers : (image buffer : Text) (c : Call) (l : Left) → Way image buffer c l → l.answer ∈ answers_of c
unfolding left
answers image buffer c l (refuses n m h k) = m
answers image buffer c l (makes t d is e) =
    Memᴰ.cast (in_bytes_answer c (run t d)) (step_gives c (length buffer) t d e)

-- ---- refusals

module _ (image buffer : Text) (t : Table) (is : decode image ≡ Some t) (n : ℕ) (not_done : n ≢ 0) where
  encoded : encode t ≡ image
  encoded = ((stored.claims).read_then_write image t is).1

  delivers : delivering (refuse t n) ≡ refusal n
  unfolding delivering
  delivers = if_false (eqb n 0) _ _ (ne_eqb n 0 not_done)

  stays : left (refusal n) (encode t) buffer ≡ refused n image buffer
  stays = ap (λ (s : Text). left (refusal n) s buffer) encoded ∙ left_refusal n image buffer

  new : left (delivering (refuse t n)) image buffer ≡ refused n image buffer
  new = ap (λ (o : Outcome). left o image buffer) delivers ∙ left_refusal n image buffer

  shows : (partner : Text) → showing partner (refuse t n) ≡ refusal n
  unfolding showing
  shows partner = if_false (eqb n 0) _ _ (ne_eqb n 0 not_done)

  refused_step : (c : Call) → stepped image buffer c (refuse t n) ≡ refused n image buffer
  refused_step (receive text) = stays
  refused_step (build_ksm partner request) = stays
  refused_step (build_rsi partner service) = left_refusal n image buffer
  refused_step (ask partner) =
      ap (λ (o : Outcome). left o image buffer) (shows partner) ∙ left_refusal n image buffer
  refused_step (give_up partner) = stays
  refused_step (load partner name key) = new
  refused_step (remove partner) = new

-- a refusal of the steps
bare_after : (t : Table) (d : steps.Call) → (run t d).outcome.answer ≢ 0 → (run t d).outcome.answer ≢ 4
    → run t d ≡ refuse t (run t d).outcome.answer
bare_after t d h k = λ i. record {
  outcome = (call.claims).refusals_are_bare t d h k i;
  table = (call.claims).unless_done_nothing_changes t d h i;
}

refusals : (image buffer : Text) (c : Call) (l : Left) → Way image buffer c l → l.answer ≢ 0 → l.answer ≢ 4
    → l ≡ refused l.answer image buffer
unfolding left
refusals image buffer c l (refuses n m h k) p q = refl
refusals image buffer c l (makes t d is e) p q =
    let a = in_bytes_answer c (run t d) in
    let h : (run t d).outcome.answer ≢ 0 = λ z. p (a ∙ z) in
    let k : (run t d).outcome.answer ≢ 4 = λ z. q (a ∙ z) in
    ap (stepped image buffer c) (bare_after t d h k)
    ∙ refused_step image buffer t is (run t d).outcome.answer h c
    ∙ ap (λ (n : ℕ). refused n image buffer) (sym a)

-- ---- errors

-- a text that is no message is no error
unread : (t : Table) (room : ℕ) (text : Text) → read text ≡ None → (run t (steps.receive room text)).outcome.answer ≢ 4
unfolding run perform receiving
unread t room text q =
    by_case (λ (a : After). a.outcome.answer ≢ 4) _ _ _
    (λ _. by_case (λ (a : After). a.outcome.answer ≢ 4) _ _ _ (λ _. eqb-false 6 4 refl)
    (λ _. subst (λ (o : Option Reading). (receiving t text o).outcome.answer ≢ 4) (sym q) (eqb-false 1 4 refl)))
    (λ _. eqb-false 13 4 refl)

module _ (image text buffer : Text) (t : Table) (is : decode image ≡ Some t)
    (four : (run t (steps.receive (length buffer) text)).outcome.answer ≡ 4) where
  abbrev after : After
  after = run t (steps.receive (length buffer) text)

  abbrev result : Left
  result = stepped image buffer (receive text) after

  kept_so : encode after.table ≡ image
  kept_so =
      ap encode ((call.claims).unless_done_nothing_changes t (steps.receive (length buffer) text)
      (λ z. eqb-false 4 0 refl (sym four ∙ z)))
      ∙ ((stored.claims).read_then_write image t is).1

  written_so : put_out result ≡ after.outcome.reply
  written_so =
      written_reply after.outcome (encode after.table) buffer
      (omega (arith, reply_short t (steps.receive (length buffer) text)))

  complains : (r : Reading) → read text ≡ Some r → said.Complains (bare t.own) r.org after.outcome
      → Complains image text result
  unfolding left
  complains r q k = record {
    table_stays = kept_so;
    about = r;
    reading = q;
    message = k.message;
    error = ap read written_so ∙ k.written
        ∙ ap (λ (us : Text). Some (record { rcv = r.org; org = bare us; body = esm k.message }))
        (sym (own_is image t is));
    some_letter = λ z. k.some_letter (sym k.same_letters ∙ z);
    no_edc = k.no_edc;
    told = error_report after.outcome k.no_more
        ∙ ap (λ (n : ℕ). bytes 2 n ++ (bytes 2 (length after.outcome.reply) ++ copies 28 0)) (sym k.same_letters)
        ∙ ap (λ (w : Text). bytes 2 k.message.erf ++ (bytes 2 (length w) ++ copies 28 0)) (sym written_so);
  }

  errs : Complains image text result
  unfolding said.subject
  errs = go (read text) refl ((call.claims).errors_are_answered t (steps.receive (length buffer) text) four)
    where
      go : (o : Option Reading) → read text ≡ o
          → said.Complains (bare t.own) (said.sender o) (run t (steps.receive (length buffer) text)).outcome
          → Complains image text (stepped image buffer (receive text) (run t (steps.receive (length buffer) text)))
      go None q k = absurd (unread t (length buffer) text q four)
      go (Some r) q k = complains r q k

errors : (image text buffer : Text) (l : Left) → Way image buffer (receive text) l → l.answer ≡ 4
    → Complains image text l
unfolding left
errors image text buffer l (refuses n m h k) z = absurd (k z)
errors image text buffer l (makes t d is e) z =
    subst (λ (x : steps.Call). (run t x).outcome.answer ≡ 4
    → Complains image text (stepped image buffer (receive text) (run t x))) (some_inj e) (errs image text buffer t is) z

-- ---- the bytes behind a reply

rest : (image buffer : Text) (c : Call) (l : Left) → Bytes image → OfBytes c → Way image buffer c l
    → drop (length (put_out l)) l.buffer ≡ drop (length (put_out l)) buffer
unfolding left
rest image buffer c l octets o (refuses n m h k) = refl
rest image buffer c l octets o (makes t d is e) =
    rest_stays (in_bytes c (run t d)) (image_by c image (run t d)) buffer (short image buffer t octets is c d o e)

-- ---- start

start_answers : (own out : Text) (l : Left) → Beginning own out l → l.answer ∈ (0 ∷ 6 ∷ 10 ∷ [])
unfolding left
start_answers own out l (Beginning.refuses n m h) = m
start_answers own out l (starts p) = is_in 0 _ refl

start_refusals : (own out : Text) (l : Left) → Beginning own out l → l.answer ≢ 0 → l ≡ refused l.answer [] out
unfolding left
start_refusals own out l (Beginning.refuses n m h) p = refl
start_refusals own out l (starts q) p = absurd (p refl)

start_rest : (own out : Text) (l : Left) → Beginning own out l
    → drop (length (put_out l)) l.buffer ≡ drop (length (put_out l)) out
start_rest own out l (Beginning.refuses n m h) = refl
start_rest own out l (starts n) =
    rest_stays (success (encode (started (name_of own))) nothing) [] out (started_short own n)

pub demand_1 : Demand1
demand_1 = record {
  answers = λ image buffer c. answers image buffer c (leaves image buffer c) (way image buffer c);
  start_answers = λ own out. start_answers own out (start_leaves own out) (beginning own out);
  refusals = λ image buffer c. refusals image buffer c (leaves image buffer c) (way image buffer c);
  start_refusals = λ own out. start_refusals own out (start_leaves own out) (beginning own out);
  errors = λ image text buffer.
      errors image text buffer (leaves image buffer (receive text)) (way image buffer (receive text));
  rest_stays = λ image buffer c octets o. rest image buffer c (leaves image buffer c) octets o (way image buffer c);
  start_rest_stays = λ own out. start_rest own out (start_leaves own out) (beginning own out);
}
