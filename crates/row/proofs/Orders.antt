-- The order of the answers over a lent row.
use mathlib.Core.Path.{◌≡◌, refl, ap, ◌∙◌}
use mathlib.Core.Bool.{true, not, ◌&&◌}
use mathlib.Core.List.{List}
use Prim.Native.Nat.{ℕ, ◌<◌}
use lib.Dec.{eqb, ltb}
use lib.ListN.{length}
use borrow.Author.Tests.{lt-ltb, le-ltb, eq-eqb, ne_eqb}
use Rattle.octets.specs.Text.{Text, is_name}
use Rattle.octets.proofs.Comparing.{both as and_true}
use Rattle.partner.specs.declared.Entry.{Entry}
use Rattle.partner.specs.Entry.{filled}
use Rattle.partner.specs.Table.{legal}
use Rattle.image.specs.Image.{encode}
use Rattle.calls.specs.Words.{in_case◌then◌else◌}
use Rattle.calls.specs.Outcome.{refusal}
use Rattle.calls.specs.Calls.{Call, After, receive, about, build_ksm, build_rsi, refuse, perform, run, start}
use Rattle.calls.proofs.Tests.{if_true, if_false}
use Rattle.sight.specs.Table.{table, row_legal, over_row}
use Rattle.row.specs.Calls.{slot_of, shown_of, asked, slots_or, start_row, read_row, image_given}
use Rattle.row.specs.Stored.{start_answer, read_answer}
use Rattle.row.specs.Orders.{Orders}

module _ (own : Text) (slots : List Entry) (lawful : is_name own && legal (table own slots) ≡ true) where
  -- a call that asks for room first
  no_room : (room : ℕ) (c : Call) (after : After)
      → perform (table own slots) c ≡ (in_case ltb room 256 then refuse (table own slots) 6 else after)
      → room < 256 → (over_row own slots c).outcome ≡ refusal 6
  unfolding over_row run
  no_room room c after p h =
      let l = and_true (is_name own) (legal (table own slots)) lawful in
      ap (λ (a : After). a.outcome)
      (if_true (is_name own) _ _ l.0 ∙ if_true (legal (table own slots)) _ _ l.1 ∙ p
      ∙ if_true (ltb room 256) _ _ (lt-ltb room 256 h))

pub orders : Orders
unfolding perform asked row_legal start_answer start_row read_answer read_row image_given start
orders = record {
  receive_6 = λ own slots room text l h. no_room own slots l room (receive room text) _ refl h;
  build_ksm_6 = λ own slots room id q l h. no_room own slots l room (about id (build_ksm room q)) _ refl h;
  build_rsi_6 = λ own slots room id contents l h. no_room own slots l room (about id (build_rsi room contents)) _ refl h;
  ask_13 = λ own slots id l. if_false _ _ _ l;
  ask_3 = λ own slots id l h. if_true _ _ _ l ∙ ap (shown_of (slot_of (filled id) slots)) h;
  ask_0 = λ own slots id e l h. if_true _ _ _ l ∙ ap (shown_of (slot_of (filled id) slots)) h;
  start_13 = λ own n h. rw (ne_eqb n 64 h);
  start_10 = λ own h. rw h;
  start_0 = λ own row n h. (
    rw n,
    if_true (eqb (length row) 64) _ _ (eq-eqb (length row) 64 h) ∙ ap (slots_or row) (if_true (is_name own) _ _ n),
  );
  read_13_row = λ image n h. rw (ne_eqb n 64 h);
  read_13_image = λ image h. rw h;
  read_0 = λ image t row d h. (
    rw d,
    if_true (eqb (length row) 64) _ _ (eq-eqb (length row) 64 h) ∙ ap (slots_or row) d,
  );
  write_13 = λ own slots room l. if_true _ _ _ (ap not l);
  write_6 = λ own slots room l h.
      if_false _ _ _ (ap not l)
      ∙ if_true (ltb room (length (encode (table own slots)))) _ _ (lt-ltb room (length (encode (table own slots))) h);
  write_0 = λ own slots room l h.
      if_false _ _ _ (ap not l)
      ∙ if_false (ltb room (length (encode (table own slots)))) _ _ (le-ltb room (length (encode (table own slots))) h);
}
