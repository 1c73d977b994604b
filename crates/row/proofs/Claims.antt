-- The claims of specs/Claims.antt, proved.
use Rattle.std.specs.Prelude.{Some}
use mathlib.Core.Path.{◌≡◌, refl, sym, ap, ◌∙◌}
use mathlib.Core.Bool.{Bool, true, false, ◌&&◌}
use mathlib.Core.List.{List}
use Prim.Native.Nat.{◌≤◌}
use lib.Dec.{eqb}
use lib.ListN.{length, take}
use borrow.Author.Tests.{eq-eqb}
use Rattle.octets.specs.Text.{Text, is_name}
use Rattle.octets.specs.Part.{bare}
use Rattle.octets.proofs.Comparing.{both as and_true}
use Rattle.partner.specs.declared.Entry.{Entry}
use Rattle.partner.proofs.Claims as entries
use Rattle.partner.specs.Table.{Table, legal, AllHeld}
use Rattle.image.specs.Image.{encode, decode}
use Rattle.image.proofs.Claims as images
use Rattle.calls.specs.Words.{in_case◌then◌else◌}
use Rattle.calls.specs.Calls.{Call, run, refuse}
use Rattle.calls.proofs.Tests.{if_true, if_false}
use Rattle.calls.proofs.Tables.{legal_parts, own_name}
use Rattle.outcome.specs.Report.{report, replied}
use Rattle.sight.specs.Table.{table, over_row}
use Rattle.row.specs.Calls.{slots_or, read_row, image_given}
use Rattle.row.specs.Claims.{Claims}
use Rattle.row.proofs.Writing.{all_written, image_there}

-- with a name of ours
over_named : (own : Text) (slots : List Entry) (c : Call) → is_name own ≡ true → over_row own slots c ≡ run (table own slots) c
unfolding over_row
over_named own slots c n = if_true (is_name own) (run (table own slots) c) (refuse (table own slots) 13) n

agree : (image : Text) (t : Table) (c : Call) → decode image ≡ Some t → over_row (bare t.own) t.slots c ≡ run t c
agree image t c h =
    let l = ((images.claims).read_then_write image t h).0 in
    over_named (bare t.own) t.slots c (own_name t l)
    ∙ ap (λ (w : Text). run (record { own = w; slots = t.slots }) c)
    ((entries.claims).filled_after_bare t.own (legal_parts t l).own)

thirteen : (own : Text) (slots : List Entry) (c : Call) → is_name own && legal (table own slots) ≡ false
    → over_row own slots c ≡ refuse (table own slots) 13
unfolding over_row run
thirteen own slots c h = go (is_name own) refl
  where
    go : (b : Bool) → is_name own ≡ b
        → (in_case is_name own then run (table own slots) c else refuse (table own slots) 13) ≡ refuse (table own slots) 13
    go true n =
        if_true (is_name own) (run (table own slots) c) (refuse (table own slots) 13) n
        ∙ if_false (legal (table own slots)) _ _ (ap (λ (b : Bool). b && legal (table own slots)) (sym n) ∙ h)
    go false n = if_false (is_name own) (run (table own slots) c) (refuse (table own slots) 13) n

back : (own : Text) (slots row : List Entry) → is_name own && legal (table own slots) ≡ true → AllHeld slots → length row ≡ 64
    → read_row (encode (table own slots)) row ≡ slots
unfolding read_row
back own slots row h k n =
    let l = (and_true (is_name own) (legal (table own slots)) h).1 in
    if_true (eqb (length row) 64) (slots_or row (decode (encode (table own slots)))) row (eq-eqb (length row) 64 n)
    ∙ ap (slots_or row) ((images.claims).write_then_read (table own slots) l k)

written_back : (own : Text) (slots row : List Entry) (out : Text) → is_name own && legal (table own slots) ≡ true
    → AllHeld slots → length row ≡ 64 → length (encode (table own slots)) ≤ length out
    → ((report (image_given own slots (length out))).answer ≡ 0)
    × (read_row (take (report (image_given own slots (length out))).length (replied (image_given own slots (length out)) out)) row ≡ slots)
written_back own slots row out h k n r =
    let w = image_there own slots out (image_given own slots (length out)) (all_written own slots (length out) h r) in
    (w.0, ap (λ (t : Text). read_row t row) w.1 ∙ back own slots row h k n)

pub claims : Claims
claims = record {
  faces_agree = agree;
  row_has_image = λ own slots c h k.
      let p = and_true (is_name own) (legal (table own slots)) h in
      ((images.claims).write_then_read (table own slots) p.1 k, over_named own slots c p.0);
  else_13 = thirteen;
  write_then_read = back;
  written_then_read = written_back;
}
