-- The end of image writing: what is laid is the table's image.
use Rattle.std.proofs.Common.{◌≡◌, refl, sym, ap, ◌∙◌, true, false, not, ◌&&◌, List, ℕ, suc, ◌<◌, ◌≤◌, ltb, length, take, drop, length-append, Ok, Err, arith}
use lib.Seq.{take_at}
use borrow.Author.Tests.{lt-ltb, le-ltb}
use Rattle.octets.specs.Text.{Text, is_name}
use Rattle.octets.specs.Wrote.{Wrote}
use Rattle.octets.proofs.Writing.{wrote_fits}
use Rattle.partner.specs.declared.Entry.{Entry}
use Rattle.partner.specs.Entry.{filled}
use Rattle.partner.proofs.Naming.{length_filled}
use Rattle.partner.specs.Table.{legal}
use Rattle.image.specs.Image.{encode, slots_bytes}
use Rattle.calls.specs.declared.Refusal.{Refusal}
use Rattle.calls.specs.declared.Refusal.TheVariants.{NoRoom, Illegal}
use Rattle.calls.specs.Refusal.{number}
use Rattle.calls.specs.Outcome.{Outcome, refusal, success, nothing}
use Rattle.calls.proofs.Tests.{if_true, if_false}
use Rattle.outcome.specs.declared.Told.TheVariants.{Nothing}
use Rattle.outcome.specs.declared.Given.TheVariants.{Done}
use Rattle.outcome.specs.Report.{report, report_of, replied}
use Rattle.sight.specs.Table.{table, row_legal}
use Rattle.row.specs.Stored.{size}
use Rattle.row.specs.Calls.{image_given, ImageWritten}

-- the image has that size
image_size : (own : Text) (slots : List Entry) → length (encode (table own slots)) ≡ size slots
unfolding encode
image_size own slots =
    ap suc (length-append (filled own) (slots_bytes slots)) ∙ omega (arith, length_filled own)

-- with room for it, the whole image of a legal row
pub all_written : (own : Text) (slots : List Entry) (room : ℕ) → is_name own && legal (table own slots) ≡ true
    → length (encode (table own slots)) ≤ room → image_given own slots room ≡ success (encode (table own slots)) nothing
unfolding image_given row_legal
all_written own slots room l h =
    if_false (not (row_legal own slots)) _ _ (ap not l)
    ∙ if_false (ltb room (length (encode (table own slots)))) _ _ (le-ltb room (length (encode (table own slots))) h)

-- and the image is what stands at the front of the buffer
pub image_there : (own : Text) (slots : List Entry) (out : Text) (o : Outcome) → o ≡ success (encode (table own slots)) nothing
    → ((report o).answer ≡ 0) × (take (report o).length (replied o out) ≡ encode (table own slots))
unfolding report replied
image_there own slots out o e =
    let i : Text = encode (table own slots) in
    (ap (λ (p : Outcome). p.answer) e, rw e (take_at i (drop (length i) out) (length i) refl))

-- as the code reaches it
module _ (own : Text) (slots : List Entry) (out : Text) where
  refused : (r : Refusal) → image_given own slots (length out) ≡ refusal (number r) → ImageWritten own slots out (report_of (Err r)) out
  unfolding report replied
  refused r e = record { given = ap report (sym e); out = ap (λ (o : Outcome). replied o out) (sym e) }

  pub illegal : row_legal own slots ≡ false → ImageWritten own slots out (report_of (Err Illegal)) out
  unfolding image_given
  illegal l = refused Illegal (if_true (not (row_legal own slots)) _ _ (ap not l))

  pub no_room : row_legal own slots ≡ true → length out < size slots → ImageWritten own slots out (report_of (Err NoRoom)) out
  unfolding image_given
  no_room l h =
      let k : length out < length (encode (table own slots)) = omega (arith, image_size own slots) in
      refused NoRoom
      (if_false (not (row_legal own slots)) _ _ (ap not l) ∙ if_true (ltb (length out) (length (encode (table own slots)))) _ _ (lt-ltb _ _ k))

  pub whole : row_legal own slots ≡ true → size slots ≤ length out → (n : ℕ) (l : Text)
      → Wrote (encode (table own slots)) out l n → ImageWritten own slots out (report_of (Ok (Done n Nothing))) l
  unfolding row_legal report replied
  whole l h n ws w =
      let k : length (encode (table own slots)) ≤ length out = omega (arith, image_size own slots) in
      let e = all_written own slots (length out) l k in
      let f = wrote_fits w k in
      record { given = rw f.1 (ap report (sym e)); out = f.0 ∙ ap (λ (o : Outcome). replied o out) (sym e) }
