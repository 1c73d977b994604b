-- The calls that write to a lent buffer, on the table of a legal image; and what they leave in the buffer.
use Rattle.std.specs.Prelude.{Option, None, Some, Result, Ok}
use Rattle.std.specs.Bool.{then_some}
use Rattle.std.specs.Option.{ok_or}
use mathlib.Core.Path.{◌≡◌, refl, sym, ap, ◌∙◌}
use mathlib.Core.Bool.{Bool, true, false}
use mathlib.Core.List.{◌++◌}
use Prim.Native.Nat.{ℕ, ◌<◌, ◌≤◌}
use native.Mathlib.Omega.{arith}
use lib.Dec.{eqb, ltb, leb}
use lib.ListN.{length, drop}
use borrow.Author.Tests.{lt-ltb, le-ltb, le-leb}
use Rattle.octets.specs.Text.{Text, is_name}
use Rattle.keying.specs.declared.Top.{Top}
use Rattle.partner.specs.declared.Entry.{Entry}
use Rattle.partner.specs.Entry.{name_of}
use Rattle.partner.proofs.Naming.{length_filled}
use Rattle.partner.specs.Record.{entry_size, entry_bytes, put_entry}
use Rattle.partner.specs.Table.{Table, legal, started}
use Rattle.image.specs.Image.{largest, decode, encode}
use Rattle.image.specs.Results.{delivered, length_delivered}
use Rattle.image.proofs.Buffers.{delivered_room, started_size}
use Rattle.calls.specs.Words.{in_case◌then◌else◌}
use Rattle.calls.specs.Outcome.{Outcome, nothing, refusal, success}
use Rattle.calls.specs.Calls as calls
use Rattle.calls.specs.Calls.{about, remove, load, After, refuse, entry_of, bad_identity, loading, perform, run}
use Rattle.calls.proofs.Tests.{if_true, if_false}
use Rattle.outcome.specs.declared.Report.{Report}
use Rattle.outcome.specs.Report.{report, replied, plain}
use Rattle.card.specs.Over.{Written}
use Rattle.card.specs.Whole.{body_of, ask_over, start_over, delivering, top_in, load_with, load_over}
use Rattle.card.specs.Whole.{remove_over}
use Rattle.calls.specs.declared.Refusal.{Refusal}
use Rattle.calls.specs.declared.Refusal.TheVariants.{NoRoom}
use Rattle.card.specs.Ways.{told, top_or_zero, name_or_none}

-- ---- on the table

module _ (image : Text) where
  pub ask_none : decode image ≡ None → (room : ℕ) (id : Text) → ask_over image room id ≡ refusal 13
  unfolding ask_over
  ask_none d room id = rw (ask_over, d)

  pub remove_none : decode image ≡ None → (room : ℕ) (id : Text) → remove_over image room id ≡ refusal 13
  unfolding remove_over
  remove_none d room id = rw (remove_over, d)

  pub load_none : decode image ≡ None → (room : ℕ) (id name key : Text) → load_over image room id name key ≡ refusal 13
  unfolding load_over
  load_none d room id name key = rw (load_over, d)

  module _ (t : Table) (d : decode image ≡ Some t) (room : ℕ) where
    pub ask_table : (id : Text) → ask_over image room id ≡ (in_case ltb room 256 then refusal 6 else body_of (entry_of id t))
    unfolding ask_over
    ask_table id = rw (ask_over, d)

    pub remove_table : (id : Text)
        → remove_over image room id ≡ (in_case ltb room largest then refusal 6 else delivering (run t (about id remove)))
    unfolding remove_over
    remove_table id = rw (remove_over, d)

    pub load_table : (id name key : Text)
        → load_over image room id name key ≡ (in_case ltb room largest then refusal 6 else load_with t id name (top_in key))
    unfolding load_over
    load_table id name key = rw (load_over, d)

-- where the buffer is too short, and where it is not
pub too_short : (room n : ℕ) (o : Outcome) → room < n → (in_case ltb room n then refusal 6 else o) ≡ refusal 6
too_short room n o h = if_true (ltb room n) _ _ (lt-ltb room n h)

pub long_enough : (room n : ℕ) (o : Outcome) → n ≤ room → (in_case ltb room n then refusal 6 else o) ≡ o
long_enough room n o h = if_false (ltb room n) _ _ (le-ltb room n h)

-- a refusal delivers nothing; what is done delivers the image
pub undelivered : (t : Table) (n : ℕ) → eqb n 0 ≡ false → delivering (refuse t n) ≡ refusal n
unfolding delivering
undelivered t n h = if_false (eqb n 0) _ _ h

pub delivers : (a : After) → a.outcome.answer ≡ 0 → delivering a ≡ success (encode a.table) nothing
unfolding delivering
delivers a h = if_true (eqb a.outcome.answer 0) _ _ (ap (λ (n : ℕ). eqb n 0) h)

-- a key that is none is loaded as a key without a name is
none_delivered : (t : Table) (b : Bool)
    → delivering (in_case b then refuse t 10 else refuse t 12) ≡ (in_case b then refusal 10 else refusal 12)
unfolding delivering in_case◌then◌else◌
none_delivered t true = refl
none_delivered t false = refl

pub load_with_is : (t : Table) → legal t ≡ true → (id name : Text) (o : Option Top)
    → load_with t id name o ≡ delivering (run t (load id (name_or_none name o) (top_or_zero o)))
unfolding load_with run perform loading
load_with_is t l id name (Some top) = refl
load_with_is t l id name None =
    sym (ap delivering (if_true (legal t) _ _ l
    ∙ ap (λ (w : After). in_case bad_identity t id then refuse t 10 else w) (if_true true (refuse t 12) _ refl))
    ∙ none_delivered t (bad_identity t id))

-- ---- start

module _ (own : Text) (room : ℕ) where
  pub start_short : room < largest → start_over own room ≡ refusal 6
  unfolding start_over
  start_short h = if_true (ltb room largest) _ _ (lt-ltb room largest h)

  pub start_malformed : largest ≤ room → is_name own ≡ false → start_over own room ≡ refusal 10
  unfolding start_over calls.start in_case◌then◌else◌
  start_malformed h n = rw (le-ltb room largest h, n)

  pub start_done : largest ≤ room → is_name own ≡ true
      → start_over own room ≡ success (encode (started (name_of own))) nothing
  unfolding start_over calls.start in_case◌then◌else◌
  start_done h n = rw (le-ltb room largest h, n)

  pub start_fits : largest ≤ room → length (encode (started (name_of own))) ≤ room
  start_fits h = omega (arith, started_size (name_of own) (length_filled own))

-- ---- in the buffer

-- 0 with a text at the front of the buffer: its report, and the buffer
pub written_so : (o : Outcome) (s l l' : Text) (n : ℕ) (r : Report) → o ≡ success s nothing → n ≡ length s
    → l' ≡ s ++ drop (length s) l → r ≡ plain 0 0 n → Written o l r l'
unfolding report replied
written_so o s l l' n r p q b h = record {
  told = h ∙ ap (plain 0 0) q ∙ ap report (sym p);
  written = b ∙ ap (λ (x : Outcome). replied x l) (sym p);
}

-- a bare refusal, and the buffer as it was
pub refused_so : (o : Outcome) (n : ℕ) (l l' : Text) (r : Report) → o ≡ refusal n → r ≡ report (refusal n) → l' ≡ l
    → Written o l r l'
unfolding report replied
refused_so o n l l' r p h b = record {
  told = h ∙ ap report (sym p);
  written = b ∙ ap (λ (x : Outcome). replied x l) (sym p);
}

-- an image that there is room for is delivered
pub delivered_so : (o : Outcome) (s out out' : Text) (x : Result ℕ Refusal) (i : Option Text) → o ≡ success s nothing
    → i ≡ Some s → length s ≤ length out → out' ≡ delivered i out → x ≡ ok_or (length_delivered i out) NoRoom
    → Written o out (told x) out'
unfolding length_delivered
delivered_so o s out out' x i p q room b k =
    let d = delivered_room s out room in
    let e : leb (length s) (length out) ≡ true = le-leb (length s) (length out) room in
    let l : length_delivered (Some s) out ≡ Some (length s) = rw e in
    let y : x ≡ Ok (length s) = k ∙ ap (λ (j : Option Text). ok_or (length_delivered j out) NoRoom) q
    ∙ ap (λ (n : Option ℕ). ok_or n NoRoom) l in
    written_so o s out out' (length s) (told x) p refl (b ∙ ap (λ (j : Option Text). delivered j out) q ∙ d.0) (ap told y)

-- a record that there is room for is put
pub put_so : (o : Outcome) (e : Entry) (l l' : Text) (x : Result ℕ Refusal) → o ≡ success (entry_bytes e) nothing
    → length (entry_bytes e) ≡ entry_size → entry_size ≤ length l → l' ≡ (put_entry e l).0
    → x ≡ ok_or (then_some (leb entry_size (length l)) entry_size) NoRoom → Written o l (told x) l'
unfolding put_entry
put_so o e l l' x p size room b k =
    let f : ltb (length l) entry_size ≡ false = le-ltb (length l) entry_size room in
    let b' : l' ≡ entry_bytes e ++ drop entry_size l = rw f at b in
    let g : leb entry_size (length l) ≡ true = le-leb entry_size (length l) room in
    let y : x ≡ Ok entry_size = k ∙ ap (λ (c : Bool). ok_or (then_some c entry_size) NoRoom) g in
    written_so o (entry_bytes e) l l' entry_size (told x) p (sym size)
    (b' ∙ ap (λ (n : ℕ). entry_bytes e ++ drop n l) (sym size)) (ap told y)
