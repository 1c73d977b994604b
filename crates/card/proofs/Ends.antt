-- How each call over an image ends, from what its steps ensure.
use Rattle.std.specs.Prelude.{Option, None, Some, Result, Ok, Err}
use mathlib.Core.Path.{◌≡◌, refl, sym, ap, ◌∙◌, subst}
use mathlib.Core.Bool.{Bool, true, false, cond, not}
use Rattle.std.specs.Bool.{then_some}
use Rattle.std.specs.Option.{ok_or}
use mathlib.Core.List.{List, []}
use Prim.Native.Nat.{ℕ}
use lib.Dec.{ltb}
use native.Mathlib.Omega.{arith}
use lib.ListN.{length, drop, get_or}
use borrow.Author.Tests.{ltb-false}
use Rattle.octets.specs.Text.{Text}
use Rattle.octets.specs.Part.{found}
use Rattle.partner.specs.declared.Name.{Name}
use Rattle.partner.specs.declared.Entry.{Entry}
use Rattle.partner.specs.Entry.{name_of, empty}
use Rattle.image.specs.Image.{front_size, decode, slots_in}
use Rattle.image.specs.Results.{put_slot}
use Rattle.image.proofs.Standing.{past_64}
use Rattle.calls.specs.declared.Refusal.{Refusal}
use Rattle.calls.specs.Refusal.{number, answer_of}
use Rattle.calls.proofs.Numbered.{number_not_0}
use Rattle.calls.specs.Outcome.{Outcome, Turn, nothing, refusal, refused, done}
use Rattle.outcome.specs.declared.Report.{Report}
use Rattle.outcome.specs.declared.Given.{Given}
use Rattle.outcome.specs.declared.Turned.{Turned}
use Rattle.outcome.specs.Report.{Turned as Whole, report, turned, replied, report_of, turned_of}
use Rattle.keying.specs.declared.Top.{Top}
use Rattle.partner.specs.Changes.{loaded}
use Rattle.calls.specs.declared.Refusal.TheVariants.{BadIdentity}
use Rattle.sight.specs.declared.aims.Act.{Act}
use Rattle.sight.specs.declared.aims.Act.TheVariants.{Load}
use Rattle.sight.specs.declared.aims.Aim.{Aim}
use Rattle.sight.specs.Aim.{with_room}
use Rattle.sight.specs.Asked.{call_of}
use Rattle.turn.specs.Way.{load, turn}
use Rattle.turn.proofs.Acting.{way_refused, way_turned}
use Rattle.card.specs.Over.{outcome_over, Written}
use Rattle.card.specs.Ways.{ours, aim, sought, blind, sighted, seen, place_in, place, Finds, turn_in, told, is_refusal, Turns, Changed}
use Rattle.card.proofs.Calling.{outcome_is}
use Rattle.card.proofs.Delivering.{refused_so}
use Rattle.card.proofs.Whole.{Judged}

-- ---- a refusal and what is given, by their numbers

refusal_is : (r : Refusal) → is_refusal (number r) ≡ true
refusal_is r = grind arith

given_is : (g : Given) → is_refusal (report_of (Ok g)).answer ≡ false
given_is g = grind arith

pub told_refused : (r : Refusal) → report (refusal (number r)) ≡ report_of (Err r)
unfolding report
told_refused r = refl

-- ---- the way, by what was found

module _ (a : Aim) (image : Text) (q : Act) (text : Text) (room : ℕ) (f : Result ℕ Refusal) (e : Finds a image q text room f) where
  -- refused before the turn
  pub way_kept : (r : Refusal) → f ≡ Err r → turn_in a image q text room ≡ refused (seen a image).entry (number r)
  way_kept r h =
      way_refused (ours image) a (seen a image) q text room (number r) (sym (ap answer_of h) ∙ e.answer) (number_not_0 r)

  -- turned
  pub way_went : (k : ℕ) → f ≡ Ok k
      → turn_in a image q text room ≡ turn (ours image) a.partner (seen a image).entry q text room
  way_went k h = way_turned (ours image) a (seen a image) q text room 0 (sym (ap answer_of h) ∙ e.answer) refl

  -- the entry that is turned is that of the slot
  pub entry_is : (k : ℕ) → f ≡ Ok k → (x : Entry) → x ≡ get_or (slots_in 64 (drop front_size image)) k empty
      → x ≡ (seen a image).entry
  unfolding seen
  entry_is k p x h = h ∙ ap (λ (i : ℕ). get_or slots i empty) (e.slot k p) ∙ by_image (found (decode image))
    where
      slots : List Entry
      slots = slots_in 64 (drop front_size image)

      past : get_or slots 64 empty ≡ empty
      past = sym (past_64 64 (drop front_size image) (omega arith))

      by_slot : (b : Bool) → ltb (sought a image) 64 ≡ b
          → get_or slots (place_in (then_some b (sought a image))) empty ≡ get_or slots (sought a image) empty
      by_slot true h = refl
      by_slot false h = past ∙ past_64 (sought a image) (drop front_size image) (ltb-false (sought a image) 64 h)

      by_image : (b : Bool) → get_or slots (place (cond (not b) blind (sighted a image))) empty ≡ (cond (not b) blind (sighted a image)).entry
      by_image true = by_slot (ltb (sought a image) 64) refl
      by_image false = past

-- found by the call's own aim
pub found_by : (q : Act) (image who text : Text) (room : ℕ) (a : Aim) (f : Result ℕ Refusal) → a ≡ aim q image who text
    → Finds a image q text room f → Finds (aim q image who text) image q text room f
found_by q image who text room a f i e = subst (λ (x : Aim). Finds x image q text room f) i e

-- ---- what is turned

module _ (q : Act) (image who text buffer : Text) (a : Aim) (i : a ≡ aim q image who text) (f : Result ℕ Refusal)
    (e : Finds a image q text (length buffer) f) where
  abbrev b : Aim
  b = aim q image who text

  abbrev room : ℕ
  room = length buffer

  g : Finds b image q text room f
  g = found_by q image who text room a f i e

  abbrev u : Turn
  u = turn_in b image q text room

  -- a refusal before the turn
  module _ (r : Refusal) (h : f ≡ Err r) where
    kept_so : u ≡ refused (seen b image).entry (number r)
    kept_so = way_kept b image q text room f g r h

    pub turns_kept : Turns q image who text buffer (report_of (Err r)) buffer
    unfolding replied
    turns_kept = record {
      told = sym (told_refused r) ∙ ap (λ (x : Turn). report x.outcome) (sym kept_so);
      reply = ap (λ (x : Turn). replied x.outcome buffer) (sym kept_so);
    }

    pub changed_kept : Changed q image who text buffer (report_of (Err r)) image buffer
    changed_kept = record {
      turns = turns_kept;
      stored =
          sym (ap (λ (x : Bool). cond x image (put_slot (place (seen b image)) u.entry image))
          (ap (λ (x : Turn). is_refusal x.outcome.answer) kept_so ∙ refusal_is r));
    }

  -- the entry that was found is turned
  module _ (k : ℕ) (h : f ≡ Ok k) (own : Text) (o : own ≡ ours image) (id : Option Name) (d : id ≡ a.partner) (x : Entry)
      (s : x ≡ get_or (slots_in 64 (drop front_size image)) k empty) (w : Result Turned Refusal) (buffer' : Text)
      (p : turned_of x w ≡ turned (turn own id x q text room))
      (l : buffer' ≡ replied (turn own id x q text room).outcome buffer) where
    went_so : turn own id x q text room ≡ u
    went_so =
        (λ j. turn (o j) ((d ∙ ap (λ (y : Aim). y.partner) i) j) (entry_is b image q text room f g k h x s j) q text room)
        ∙ sym (way_went b image q text room f g k h)

    turned_so : turned_of x w ≡ turned u
    turned_so = p ∙ ap turned went_so

    module _ (r : Result Given Refusal) (v : (turned_of x w).report ≡ report_of r) where
      told_so : report_of r ≡ report u.outcome
      unfolding turned
      told_so = sym v ∙ ap (λ (y : Whole). y.report) turned_so

      pub turns_went : Turns q image who text buffer (report_of r) buffer'
      turns_went = record { told = told_so; reply = l ∙ ap (λ (y : Turn). replied y.outcome buffer) went_so }

      answer_so : (report_of r).answer ≡ u.outcome.answer
      unfolding report
      answer_so = ap (λ (y : Report). y.answer) told_so

    -- refused: the image as it was
    pub changed_refused : (r : Refusal) → w ≡ Err r → Changed q image who text buffer (report_of (Err r)) image buffer'
    changed_refused r z =
        let v = ap (λ (y : Result Turned Refusal). (turned_of x y).report) z in
        record {
          turns = turns_went (Err r) v;
          stored =
              sym (ap (λ (y : Bool). cond y image (put_slot (place (seen b image)) u.entry image))
              (ap is_refusal (sym (answer_so (Err r) v)) ∙ refusal_is r));
        }

    -- put back
    pub changed_went : (t : Turned) → w ≡ Ok t → (image' : Text) → image' ≡ put_slot k t.entry image
        → Changed q image who text buffer (report_of (Ok t.given)) image' buffer'
    unfolding turned
    changed_went t z image' m =
        let v = ap (λ (y : Result Turned Refusal). (turned_of x y).report) z in
        let n : t.entry ≡ u.entry = sym (ap (λ (y : Result Turned Refusal). (turned_of x y).entry) z) ∙ ap (λ (y : Whole). y.entry) turned_so in
        record {
          turns = turns_went (Ok t.given) v;
          stored =
              m ∙ ap (λ (y : ℕ). put_slot y t.entry image) (g.slot k h) ∙ ap (λ (y : Entry). put_slot (place (seen b image)) y image) n
              ∙ sym (ap (λ (y : Bool). cond y image (put_slot (place (seen b image)) u.entry image))
              (ap is_refusal (sym (answer_so (Ok t.given) v)) ∙ given_is t.given));
        }

-- what is only read
pub written_by : (q : Act) (image who text buffer : Text) (r r' : Report) → r' ≡ r → (buffer' : Text)
    → Turns q image who text buffer r buffer'
    → Written (outcome_over image (call_of q (length buffer) who text)) buffer r' buffer'
written_by q image who text buffer r r' e buffer' k =
    let o = outcome_is q image who text (length buffer) in
    record { told = e ∙ k.told ∙ ap report o; written = k.reply ∙ ap (λ (x : Outcome). replied x buffer) o }

-- ---- ask, load and remove

-- refused: what was found
pub refused_end : (o : Outcome) (s buffer : Text) (a : Aim) (image : Text) (q : Act) (text : Text) (f : Result ℕ Refusal)
    → Judged o (turn_in a image q text (length buffer)) s → Finds a image q text (length buffer) f
    → (r : Refusal) → f ≡ Err r → Written o buffer (told (Err r)) buffer
refused_end o s buffer a image q text f j e r h =
    let w = way_kept a image q text (length buffer) f e r h in
    refused_so o (number r) buffer buffer _
    (j.refused (λ z. number_not_0 r (sym (ap (λ (u : Turn). u.outcome.answer) w) ∙ z)) ∙ ap (λ (u : Turn). u.outcome) w)
    (sym (told_refused r)) refl

-- a load whose identity is no name, and one whose is
module _ (a : Aim) (image : Text) (top : Top) (name : Text) (room : ℕ) (f : Result ℕ Refusal)
    (e : Finds a image (Load top) name room f) (k : ℕ) (h : f ≡ Ok k) where
  abbrev old : Entry
  old = (seen a image).entry

  loads_so : turn_in a image (Load top) name room ≡ load a.partner old name top
  unfolding turn
  loads_so = way_went a image (Load top) name room f e k h

  pub way_loads : (o : Option Name) (n : Name) → o ≡ a.partner → ok_or o BadIdentity ≡ Ok n
      → turn_in a image (Load top) name room ≡ done (loaded n (name_of name) top) [] nothing
  way_loads None n p q = cc
  way_loads (Some m) n p q =
      let i : m ≡ n = cc in
      loads_so ∙ ap (λ (x : Option Name). load x old name top) (sym p) ∙ ap (λ (x : Name). done (loaded x (name_of name) top) [] nothing) i

  pub way_unnamed : (o : Option Name) (r : Refusal) → o ≡ a.partner → ok_or o BadIdentity ≡ Err r
      → (turn_in a image (Load top) name room ≡ refused old (number r))
  way_unnamed None r p q =
      let i : BadIdentity ≡ r = cc in
      loads_so ∙ ap (λ (x : Option Name). load x old name top) (sym p) ∙ ap (λ (x : Refusal). refused old (number x)) i
  way_unnamed (Some m) r p q = cc

pub refused_load : (o : Outcome) (s buffer : Text) (a : Aim) (image : Text) (top : Top) (name : Text) (f : Result ℕ Refusal)
    → Judged o (turn_in a image (Load top) name (length buffer)) s → Finds a image (Load top) name (length buffer) f
    → (k : ℕ) → f ≡ Ok k → (i : Option Name) (r : Refusal) → i ≡ a.partner → ok_or i BadIdentity ≡ Err r
    → Written o buffer (told (Err r)) buffer
refused_load o s buffer a image top name f j e k h i r p q =
    let w = way_unnamed a image top name (length buffer) f e k h i r p q in
    refused_so o (number r) buffer buffer _
    (j.refused (λ z. number_not_0 r (sym (ap (λ (u : Turn). u.outcome.answer) w) ∙ z)) ∙ ap (λ (u : Turn). u.outcome) w)
    (sym (told_refused r)) refl

-- whom a call is about and what is found where it asks for that much room, by what is asked
pub aimed_as : (p q : Act) (image who text text' : Text) (asks : ℕ) (a : Aim) → p ≡ q → text ≡ text'
    → a ≡ with_room (aim p image who text) asks → a ≡ with_room (aim q image who text') asks
aimed_as p q image who text text' asks a e t i =
    i ∙ ap (λ (x : Act). with_room (aim x image who text) asks) e ∙ ap (λ (x : Text). with_room (aim q image who x) asks) t

pub found_as : (p q : Act) (image who text text' : Text) (asks room : ℕ) (a : Aim) (f : Result ℕ Refusal) → p ≡ q → text ≡ text'
    → a ≡ with_room (aim p image who text) asks → Finds a image p text room f
    → Finds (with_room (aim q image who text') asks) image q text' room f
found_as p q image who text text' asks room a f e t i k =
    subst (λ (x : Aim). Finds x image q text' room f) (aimed_as p q image who text text' asks a e t i)
    (subst (λ (x : Text). Finds a image q x room f) t (subst (λ (x : Act). Finds a image x text room f) e k))
