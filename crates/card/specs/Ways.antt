-- The way of a call over the image's bytes, as the code takes it: what is seen of the image, the turn of the entry, the
-- entry put back. On the image of a table it is the way over that table (proofs/Calling.antt); no public contract cites it.
use Rattle.std.specs.Prelude.{◌≡◌, Bool, true, false, cond, not, ◌||◌, [], ℕ, eqb, ltb, length, drop, get_or, Option, None, Some, is_some}
use Rattle.std.specs.Prelude.{unwrap_or, Result, Ok, Err}
use Rattle.octets.specs.Text.{Text}
use Rattle.octets.specs.Part.{bare, found}
use Rattle.keying.specs.declared.Top.{Top}
use Rattle.keying.specs.declared.Top.TheVariants.{Single}
use Rattle.partner.specs.declared.Name.{Name}
use Rattle.partner.specs.Entry.{empty}
use Rattle.image.specs.Image.{front_size, decode, slots_in}
use Rattle.image.specs.Places.{below, own_in, slot_of, free_slot}
use Rattle.image.specs.Results.{put_slot}
use Rattle.calls.specs.declared.Refusal.{Refusal}
use Rattle.calls.specs.Refusal.{number, answer_of, numbered}
use Rattle.calls.specs.Outcome.{Turn}
use Rattle.outcome.specs.declared.Report.{Report}
use Rattle.outcome.specs.Report.{report, replied, plain}
use Rattle.sight.specs.declared.aims.Act.{Act}
use Rattle.sight.specs.declared.aims.Aim.{Aim}
use Rattle.sight.specs.declared.Sight.{Sight}
use Rattle.sight.specs.Aim.{aim_of}
use Rattle.turn.specs.Way.{refusal, take}
use Rattle.card.specs.Whole.{top_in}

-- ---- whom a call is about

-- our own identity, bare
abbrev pub ours : Text → Text
ours image = bare (own_in image)

abbrev pub aim : Act → Text → Text → Text → Aim
aim q image who text = aim_of q (ours image) who text

-- ---- what is seen

-- the slot of the partner whom an aim names; 64 where there is none
abbrev pub slot_named : Option Name → Text → ℕ
slot_named None image = 64
slot_named (Some n) image = slot_of n.bytes image

unfoldable pub theirs : Aim → Text → ℕ
theirs a image = slot_named a.partner image

-- the slot that is sought; 64 where there is none
unfoldable pub sought : Aim → Text → ℕ
sought a image = cond a.vacant (free_slot image) (theirs a image)

-- of what is no legal image nothing
abbrev pub blind : Sight
blind = record { legal = false; taken = false; slot = None; entry = empty }

abbrev pub sighted : Aim → Text → Sight
sighted a image = record {
  legal = true;
  taken = ltb (theirs a image) 64;
  slot = below 64 (sought a image);
  entry = get_or (slots_in 64 (drop front_size image)) (sought a image) empty;
}

unfoldable pub seen : Aim → Text → Sight
seen a image = cond (not (found (decode image))) blind (sighted a image)

-- the number of the slot that was found; 64 where there is none
abbrev pub place_in : Option ℕ → ℕ
place_in None = 64
place_in (Some k) = k

abbrev pub place : Sight → ℕ
place s = place_in s.slot

-- ---- the turn, and the entry put back

-- 0, or the number of a refusal
abbrev pub Listed : ℕ → Type 0
Listed n = eqb n 0 || is_some (numbered n) ≡ true

-- the refusal that comes before the turn, or the number of the slot
pub record Finds (a : Aim) (image : Text) (q : Act) (text : Text) (room : ℕ) (found : Result ℕ Refusal) : Type 0 where
  pub answer : answer_of found ≡ refusal a (seen a image) q text room
  pub slot : (k : ℕ) → found ≡ Ok k → k ≡ place (seen a image)

abbrev pub turn_in : Aim → Text → Act → Text → ℕ → Turn
turn_in a image q text room = take (ours image) a (seen a image) q text room

-- what is told where no more is than a length
abbrev pub told : Result ℕ Refusal → Report
told (Err r) = plain (number r) 0 0
told (Ok n) = plain 0 0 n

-- neither done nor an error
abbrev pub is_refusal : ℕ → Bool
is_refusal n = not (eqb n 0 || eqb n 4)

-- the image with the turned entry put back; as it was with a refusal
abbrev pub put_in : Aim → Text → Act → Text → ℕ → Text
put_in a image q text room =
    cond (is_refusal (turn_in a image q text room).outcome.answer) image
    (put_slot (place (seen a image)) (turn_in a image q text room).entry image)

-- what is told, and the reply buffer
pub record Turns (q : Act) (image who text buffer : Text) (given : Report) (buffer_after : Text) : Type 0 where
  pub told : given ≡ report (turn_in (aim q image who text) image q text (length buffer)).outcome
  pub reply : buffer_after ≡ replied (turn_in (aim q image who text) image q text (length buffer)).outcome buffer

-- these, and the image
pub record Changed (q : Act) (image who text buffer : Text) (given : Report) (image_after buffer_after : Text) : Type 0 where
  pub turns : Turns q image who text buffer given buffer_after
  pub stored : image_after ≡ put_in (aim q image who text) image q text (length buffer)

-- ---- a top key by its bytes

-- the key, and the name that goes with it; where there is no key, one of zeros and no name
abbrev pub top_or_zero : Option Top → Top
top_or_zero o = unwrap_or o (Single 0)

abbrev pub name_or_none : Text → Option Top → Text
name_or_none name None = []
name_or_none name (Some top) = name

unfoldable pub top_of : Text → Top
top_of key = top_or_zero (top_in key)

unfoldable pub name_with : Text → Text → Text
name_with name key = name_or_none name (top_in key)
