-- The slots so far are the image's.
use Rattle.std.proofs.Common.{◌≡◌, length, get_or, drop, ℕ, ◌<◌}
use Rattle.image.specs.Image.{slots_in, front_size}
use Rattle.partner.specs.Entry.{empty}
use Rattle.row.proofs.fill.Given as goal

abbrev pub invariant-loop-at : goal.invariant-loop-at
invariant-loop-at l = record {
  same_length : length l.row ≡ length l.fn.row;
  so : (j : ℕ) → j < l.at → get_or l.row j empty ≡ get_or (slots_in 64 (drop front_size l.image)) j empty;
}
