-- What is claimed of a call's reply and of the turn on one entry; proved as `claims` in proofs/Claims.antt.
use Rattle.std.specs.Prelude.{◌≡◌, true, false, ◌&&◌, ℕ, ◌<◌, ◌≤◌}
use Rattle.octets.specs.Text.{Text, ascii, is_name}
use Rattle.partner.specs.declared.Entry.{Entry}
use Rattle.partner.specs.Legal.{legal}
use Rattle.calls.specs.Outcome.{Turn, nothing, refusal, refused, success}
use Rattle.outcome.specs.Report.{replied}
use Rattle.outcome.specs.Acts.{guarded}

pub record Claims : Type 0 where
  -- replies touch only the bytes of their length
  pub reply_in_front : replied (success (ascii "AB") nothing) (ascii "wxyz") ≡ ascii "AByz"
  pub refusal_writes_nothing : (n : ℕ) (buffer : Text) → replied (refusal n) buffer ≡ buffer
  -- 13: our identity or the entry not as a legal table has it; 6: reply room under 256; then the turn
  pub turn_13 : (own : Text) (e : Entry) (room : ℕ) (turn : Turn) → is_name own && legal e ≡ false
      → guarded own e room turn ≡ refused e 13
  pub turn_6 : (own : Text) (e : Entry) (room : ℕ) (turn : Turn) → is_name own && legal e ≡ true → room < 256
      → guarded own e room turn ≡ refused e 6
  pub turn_taken : (own : Text) (e : Entry) (room : ℕ) (turn : Turn) → is_name own && legal e ≡ true → 256 ≤ room
      → guarded own e room turn ≡ turn
