-- The image that start writes.
use Rattle.std.specs.Prelude.{Some}
use mathlib.Core.Path.{◌≡◌}
use mathlib.Core.Bool.{true}
use mathlib.Core.List.{[]}
use Prim.Native.Nat.{ℕ, zero, suc, ◌<◌}
use native.Mathlib.Omega.{arith}
use lib.ListN.{length}
use Rattle.octets.specs.Text.{Text, is_name}
use Rattle.partner.specs.Entry.{name_of}
use Rattle.partner.proofs.Naming.{filled_filled}
use Rattle.partner.specs.Table.{AllHeld, empties, started}
use Rattle.image.specs.Image.{decode, encode}
use Rattle.image.proofs.Claims.{claims}
use Rattle.image.proofs.Entries.{empty_held}
use Rattle.calls.specs.Outcome.{nothing, success}
use Rattle.calls.specs.Calls.{start}
use Rattle.calls.proofs.Tests.{if_true}
use Rattle.demands.specs.Face.{left, put_out}
use Rattle.demands.specs.Terms.{Bytes}
use Rattle.demands.proofs.Telling.{written_reply}
use Rattle.demands.proofs.Keeping.{encode_octets}

empties_held : (n : ℕ) → AllHeld (empties n)
unfolding empties
empties_held zero = tt
empties_held (suc n) = (empty_held, empties_held n)

module _ (own : Text) (named : is_name own ≡ true) where
  pub start_is : start own ≡ Some (started (name_of own))
  unfolding start
  start_is = if_true (is_name own) _ _ named

  pub started_read : decode (encode (started (name_of own))) ≡ Some (started (name_of own))
  started_read = claims.start_is_legal (name_of own) (filled_filled own named)

  pub started_bytes : Bytes (encode (started (name_of own)))
  started_bytes =
      encode_octets (started (name_of own))
      (claims.read_then_write (encode (started (name_of own))) (started (name_of own)) started_read).0
      (empties_held 64)

  pub started_short : length (encode (started (name_of own))) < 65_536
  started_short =
      omega (arith, (claims.image_sizes (encode (started (name_of own))) (started (name_of own)) started_read).1)

  pub written_started : (out : Text)
      → put_out (left (success (encode (started (name_of own))) nothing) [] out) ≡ encode (started (name_of own))
  written_started out = written_reply (success (encode (started (name_of own))) nothing) [] out started_short
