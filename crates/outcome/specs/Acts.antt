-- What a call that may reply makes of one partner's entry, on every entry and in every room: the turns of crate `calls`
-- where the entry is as a legal table has it (13) and there is room for the reply (6).
use Rattle.std.specs.Prelude.{Bool, not, ◌&&◌, ℕ, ltb, Option, None, Some}
use Rattle.octets.specs.Text.{Text, is_name}
use Rattle.csm.specs.Message.{Reading, read}
use Rattle.partner.specs.declared.Entry.{Entry}
use Rattle.partner.specs.Legal.{legal}
use Rattle.calls.specs.declared.Request.{Request}
use Rattle.calls.specs.Words.{in_case◌then◌else◌}
use Rattle.calls.specs.Outcome.{Turn, refused}
use Rattle.calls.specs.Receive as by_class
use Rattle.calls.specs.Build as building

-- our identity and the entry as a legal table has them
unfoldable pub sound : Text → Entry → Bool
sound own e = is_name own && legal e

-- 13, then 6, then the turn
unfoldable pub guarded : Text → Entry → ℕ → Turn → Turn
guarded own e room turn =
    in_case not (sound own e) then refused e 13 else
    in_case ltb room 256 then refused e 6 else turn

-- 1: text not a message of this paper
unfoldable pub receive_read : Text → Entry → Text → Option Reading → Turn
receive_read own e text None = refused e 1
receive_read own e text (Some r) = by_class.receive own e text r.body

-- receive, build a KSM, build an RSI
unfoldable pub receive : Text → Entry → ℕ → Text → Turn
receive own e room text = guarded own e room (receive_read own e text (read text))

unfoldable pub build_ksm : Text → Entry → ℕ → Request → Turn
build_ksm own e room q = guarded own e room (building.build_ksm own e q)

unfoldable pub build_rsi : Text → Entry → ℕ → Text → Turn
build_rsi own e room contents = guarded own e room (building.build_rsi own e contents)
