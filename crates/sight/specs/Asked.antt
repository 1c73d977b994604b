-- What is asked, as a call of crate `calls`.
use Rattle.std.specs.Prelude.{ℕ}
use Rattle.octets.specs.Text.{Text}
use Rattle.calls.specs.Calls.{Call, receive, about, load, build_ksm, build_rsi, give_up, remove, ask}
use Rattle.sight.specs.declared.aims.Act.{Act}
use Rattle.sight.specs.declared.aims.Act.TheVariants.{Receive, BuildKsm, BuildRsi, GiveUp, Remove, Ask, Load}
use Rattle.request.specs.Request.{request_in}

-- with the room for a reply, whom it is about, and the text that goes with it: what came, the request's bytes, the contents
-- of SVR, or the new key's name
unfoldable pub call_of : Act → ℕ → Text → Text → Call
call_of Receive room who text = receive room text
call_of BuildKsm room who text = about who (build_ksm room (request_in text))
call_of BuildRsi room who text = about who (build_rsi room text)
call_of GiveUp room who text = about who give_up
call_of Remove room who text = about who remove
call_of Ask room who text = about who ask
call_of (Load top) room who text = load who text top
