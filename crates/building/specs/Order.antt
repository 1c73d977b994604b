-- The order of answers of building a KSM where it is not 13 (document 01, "Answers"): 6, then 7, 8, 11, 12.
use Rattle.std.specs.Prelude.{◌∷◌, ℕ}
use Rattle.octets.specs.First.{Order}
use Rattle.partner.specs.declared.Entry.{Entry}
use Rattle.calls.specs.declared.Request.{Request}
use Rattle.calls.specs.Calls.{short}
use Rattle.calls.specs.Calls as calls
use Rattle.calls.specs.Orders.{by_act}

-- no room for a reply, then those of the entry and the request
unfoldable pub build_ksm : Entry → ℕ → Request → Order
build_ksm e room q = (short room, 6) ∷ by_act (calls.build_ksm room q) e
