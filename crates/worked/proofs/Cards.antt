-- Two cards, of MILL and HARBOR, with real keys and texts: each call by computation.
use Rattle.std.specs.Prelude.{None}
use mathlib.Core.Path.{◌≡◌, refl}
use mathlib.Core.List.{[], ◌∷◌}
use Prim.Native.Nat.{ℕ}
use Rattle.octets.specs.Text.{Text, ascii}
use Rattle.keying.specs.Keys.{unseal}
use Rattle.csm.specs.Message.{read}
use Rattle.csm.specs.Covered.{covered}
use Rattle.partner.specs.declared.DataKey.{DataKey}
use Rattle.partner.specs.declared.KeySet.{KeySet}
use Rattle.partner.specs.declared.Entry.{Entry}
use Rattle.partner.specs.Entry.{waiting, confirmed, broken, filled, name_of, risen}
use Rattle.partner.specs.Entry.{no_keys, two_keys}
use Rattle.partner.specs.Changes.{with_sending, with_receiving, accepted, issued, settled, given_up}
use Rattle.partner.specs.Table.{Table, is_empty, empties, slots_legal, legal}
use Rattle.partner.proofs.Examples as entries
use Rattle.calls.specs.declared.KeyRequest.{KeyRequest}
use Rattle.calls.specs.declared.Request.{Request}
use Rattle.calls.specs.Words.{any, some_has}
use Rattle.calls.specs.Outcome.{success, nothing, keys, confirmation}
use Rattle.calls.specs.Receive as by_class
use Rattle.calls.specs.Build as building
use Rattle.calls.specs.Calls.{receive, about, build_ksm, give_up, load, remove, refuse, at_partner, receiving, loading}
use Rattle.calls.specs.Calls.{perform, run}
use Rattle.worked.proofs.Exchange as exchange
use Rattle.line.specs.Line.{entry_for}
use Rattle.worked.specs.Worked.{MILL, HARBOR, key_name, pair, other_name, other_key, mistyped, request}
use Rattle.worked.specs.Worked.{first_ksm, second_ksm}

-- what is opened for a call to be computed
unfoldable pub computes : Unit {0}
unfolding
    exchange.computes entries.computes unseal read covered risen accepted issued settled given_up
    is_empty empties slots_legal legal any some_has
    by_class.foreign by_class.uneven by_class.brought by_class.bad_format by_class.bad_mac
    by_class.bad_count by_class.faults by_class.judged by_class.receive_ksm by_class.is_waiting by_class.receive_rsm
    by_class.receive
    building.used building.not_odd building.bad_key building.bad_keys building.malformed building.build_ksm building.give_up
    at_partner receiving loading perform run
computes = tt

-- ---- two requests: other keys, with the same exclusive-or

abbrev pub asked : ℕ → ℕ → Text → KeyRequest
asked value flags name = record { key = value; flags = flags; name = name_of name }

abbrev pub first_request : Request
first_request = request (asked 0x1122334455667788 2 (ascii "ONE")) (asked 0x99AABBCCDDEEFF00 0 [])

abbrev pub second_request : Request
second_request = request (asked 0x1E2C3E485E6C7E80 0 []) (asked 0x96A4B6C0D6E4F608 0 [])

abbrev pub data_key : ℕ → Text → DataKey
data_key value name = record { key = value; name = name_of name }

abbrev pub first_keys : KeySet
first_keys = two_keys (data_key 0x1122334455667788 (ascii "ONE")) (data_key 0x99AABBCCDDEEFF00 [])

abbrev pub second_keys : KeySet
second_keys = two_keys (data_key 0x1E2C3E485E6C7E80 []) (data_key 0x96A4B6C0D6E4F608 [])

-- ---- the answer

-- under both requests' keys
abbrev pub answering_rsm : Text
answering_rsm = ascii "CSM(MCL/RSM RCV/MILL ORG/HARBOR MAC/9635 9AC3 )"

-- ---- the tables: started, and with one entry

abbrev pub started : Text → Table
started own = record { own = filled own; slots = empties 64 }

abbrev pub holds : Text → Entry → Table
holds own e = record { own = filled own; slots = e ∷ empties 63 }

-- MILL's entry for HARBOR and HARBOR's for MILL, by the unit that changes
abbrev pub mill_entry : ℕ → ℕ → KeySet → Entry
mill_entry next phase outgoing =
    with_sending (entry_for key_name pair HARBOR) (record { next = next; phase = phase; outgoing = outgoing })

abbrev pub harbor_entry : ℕ → KeySet → Entry
harbor_entry expected incoming =
    with_receiving (entry_for key_name pair MILL) (record { expected = expected; incoming = incoming })

abbrev pub mill : ℕ → ℕ → KeySet → Table
mill next phase outgoing = holds MILL (mill_entry next phase outgoing)

abbrev pub harbor : ℕ → KeySet → Table
harbor expected incoming = holds HARBOR (harbor_entry expected incoming)

-- ---- the calls

pub mill_loads : run (started MILL) (load HARBOR key_name pair)
    ≡ record { outcome = success [] nothing; table = mill 1 0 no_keys }
unfolding computes
mill_loads = refl

pub mill_removes_nobody : run (started MILL) (about HARBOR remove) ≡ refuse (started MILL) 3
unfolding computes
mill_removes_nobody = refl

pub mill_mistypes : run (started MILL) (load HARBOR key_name mistyped) ≡ refuse (started MILL) 11
unfolding computes
mill_mistypes = refl

pub mill_loads_again : run (mill 1 0 no_keys) (load HARBOR other_name other_key) ≡ refuse (mill 1 0 no_keys) 10
unfolding computes
mill_loads_again = refl

pub harbor_loads : run (started HARBOR) (load MILL key_name pair)
    ≡ record { outcome = success [] nothing; table = harbor 1 no_keys }
unfolding computes
harbor_loads = refl

pub mill_builds : run (mill 1 0 no_keys) (about HARBOR (build_ksm 256 first_request))
    ≡ record { outcome = success first_ksm nothing; table = mill 2 waiting first_keys }
unfolding computes
mill_builds = refl

pub harbor_takes : run (harbor 1 no_keys) (receive 256 first_ksm)
    ≡ record { outcome = success answering_rsm (keys None None); table = harbor 2 first_keys }
unfolding computes
harbor_takes = refl

pub mill_confirms : run (mill 2 waiting first_keys) (receive 256 answering_rsm)
    ≡ record { outcome = success [] confirmation; table = mill 2 confirmed first_keys }
unfolding computes
mill_confirms = refl

pub mill_gives_up : run (mill 2 waiting first_keys) (about HARBOR give_up)
    ≡ record { outcome = success [] nothing; table = mill 2 broken no_keys }
unfolding computes
mill_gives_up = refl

pub mill_builds_again : run (mill 2 broken no_keys) (about HARBOR (build_ksm 256 second_request))
    ≡ record { outcome = success second_ksm nothing; table = mill 3 waiting second_keys }
unfolding computes
mill_builds_again = refl

pub mill_confirms_others : run (mill 3 waiting second_keys) (receive 256 answering_rsm)
    ≡ record { outcome = success [] confirmation; table = mill 3 confirmed second_keys }
unfolding computes
mill_confirms_others = refl
