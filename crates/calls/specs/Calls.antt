-- Every call, and the order of its answers (document 01, "Answers").
use Rattle.std.specs.Prelude.{Bool, false, not, ◌&&◌, List, [], ◌∷◌, ℕ, ltb, Option, None, Some}
use Rattle.octets.specs.Text.{Text, same, is_name}
use Rattle.octets.specs.Part.{bare}
use Rattle.keying.specs.declared.Top.{Top}
use Rattle.keying.specs.Keys.{odd_top}
use Rattle.csm.specs.Message.{Reading, read}
use Rattle.partner.specs.declared.Entry.{Entry}
use Rattle.partner.specs.Entry.{empty, filled, name_of}
use Rattle.partner.specs.Changes.{loaded}
use Rattle.partner.specs.Table.{Table, legal, identities, differs, find, put, into_free_slot, holding, started}
use Rattle.calls.specs.declared.Request.{Request}
use Rattle.calls.specs.Words.{in_case◌then◌else◌}
use Rattle.calls.specs.Outcome.{Outcome, refusal, success, nothing, Turn, done}
use Rattle.calls.specs.Receive as by_class
use Rattle.calls.specs.Build as building

-- what is asked about one partner; a room is the length of the reply buffer
pub data Act : Type 0 where
  build_ksm : ℕ → Request → Act
  build_rsi : ℕ → Text → Act
  give_up : Act
  remove : Act
  ask : Act

-- the calls with their arguments; identities and names are bare
pub data Call : Type 0 where
  receive : ℕ → Text → Call
  about : Text → Act → Call
  load : Text → Text → Top → Call

-- what a call gives: its outcome, and the table after it
pub record After : Type 0 where
  pub outcome : Outcome
  pub table : Table

-- the answer n, the table as it was
abbrev pub refuse : Table → ℕ → After
refuse t n = record { outcome = refusal n; table = t }

-- ---- one partner's entry is looked up, turned and put back

-- its partner by name; a malformed identity is nobody's
abbrev pub entry_of : Text → Table → Option Entry
entry_of id t = in_case is_name id then find (filled id) t.slots else None

-- 3: partner not in the table
abbrev pub after_turn : Table → Text → (Entry → Turn) → Option Entry → After
after_turn t id turn None = refuse t 3
after_turn t id turn (Some e) =
    record { outcome = (turn e).outcome; table = holding t (put (filled id) (turn e).entry t.slots) }

unfoldable pub at_partner : Table → Text → (Entry → Turn) → After
at_partner t id turn = after_turn t id turn (entry_of id t)

-- 6: reply room under 256
abbrev pub short : ℕ → Bool
short room = ltb room 256

abbrev pub with_room : Table → Bool → After → After
with_room t too_short after = in_case too_short then refuse t 6 else after

-- ---- receive: 1 (no message of this paper), 2 (RCV is not us), 3, then by class

unfoldable pub receiving : Table → Text → Option Reading → After
receiving t text None = refuse t 1
receiving t text (Some r) =
    in_case not (same r.rcv (bare t.own)) then refuse t 2 else
    at_partner t r.org (λ e. by_class.receive (bare t.own) e text r.body)

-- ---- load: 10 (identity malformed, our own, or taken), 12 (key name), 11 (top key), 9 (64 entries in use)

abbrev pub after_load : Table → Option (List Entry) → After
after_load t None = refuse t 9
after_load t (Some slots) = record { outcome = success [] nothing; table = holding t slots }

-- 10: identity malformed, our own, or taken
abbrev pub bad_identity : Table → Text → Bool
bad_identity t id = not (is_name id && differs (filled id) (t.own ∷ identities t.slots))

unfoldable pub loading : Table → Text → Text → Top → After
loading t id name top =
    in_case bad_identity t id then refuse t 10 else
    in_case not (is_name name) then refuse t 12 else
    in_case not (odd_top top) then refuse t 11 else
    after_load t (into_free_slot (loaded (name_of id) (name_of name) top) t.slots)

-- ---- an act: 6 where a reply may follow, 3, then its step; remove and ask for an entry have no answer of their own

abbrev pub emptied : Entry → Turn
emptied e = done empty [] nothing

abbrev pub unturned : Entry → Turn
unturned e = done e [] nothing

abbrev pub no_room : Act → Bool
no_room (build_ksm room q) = short room
no_room (build_rsi room contents) = short room
no_room give_up = false
no_room remove = false
no_room ask = false

abbrev pub acting : Text → Act → Entry → Turn
acting own (build_ksm room q) e = building.build_ksm own e q
acting own (build_rsi room contents) e = building.build_rsi own e contents
acting own give_up e = building.give_up e
acting own remove e = emptied e
acting own ask e = unturned e

-- ---- every call in a legal table

unfoldable pub perform : Table → Call → After
perform t (receive room text) = with_room t (short room) (receiving t text (read text))
perform t (about id a) = with_room t (no_room a) (at_partner t id (acting (bare t.own) a))
perform t (load id name top) = loading t id name top

-- any call that is lent a table tests 13 before all else
unfoldable pub run : Table → Call → After
run t c = in_case legal t then perform t c else refuse t 13

-- start: 10; a table with our identity and 64 empty slots
unfoldable pub start : Text → Option Table
start own = in_case is_name own then Some (started (name_of own)) else None
