-- What the rules of an entry ask, a unit at a time, as a record is judged where it stands. On every entry it is what `legal`
-- asks (proofs/Units.antt).
use Rattle.std.specs.Prelude.{Bool, cond, ◌&&◌, ℕ, ltb, leb}
use Rattle.octets.specs.Text.{within}
use Rattle.partner.specs.declared.DataKey.{DataKey}
use Rattle.partner.specs.declared.KeySet.{KeySet}
use Rattle.partner.specs.declared.TopKey.{TopKey}
use Rattle.partner.specs.declared.Entry.{Entry}
use Rattle.partner.specs.Entry.{limit}
use Rattle.partner.specs.Legal.{is_filled, is_named, is_unused, form_clean, top_odd}
use Rattle.partner.specs.Legal.{idle_at_1, count_if, count_in_phase}

-- the top key: 3, 4, 5
unfoldable pub top_right : TopKey → Bool
top_right k = is_filled k.name.bytes && form_clean k && top_odd k

-- the next send count, the phase and the number of outgoing keys: 6, 7, 8
unfoldable pub sending_right : ℕ → ℕ → ℕ → Bool
sending_right next_send p n = within 1 limit next_send && idle_at_1 p next_send && count_in_phase p n

-- the expected count and the number of incoming keys: 6, 9
unfoldable pub receiving_right : ℕ → ℕ → Bool
receiving_right expected n = within 1 limit expected && count_if (ltb 1 expected) n

-- a key place in use has a name or none, another is zero
unfoldable pub place_formed : Bool → DataKey → Bool
place_formed used k = cond used (is_named k) (is_unused k)

-- the places of a key set: 3, 4
unfoldable pub set_formed : KeySet → Bool
set_formed set =
    place_formed (leb 1 set.count) set.first && place_formed (leb 2 set.count) set.second

-- all units
unfoldable pub units_right : Entry → Bool
units_right e =
    is_filled e.identity.bytes && top_right e.top
    && sending_right e.sending.next e.sending.phase e.sending.outgoing.count
    && set_formed e.sending.outgoing
    && receiving_right e.receiving.expected e.receiving.incoming.count
    && set_formed e.receiving.incoming
