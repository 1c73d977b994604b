-- The changes that the steps of document 01 make, each of the unit that it concerns.
use Rattle.std.specs.Prelude.{ℕ, max}
use Rattle.keying.specs.declared.Top.{Top}
use Rattle.keying.specs.declared.Top.TheVariants.{Single, Pair}
use Rattle.partner.specs.declared.Name.{Name}
use Rattle.partner.specs.declared.KeySet.{KeySet}
use Rattle.partner.specs.declared.TopKey.{TopKey}
use Rattle.partner.specs.declared.Sending.{Sending}
use Rattle.partner.specs.declared.Receiving.{Receiving}
use Rattle.partner.specs.declared.Entry.{Entry}
use Rattle.partner.specs.Entry.{risen, idle, waiting, confirmed, broken, single, pair, no_keys}

-- an entry with its sending unit anew, and with its receiving unit
abbrev pub with_sending : Entry → Sending → Entry
with_sending e s = record { identity = e.identity; top = e.top; sending = s; receiving = e.receiving }

abbrev pub with_receiving : Entry → Receiving → Entry
with_receiving e r = record { identity = e.identity; top = e.top; sending = e.sending; receiving = r }

-- a top key's form and halves, a single key's second half zero
abbrev pub form_of : Top → ℕ
form_of (Single key) = single
form_of (Pair left right) = pair

abbrev pub left_of : Top → ℕ
left_of (Single key) = key
left_of (Pair left right) = left

abbrev pub right_of : Top → ℕ
right_of (Single key) = 0
right_of (Pair left right) = right

-- it is kept under a name
abbrev pub kept : Name → Top → TopKey
kept key_name key = record { name = key_name; form = form_of key; left = left_of key; right = right_of key }

-- loading sets both counts to 1, phase 0, no data keys
unfoldable pub loaded : Name → Name → Top → Entry
loaded identity key_name key = record {
  identity = identity;
  top = kept key_name key;
  sending = record { next = 1; phase = idle; outgoing = no_keys };
  receiving = record { expected = 1; incoming = no_keys };
}

-- a KSM is accepted: the keys and names replace the incoming ones, expected becomes count + 1
unfoldable pub accepted : ℕ → KeySet → Receiving
accepted count keys = record { expected = risen count; incoming = keys }

-- a KSM is built: the next send count rises by one, outgoing keys set, phase 1
unfoldable pub issued : Sending → KeySet → Sending
issued s keys = record { next = risen s.next; phase = waiting; outgoing = keys }

-- an RSM is taken: phase 2
unfoldable pub settled : Sending → Sending
settled s = record { next = s.next; phase = confirmed; outgoing = s.outgoing }

-- given up, or an ESM without counts: phase 3 and keys wiped
unfoldable pub given_up : Sending → Sending
given_up s = record { next = s.next; phase = broken; outgoing = no_keys }

-- an ESM with CTP x: besides, next send becomes the larger of itself and x
unfoldable pub failed : Sending → ℕ → Sending
failed s x = record { next = max s.next x; phase = broken; outgoing = no_keys }
