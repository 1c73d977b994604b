-- Whom a call is about: our identity and the partner's, the answer that a text gets before its partner is looked up, and the
-- room that is asked for.
use Rattle.std.specs.Prelude.{true, false, not, cond, ℕ, Option, None, Some}
use Rattle.octets.specs.Text.{Text, same, is_name}
use Rattle.csm.specs.Message.{Reading, read}
use Rattle.partner.specs.declared.Name.{Name}
use Rattle.partner.specs.Entry.{name_of}
use Rattle.sight.specs.declared.aims.Aim.{Aim}
use Rattle.sight.specs.declared.aims.Act.{Act}
use Rattle.sight.specs.declared.aims.Act.TheVariants.{Receive, BuildKsm, BuildRsi, GiveUp, Remove, Ask, Load}

-- an identity as it is kept, where it is well-formed
abbrev pub identity : Text → Option Name
identity w = cond (is_name w) (Some (name_of w)) None

-- ourselves, and nobody else
abbrev pub ours : Text → Aim
ours own = record { own = name_of own; ours = is_name own; partner = None; vacant = false; answer = 0; room = 0 }

-- a partner by its identity
abbrev pub at_partner : Text → Text → Aim
at_partner own id = record { own = name_of own; ours = is_name own; partner = identity id; vacant = false; answer = 0; room = 0 }

-- a free slot for a partner
abbrev pub at_free_slot : Text → Text → Aim
at_free_slot own id = record { own = name_of own; ours = is_name own; partner = identity id; vacant = true; answer = 0; room = 0 }

-- nobody: the text is refused
abbrev pub refused : Text → ℕ → Aim
refused own n = record { own = name_of own; ours = is_name own; partner = None; vacant = false; answer = n; room = 0 }

-- the originator of a text to us; 2 where RCV is not us, 1 where there is no reading
unfoldable pub of_reading : Text → Option Reading → Aim
of_reading own None = refused own 1
of_reading own (Some r) = cond (not (same r.rcv own)) (refused own 2) (at_partner own r.org)

abbrev pub of_text : Text → Text → Aim
of_text own text = of_reading own (read text)

-- the same, and this room is asked for
abbrev pub with_room : Aim → ℕ → Aim
with_room a room = record { own = a.own; ours = a.ours; partner = a.partner; vacant = a.vacant; answer = a.answer; room = room }

-- by whom, of whom, and the text that goes with it: a reply may follow what is received and what is built; a load seeks a
-- free slot
unfoldable pub aim_of : Act → Text → Text → Text → Aim
aim_of Receive own who text = with_room (of_text own text) 256
aim_of BuildKsm own who text = with_room (at_partner own who) 256
aim_of BuildRsi own who text = with_room (at_partner own who) 256
aim_of GiveUp own who text = at_partner own who
aim_of Remove own who text = at_partner own who
aim_of Ask own who text = at_partner own who
aim_of (Load top) own who text = at_free_slot own who
