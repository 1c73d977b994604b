-- The way of a call over what is seen of a table: the order of its answers, and the turn of one entry.
use Rattle.std.specs.Prelude.{Bool, false, not, cond, ◌||◌, [], ◌∷◌, ℕ, eqb, ltb, Option, None, Some, is_some}
use Rattle.octets.specs.Text.{Text, same, is_name}
use Rattle.octets.specs.First.{Order, first}
use Rattle.keying.specs.declared.Top.{Top}
use Rattle.keying.specs.Keys.{odd_top}
use Rattle.partner.specs.declared.Name.{Name}
use Rattle.partner.specs.declared.Entry.{Entry}
use Rattle.partner.specs.Entry.{name_of}
use Rattle.partner.specs.Changes.{loaded}
use Rattle.calls.specs.Outcome.{Turn, nothing, refused, done}
use Rattle.calls.specs.Build.{give_up}
use Rattle.calls.specs.Calls.{emptied, unturned}
use Rattle.outcome.specs.Acts.{receive, build_ksm, build_rsi}
use Rattle.sight.specs.declared.aims.Act.{Act}
use Rattle.sight.specs.declared.aims.Act.TheVariants.{Receive, BuildKsm, BuildRsi, GiveUp, Remove, Ask, Load}
use Rattle.sight.specs.declared.aims.Aim.{Aim}
use Rattle.sight.specs.declared.Sight.{Sight}
use Rattle.sight.specs.declared.Glance.{Glance}
use Rattle.request.specs.Request.{request_in}

-- ---- the order of the answers

-- a partner's name is our own; where there is none, it is not
abbrev pub is_own : Name → Option Name → Bool
is_own own None = false
is_own own (Some n) = same own.bytes n.bytes

-- an identity malformed, our own, or taken
unfoldable pub unfit : Aim → Glance → Bool
unfit a g = not (is_some a.partner) || (g.taken || is_own a.own a.partner)

-- of a load: 10, 12, 11, 9
abbrev pub loading : Aim → Glance → Bool → Bool → Order
loading a g named odd = (unfit a g, 10) ∷ (not named, 12) ∷ (not odd, 11) ∷ (not g.there, 9) ∷ []

-- of a call about an entry that is there: 1 or 2 of a text, then 3
abbrev pub looking_up : Aim → Glance → Order
looking_up a g = (not (eqb a.answer 0), a.answer) ∷ (not g.there, 3) ∷ []

abbrev pub by_act : Act → Aim → Glance → Text → Order
by_act Receive a g text = looking_up a g
by_act BuildKsm a g text = looking_up a g
by_act BuildRsi a g text = looking_up a g
by_act GiveUp a g text = looking_up a g
by_act Remove a g text = looking_up a g
by_act Ask a g text = looking_up a g
by_act (Load top) a g text = loading a g (is_name text) (odd_top top)

-- 13, 6, then by what is asked
abbrev pub order : Aim → Glance → Act → Text → ℕ → Order
order a g act text room = (not g.legal, 13) ∷ (ltb room a.room, 6) ∷ by_act act a g text

-- what it asks of what is seen
abbrev pub glance : Sight → Glance
glance s = record { legal = s.legal; taken = s.taken; there = is_some s.slot }

unfoldable pub refusal : Aim → Sight → Act → Text → ℕ → ℕ
refusal a s q text room = first (order a (glance s) q text room)

-- ---- the turn of one entry

-- the new entry, with a key name; 10 where its identity is none
abbrev pub load : Option Name → Entry → Text → Top → Turn
load None e name top = refused e 10
load (Some id) e name top = done (loaded id (name_of name) top) [] nothing

-- of a load the text is the key's name
unfoldable pub turn : Text → Option Name → Entry → Act → Text → ℕ → Turn
turn own id e Receive text room = receive own e room text
turn own id e BuildKsm text room = build_ksm own e room (request_in text)
turn own id e BuildRsi text room = build_rsi own e room text
turn own id e GiveUp text room = give_up e
turn own id e Remove text room = emptied e
turn own id e Ask text room = unturned e
turn own id e (Load top) text room = load id e text top

-- ---- the way

-- a refusal, the entry as it was, or its turn
unfoldable pub take : Text → Aim → Sight → Act → Text → ℕ → Turn
take own a s q text room =
    cond (eqb (refusal a s q text room) 0) (turn own a.partner s.entry q text room)
    (refused s.entry (refusal a s q text room))
