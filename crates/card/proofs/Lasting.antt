-- A call that changes the image in place leaves a legal entry legal: it can be put back where it was.
use Rattle.std.specs.Prelude.{Option, None, Some}
use mathlib.Core.Path.{◌≡◌, refl}
use mathlib.Core.Bool.{Bool, true, false, cond}
use Prim.Native.Nat.{ℕ}
use lib.Dec.{eqb}
use Rattle.octets.specs.Text.{Text, is_name}
use Rattle.csm.specs.Message.{Reading, read}
use Rattle.csm.proofs.MessageLaws.{read_back, legal_parts as reading_parts}
use Rattle.partner.specs.declared.Name.{Name}
use Rattle.partner.specs.declared.Entry.{Entry}
use Rattle.partner.specs.Legal as partner
use Rattle.calls.specs.Outcome.{Turn, refused}
use Rattle.calls.proofs.Tests.{by_case}
use Rattle.calls.proofs.Turns.{Does, does_change, change_legal}
use Rattle.calls.proofs.Turns.{receive_does, build_ksm_does, build_rsi_does, give_up_does}
use Rattle.outcome.specs.Acts.{guarded, receive_read, receive, build_ksm, build_rsi}
use Rattle.sight.specs.declared.aims.Act.{Act}
use Rattle.sight.specs.declared.aims.Act.TheVariants.{Receive, BuildKsm, BuildRsi, GiveUp, Remove, Ask, Load}
use Rattle.sight.specs.declared.aims.Aim.{Aim}
use Rattle.sight.specs.declared.Sight.{Sight}
use Rattle.request.specs.Request.{request_in}
use Rattle.sight.specs.Asked.{call_of}
use Rattle.turn.specs.Way.{refusal, turn, take}
use Rattle.card.specs.Claims.{InPlace}

-- the entry that a turn leaves is legal
abbrev Lawful : Turn → Type 0
Lawful r = partner.legal r.entry ≡ true

module _ (own : Text) (named : is_name own ≡ true) (e : Entry) (lawful : partner.legal e ≡ true) where
  does_lawful : {R : Text → Type 0} (r : Turn) → Does own e R r → Lawful r
  does_lawful r d = change_legal e r.entry (does_change r d) lawful

  guarded_lawful : (room : ℕ) (r : Turn) → Lawful r → Lawful (guarded own e room r)
  unfolding guarded
  guarded_lawful room r h = by_case Lawful _ _ _ (λ _. lawful) λ _. by_case Lawful _ _ _ (λ _. lawful) (λ _. h)

  read_lawful : (text : Text) (o : Option Reading) → read text ≡ o → Lawful (receive_read own e text o)
  unfolding receive_read
  read_lawful text None q = lawful
  read_lawful text (Some r) q =
      does_lawful _ (receive_does own e named lawful text r.body (reading_parts r (read_back text r q).0).body)

  turn_lawful : (a : Act) (id : Option Name) (text who : Text) (room : ℕ) → InPlace (call_of a room who text)
      → Lawful (turn own id e a text room)
  unfolding call_of turn receive build_ksm build_rsi
  turn_lawful Receive id text who room p =
      guarded_lawful room (receive_read own e text (read text)) (read_lawful text (read text) refl)
  turn_lawful BuildKsm id text who room p =
      guarded_lawful room _ (does_lawful _ (build_ksm_does own e named lawful (request_in text)))
  turn_lawful BuildRsi id text who room p =
      guarded_lawful room _ (does_lawful _ (build_rsi_does own e named lawful text))
  turn_lawful GiveUp id text who room p = does_lawful _ (give_up_does own e)
  turn_lawful Remove id text who room p = absurd p
  turn_lawful Ask id text who room p = lawful
  turn_lawful (Load top) id text who room p = absurd p

-- a refusal leaves it as it was
pub take_lawful : (own : Text) (a : Aim) (s : Sight) (q : Act) (text who : Text) (room : ℕ) → is_name own ≡ true
    → partner.legal s.entry ≡ true → InPlace (call_of q room who text)
    → partner.legal (take own a s q text room).entry ≡ true
unfolding take
take_lawful own a s q text who room n l p = go (eqb (refusal a s q text room) 0)
  where
    go : (b : Bool)
        → Lawful (cond b (turn own a.partner s.entry q text room)
        (refused s.entry (refusal a s q text room)))
    go true = turn_lawful own n s.entry l q a.partner text who room p
    go false = l
