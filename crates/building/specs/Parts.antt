-- What the private functions give: the parts of the messages that are built, as their writers take them.
-- No belief rests on these: proofs/ ties them to the steps of crate `calls`.
use Rattle.std.specs.Prelude.{Bool, cond, ◌++◌, ℕ, eqb, length, drop, Option, None, Some}
use Rattle.octets.specs.Text.{Text}
use Rattle.keying.specs.declared.Blocks.{Blocks}
use Rattle.keying.specs.Keys.{seal, each}
use Rattle.keying.specs.Iv.{conceal}
use Rattle.csm.specs.Message.{rsi, print}
use Rattle.writer.specs.declared.Key.{Key}
use Rattle.writer.specs.declared.Vector.{Vector}
use Rattle.writer.specs.declared.Vector.TheVariants.{Plain, Enciphered}
use Rattle.messages.specs.declared.Ksm.{Ksm}
use Rattle.partner.specs.declared.Name.{Name}
use Rattle.partner.specs.declared.Entry.{Entry}
use Rattle.partner.specs.Entry.{blanks, keys_in}
use Rattle.calls.specs.declared.KeyRequest.{KeyRequest}
use Rattle.calls.specs.declared.Request.{Request}
use Rattle.calls.specs.Receive.{to_partner}
use Rattle.calls.specs.Build.{wants_p, wants_idk1, wants_idk2, wants_nos, asked, outgoing_of, working_for}

-- a name as it is written: blanks where it is not asked for
abbrev pub name_written : Bool → Name → Text
name_written b n = cond b n.bytes blanks

-- the keys of a request enciphered
abbrev pub sealed_for : Text → Entry → Request → Blocks
sealed_for own e q =
    each (seal (working_for own e q))
    (record { first = q.first.key; second = asked (eqb q.count 2) q.second.key })

-- a key as it is written: enciphered so, its mark and its names
abbrev pub key_as : Entry → KeyRequest → ℕ → Key
key_as e k sealed = record {
  sealed = sealed;
  p = wants_p k;
  idk1 = name_written (wants_idk1 k) k.name;
  idk2 = name_written (wants_idk2 k) e.top.name;
}

abbrev pub key_for : Text → Entry → Request → KeyRequest → Key
key_for own e q k = key_as e k (seal (working_for own e q) k.key)

-- the IV: none, its value, or its value enciphered
abbrev pub vector_for : Request → Option Vector
vector_for q =
    cond (eqb q.kind 1) (Some (Plain q.iv))
    (cond (eqb q.kind 2) (Some (Enciphered (conceal (keys_in (outgoing_of q)) q.iv))) None)

-- what the KSM of a request says
abbrev pub ksm_for : Text → Entry → Request → Ksm
ksm_for own e q = record {
  nos = wants_nos q;
  first = key_for own e q q.first;
  second = asked (eqb q.count 2) (key_for own e q q.second);
  vector = vector_for q;
  edk = asked (eqb q.dated 1) q.date.digits;
  ctp = e.sending.next;
}

-- the text of an RSI
unfoldable pub rsi_text : Text → Entry → ℕ → Text
rsi_text own e s = print (to_partner own e (rsi (record { svr = s; edc = None })))

-- a text over the front of a buffer
unfoldable pub fronted : Text → Text → Text
fronted t l = t ++ drop (length t) l
