-- What receive answers is the turn of the steps: 13, then 6, then by what is made of the text.
use Rattle.std.specs.Prelude.{Option, Result, Ok, Err}
use mathlib.Core.Path.{◌≡◌, sym, ap, subst, ◌∙◌}
use mathlib.Core.Bool.{true, false}
use mathlib.Core.List.{List}
use Prim.Native.Nat.{ℕ, ◌≤◌, ◌<◌}
use lib.ListN.{length}
use denote.Bor.{Bor}
use borrow.Author.Tests.{lt-ltb, le-ltb}
use Rattle.octets.specs.Text.{Text}
use Rattle.csm.specs.Message.{legal_body, read, print}
use Rattle.reader.specs.Seen.{seen}
use Rattle.messages.specs.declared.Counts.{Counts}
use Rattle.partner.specs.declared.Entry.{Entry}
use Rattle.calls.specs.declared.Refusal.{Refusal}
use Rattle.calls.specs.declared.Refusal.TheVariants.{Illegal, NoRoom}
use Rattle.calls.specs.Refusal.{number}
use Rattle.calls.specs.Words.{in_case◌then◌else◌}
use Rattle.calls.specs.Outcome.{Turn, refused}
use Rattle.calls.specs.Receive.{to_partner, esm_body}
use Rattle.outcome.specs.Report.{Turned, turned, turned_of, replied}
use Rattle.outcome.specs.declared.Given.TheVariants.{Done, Complaint}
use Rattle.outcome.proofs.Turns.{refuses, complains, does}
use Rattle.outcome.specs.declared.Parties.{Parties}
use Rattle.outcome.specs.Acts as acts
use Rattle.outcome.specs.Acts.{sound, guarded, receive_read}
use Rattle.receiving.specs.declared.Taken.{Taken}
use Rattle.receiving.specs.declared.fault.Fault.{Fault}
use Rattle.receiving.specs.declared.fault.Fault.TheVariants.{Refused, Error}
use Rattle.receiving.specs.Stages.{take, counts_in, reply_to, Replies}
use Rattle.receiving.proofs.Replying.{sound_parts}
use Rattle.receiving.proofs.Turning.{Right, right}

-- a report and the reply are those of a turn
pub record Gives (l new : Text) (t : Turned) (u : Turn) : Type 0 where
  pub value : t ≡ turned u
  pub reply_after : new ≡ replied u.outcome l

-- a refusal
refuse : {e : Entry} {u : Turn} (l : Text) (r : Refusal) → refused e (number r) ≡ u → Gives l l (turned_of e (Err r)) u
unfolding replied
refuse {e} l r h = record { value = refuses e r ∙ ap turned h; reply_after = ap (λ (v : Turn). replied v.outcome l) h }

-- 13
pub unsound : (own : Text) (e : Entry) (t l : Text) → sound own e ≡ false
    → Gives l l (turned_of e (Err Illegal)) (acts.receive own e (length l) t)
unfolding acts.receive guarded in_case◌then◌else◌
unsound own e t l h = refuse l Illegal (rw h)

-- of parties that are as they were lent
module _ (us : Parties) {own : Bor (List ℕ)} {e : Bor Entry} (lent : (us.own ≡ own) × (us.e ≡ e)) (t l : Text) where
  abbrev turn : Turn
  turn = acts.receive own.now e.now (length l) t

  ours : sound own.now e.now ≡ true
  ours = sym (λ j. sound (lent.0 j).now (lent.1 j).now) ∙ us.sound

  -- 6
  pub no_room : length l < 256 → Gives l l (turned_of e.now (Err NoRoom)) turn
  unfolding acts.receive guarded in_case◌then◌else◌
  no_room r = refuse l NoRoom (rw (ours, lt-ltb (length l) 256 r))

  -- neither: what is made of the text
  module _ (roomy : 256 ≤ length l) {x : Result Taken Fault} (s : x ≡ take us.own.now us.e.now t (seen (read t))) where
    made : {y : Result Taken Fault} → x ≡ y → Right own.now e.now y turn
    unfolding acts.receive guarded in_case◌then◌else◌
    made {y} i =
        let found : take own.now e.now t (seen (read t)) ≡ y =
        sym (s ∙ (λ j. take (lent.0 j).now (lent.1 j).now t (seen (read t)))) ∙ i in
        rw (ours, le-ltb (length l) 256 roomy)
        (subst (λ (r : Result Taken Fault). Right own.now e.now r (receive_read own.now e.now t (read t))) found
        (right own.now e.now t (sound_parts own.now e.now ours).1))

    -- refused
    pub refused_so : (r : Refusal) → x ≡ Err (Refused r) → Gives l l (turned_of e.now (Err r)) turn
    refused_so r i = refuse l r (made i).same

    -- taken
    pub taken_so : {new : Text} {n : ℕ} (k : Taken) → x ≡ Ok k → Replies (reply_to us.own.now us.e.now k) l new n
        → Gives l new (turned_of e.now (Ok (record { entry = k.entry; given = Done n k.told }))) turn
    unfolding replied
    taken_so {new} {n} k i w =
        let r = made i in
        let v = subst (λ (w : Text). Replies w l new n) (λ j. reply_to (lent.0 j).now (lent.1 j).now k) w in
        record {
          value = does e.now k.entry n (reply_to own.now e.now k) v.count r.lawful ∙ ap turned r.same;
          reply_after = v.text ∙ ap (λ (u : Turn). replied u.outcome l) r.same;
        }

    -- 4: its ESM is legal, and is told
    pub legal_so : (letters : ℕ) (counts : Option Counts) → x ≡ Err (Error letters counts)
        → legal_body (esm_body letters (counts_in counts)) ≡ true
    legal_so letters counts i = (made i).lawful

    pub told_so : {new : Text} {n : ℕ} (letters : ℕ) (counts : Option Counts) → x ≡ Err (Error letters counts)
        → Replies (print (to_partner us.own.now us.e.now (esm_body letters (counts_in counts)))) l new n
        → Gives l new (turned_of e.now (Ok (record { entry = e.now; given = Complaint letters n }))) turn
    unfolding replied
    told_so {new} {n} letters counts i w =
        let r = made i in
        let v = subst (λ (w : Text). Replies w l new n)
        (λ j. print (to_partner (lent.0 j).now (lent.1 j).now (esm_body letters (counts_in counts)))) w in
        record {
          value = complains e.now e.now letters n _ v.count ∙ ap turned r.same;
          reply_after = v.text ∙ ap (λ (u : Turn). replied u.outcome l) r.same;
        }
