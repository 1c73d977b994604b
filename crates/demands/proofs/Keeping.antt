-- What is kept is bytes and a legal image; keys in bytes are numbers of 64 bits; replies are short.
use Rattle.std.specs.Prelude.{Option, None, Some}
use mathlib.Core.Path.{◌≡◌, refl, sym, ap, ◌∙◌, subst}
use mathlib.Core.Bool.{Bool, true, false, cond}
use mathlib.Core.List.{List, [], ◌∷◌}
use Prim.Native.Nat.{ℕ, ◌≤◌}
use native.Mathlib.Omega.{arith}
use lib.Dec.{eqb, ltb}
use lib.ListN.{length}
use borrow.Author.Tests.{eqb-true, eqb-false}
use Rattle.octets.specs.Text.{Text}
use Rattle.octets.specs.Part.{bare, all_octets}
use Rattle.octets.proofs.Comparing.{all_append}
use Rattle.octets.proofs.Codecs.{fits_read}
use Rattle.keying.specs.declared.Top.{Top}
use Rattle.csm.specs.Message.{Body, rsi, ksm, rsm, esm, option, Reading, read}
use Rattle.csm.proofs.Claims as text
use Rattle.csm.proofs.TextLaws.{some_inj, none_some}
use Rattle.partner.specs.declared.Entry.{Entry}
use Rattle.partner.specs.Entry.{filled}
use Rattle.partner.specs.Record.{entry_bytes}
use Rattle.partner.specs.Held.{Held}
use Rattle.partner.proofs.Claims as partner
use Rattle.partner.proofs.Holding.{held_name_of}
use Rattle.partner.specs.Table.{Table, AllHeld, legal, is_empty}
use Rattle.image.specs.Image.{decode, encode, slot_bytes, slots_bytes}
use Rattle.image.proofs.Claims as stored
use Rattle.calls.specs.Outcome.{Outcome}
use Rattle.calls.specs.Calls.{entry_of, run}
use Rattle.calls.specs.Calls as steps
use Rattle.calls.specs.Claims.{Carries, AnswersText, Answers, Writes, Sized, subject}
use Rattle.calls.proofs.Claims as call
use Rattle.calls.proofs.Tables.{legal_parts, own_name, entry_held}
use Rattle.request.specs.Request.{no_request, request_layout, request_size, whole_in, request_in}
use Rattle.card.specs.Whole.{top_in}
use Rattle.card.specs.Claims.{Of64Bits}
use Rattle.card.proofs.Fitting.{name_octets}
use Rattle.card.proofs.Keys.{top_fits}
use Rattle.card.proofs.Staying.{find_held, run_holds}
use Rattle.demands.specs.Face.{Call, receive, build_ksm, build_rsi, ask, give_up, load, remove}
use Rattle.demands.specs.Terms.{Bytes, OfBytes, loading, step_of}

-- ---- numbers of 64 bits

pub request_sized : (s : Text) → Bytes s → Sized (request_in s)
unfolding request_in whole_in
request_sized s o = go (eqb (length s) request_size)
  where
    go : (b : Bool) → Sized (cond b (whole_in s) no_request)
    go true =
        let f = fits_read request_layout 0 s o in
        record { first = f.1.0.0; second = f.1.1.0.0; iv = f.1.1.1.1.0 }
    go false = record { first = omega arith; second = omega arith; iv = omega arith }

pub step_fits : (c : Call) (room : ℕ) (d : steps.Call) → OfBytes c → step_of room c ≡ Some d → Of64Bits d
step_fits (receive text) room d o e = subst Of64Bits (some_inj e) tt
step_fits (build_ksm partner request) room d o e = subst Of64Bits (some_inj e) (request_sized request o)
step_fits (build_rsi partner service) room d o e = subst Of64Bits (some_inj e) tt
step_fits (ask partner) room d o e = subst Of64Bits (some_inj e) tt
step_fits (give_up partner) room d o e = subst Of64Bits (some_inj e) tt
step_fits (load partner name key) room d o e = go (top_in key) refl e
  where
    go : (top : Option Top) → top_in key ≡ top → loading partner name top ≡ Some d → Of64Bits d
    go None q e = absurd (none_some _ e)
    go (Some top) q e = subst Of64Bits (some_inj e) (top_fits key top o q)
step_fits (remove partner) room d o e = subst Of64Bits (some_inj e) tt

-- ---- an image is bytes

slot_octets : (e : Entry) → Held e → all_octets (slot_bytes e) ≡ true
unfolding slot_bytes
slot_octets e h = go (is_empty e)
  where
    go : (b : Bool) → all_octets (cond b (0 ∷ []) (2 ∷ entry_bytes e)) ≡ true
    go true = refl
    go false = (partner.claims).record_is_octets e h

slots_octets : (l : List Entry) → AllHeld l → all_octets (slots_bytes l) ≡ true
slots_octets [] h = refl
slots_octets (e ∷ l) (k, h) =
    all_append (λ b. ltb b 256) (slot_bytes e) (slots_bytes l) ∙ rw (slot_octets e k, slots_octets l h)

own_octets : (t : Table) → legal t ≡ true → all_octets t.own ≡ true
own_octets t l =
    ap all_octets (sym ((partner.claims).filled_after_bare t.own (legal_parts t l).own))
    ∙ (held_name_of (bare t.own) (name_octets (bare t.own) (own_name t l))).octets

pub encode_octets : (t : Table) → legal t ≡ true → AllHeld t.slots → Bytes (encode t)
unfolding encode
encode_octets t l h =
    all_append (λ b. ltb b 256) t.own (slots_bytes t.slots) ∙ rw (own_octets t l, slots_octets t.slots h)

-- the table after a call: its image reads as that table and is bytes
module _ (image : Text) (t : Table) (d : steps.Call) (octets : Bytes image) (is : decode image ≡ Some t)
    (fits : Of64Bits d) where
  lawful_before : legal t ≡ true
  lawful_before = ((stored.claims).read_then_write image t is).0

  lawful_after : legal (run t d).table ≡ true
  lawful_after = (call.claims).stays_legal t d lawful_before

  held_after : AllHeld (run t d).table.slots
  held_after = run_holds t lawful_before ((stored.claims).read_is_held image t octets is) d fits

  pub after_read : decode (encode (run t d).table) ≡ Some (run t d).table
  after_read = (stored.claims).write_then_read (run t d).table lawful_after held_after

  pub after_octets : Bytes (encode (run t d).table)
  after_octets = encode_octets (run t d).table lawful_after held_after

-- an entry of an image fits its types
pub entry_fits : (image : Text) (t : Table) (id : Text) (e : Entry) → Bytes image → decode image ≡ Some t
    → entry_of id t ≡ Some e → Held e
entry_fits image t id e o is h =
    find_held (filled id) t.slots e ((stored.claims).read_is_held image t o is) (entry_held t id e h).found

-- ---- replies are short

message_short : (us them : Text) (b : Body) (w : Text) → Carries us them b w → length w ≤ 512
message_short us them b w h = ((text.claims).message_text w _ h).at_most

answer_short : (us : Text) (o : Option Reading) (w : Text) → AnswersText us o w → length w ≤ 512
answer_short us None w h = absurd h
answer_short us (Some r) w h = go r.body h
  where
    go : (b : Body) → Answers us r.org b w → length w ≤ 512
    go (rsi m) h = omega (arith, ap length h)
    go (ksm m) h = message_short us r.org (rsm h.0) w h.1
    go (rsm m) h = omega (arith, ap length h)
    go (esm m) h = omega (arith, ap length h)
    go (option c v) h = absurd h

writes_short : (us : Text) (d : steps.Call) (w : Text) → Writes us d w → length w ≤ 512
writes_short us (steps.receive room s) w h = answer_short us (read s) w h
writes_short us (steps.about id (steps.build_ksm room q)) w h = message_short us id (ksm h.0) w h.1
writes_short us (steps.about id (steps.build_rsi room s)) w h = message_short us id (rsi (record { svr = h.0; edc = None })) w h.2
writes_short us (steps.about id steps.give_up) w h = omega (arith, ap length h)
writes_short us (steps.about id steps.remove) w h = omega (arith, ap length h)
writes_short us (steps.about id steps.ask) w h = omega (arith, ap length h)
writes_short us (steps.load id name top) w h = omega (arith, ap length h)

pub reply_short : (t : Table) (d : steps.Call) → length (run t d).outcome.reply ≤ 512
reply_short t d = go (eqb (run t d).outcome.answer 0) refl (eqb (run t d).outcome.answer 4) refl
  where
    go : (a : Bool) → eqb (run t d).outcome.answer 0 ≡ a → (b : Bool) → eqb (run t d).outcome.answer 4 ≡ b
        → length (run t d).outcome.reply ≤ 512
    go true p b q =
        writes_short (bare t.own) d (run t d).outcome.reply
        ((call.claims).replies t d (eqb-true (run t d).outcome.answer 0 p))
    go false p true q =
        let k = (call.claims).errors_are_answered t d (eqb-true (run t d).outcome.answer 4 q) in
        message_short (bare t.own) (subject d) (esm k.message) (run t d).outcome.reply k.written
    go false p false q =
        let k = (call.claims).refusals_are_bare t d (eqb-false (run t d).outcome.answer 0 p)
        (eqb-false (run t d).outcome.answer 4 q) in
        omega (arith, ap (λ (o : Outcome). length o.reply) k)
