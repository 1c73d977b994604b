-- The originator of a text: what the code has of its reading is what the reading has.
use Rattle.std.proofs.Common.{◌≡◌, sym, ap, ◌∙◌, Bool, true, false, not, cond}
use Rattle.std.specs.Prelude.{None, Some}
use Rattle.std.specs.Str.{bytes_eq}
use Rattle.octets.specs.Text.{Text, same}
use Rattle.octets.specs.Part.{part}
use Rattle.csm.specs.Message.{read}
use Rattle.reader.specs.declared.Head.{Head}
use Rattle.reader.specs.declared.Message.{Message}
use Rattle.reader.specs.Seen.{seen, head_in}
use Rattle.reader.proofs.Claims.{claims}
use Rattle.reader.proofs.SeenBack.{none_back, head_back}
use Rattle.sight.specs.Aim.{at_partner, refused, of_reading, of_text}

pub of_none : (own t : Text) → seen (read t) ≡ None → refused own 1 ≡ of_text own t
unfolding of_reading
of_none own t e = ap (of_reading own) (sym (none_back t e))

-- RCV of a text, where the head has it, is compared with us
module _ (own t rcv : Text) (m : Message) (e : seen (read t) ≡ Some m) (q : rcv ≡ part t (head_in m).rcv)
    (n : Bool) (p : n ≡ not (bytes_eq rcv own)) where
  by_rcv : cond n (refused own 2) (at_partner own (part t (head_in m).org)) ≡ of_text own t
  unfolding of_reading
  by_rcv =
      let h = head_back t m e in
      let k = claims.head_parts t h.reading h.is in
      let r : rcv ≡ h.reading.rcv = q ∙ ap (λ (x : Head). part t x.rcv) (sym h.head) ∙ k.rcv in
      let o : part t (head_in m).org ≡ h.reading.org = ap (λ (x : Head). part t x.org) (sym h.head) ∙ k.org in
      ap (λ (b : Bool). cond b (refused own 2) (at_partner own (part t (head_in m).org)))
      (p ∙ ap not (ap (λ (w : Text). same w own) r))
      ∙ ap (λ (w : Text). cond (not (same h.reading.rcv own)) (refused own 2) (at_partner own w)) o
      ∙ ap (of_reading own) (sym h.is)

  pub for_another : n ≡ true → refused own 2 ≡ of_text own t
  for_another h = sym (ap (λ (b : Bool). cond b (refused own 2) (at_partner own (part t (head_in m).org))) h) ∙ by_rcv

  pub from_partner : (org : Text) → org ≡ part t (head_in m).org → n ≡ false → at_partner own org ≡ of_text own t
  from_partner org o h =
      ap (at_partner own) o
      ∙ sym (ap (λ (b : Bool). cond b (refused own 2) (at_partner own (part t (head_in m).org))) h) ∙ by_rcv
