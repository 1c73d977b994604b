-- The claims of specs/Claims.antt, proved.
use Rattle.std.specs.Prelude.{Some}
use mathlib.Core.Path.{◌≡◌, sym, ap, ◌∙◌, subst}
use mathlib.Core.Bool.{true}
use mathlib.Core.Logic.{◌↔◌}
use Rattle.octets.specs.Text.{Text}
use Rattle.csm.specs.Message.{Reading, legal, print, read}
use Rattle.csm.specs.Claims.{Claims, MessageText}
use Rattle.csm.proofs.TextLaws.{some_inj}
use Rattle.csm.proofs.MessageLaws.{read_back, read_there}
use Rattle.csm.proofs.CharLaws.{legal_text}
use Rattle.csm.proofs.CoveredLaws.{sealed_text, covered_agrees, covered_place}

pub unique_reading : (t : Text) (r : Reading) → (read t ≡ Some r) ↔ ((legal r ≡ true) × (t ≡ print r))
unique_reading t r = (read_back t r, λ p. ap read p.1 ∙ read_there r p.0)

pub one_reading : (t : Text) (q r : Reading) → read t ≡ Some q → read t ≡ Some r → q ≡ r
one_reading t q r a b = some_inj (sym a ∙ b)

pub one_text : (s t : Text) (r : Reading) → read s ≡ Some r → read t ≡ Some r → s ≡ t
one_text s t r a b = (read_back s r a).1 ∙ sym (read_back t r b).1

pub print_injective : (q r : Reading) → legal q ≡ true → legal r ≡ true → print q ≡ print r → q ≡ r
print_injective q r a b e = one_reading (print q) q r (read_there q a) (ap read e ∙ read_there r b)

pub message_text : (t : Text) (r : Reading) → read t ≡ Some r → MessageText t
message_text t r e = let h = read_back t r e in subst MessageText (sym h.1) (legal_text r h.0)

pub claims : Claims
claims = record {
  unique_reading = unique_reading;
  one_reading = one_reading;
  one_text = one_text;
  read_print = read_there;
  print_injective = print_injective;
  message_text = message_text;
  sealed_text = sealed_text;
  covered_agrees = covered_agrees;
  covered_place = covered_place;
}
