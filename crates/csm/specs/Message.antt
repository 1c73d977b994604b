-- The text of a message: its classes, their fields in order, and their readings (document 01).
use Rattle.std.specs.Prelude.{Bool, true, false, cond, not, ◌&&◌, ◌||◌, List, [], ◌∷◌, ◌++◌, ℕ, eqb, length, Option, None, Some}
use Prim.Native.Char.{code}
use Rattle.octets.specs.Text.{Text, ascii, blank, all, stands, starts, within, run_char}
use Rattle.octets.specs.Part.{found}
use Rattle.csm.specs.Format.{Format, bind, plain, upto, just, pre, both, maybe, as_form, such_that}
use Rattle.csm.specs.Format.{whole}
use Rattle.csm.specs.Fields.{Kd, has_P, field, Contents}
use Rattle.csm.specs.Fields.{Class, RSI, KSM, RSM, ESM, DSM, ERS, RFS, RTR}
use Rattle.csm.specs.Fields.{Field, MCL, RCV, ORG, SVR, NOS, KD, IV, EDK, CTP, CTR, ERF, MAC, EDC}

-- ---- a row of fields, each there once or at most once, and what ends the row

pub data Item : Type 0 where
  one opt : Field → Item

abbrev pub Row : Type 0
Row = List Item

-- what is read of a row
abbrev pub Values : Row → Type 0
Values [] = Unit {0}
Values (one f ∷ rs) = Contents f × Values rs
Values (opt f ∷ rs) = Option (Contents f) × Values rs

-- its fields one after the other, then the end
abbrev pub fields : (rs : Row) → Text → Format (Values rs)
fields [] end = just end
fields (one f ∷ rs) end = both (field f) (fields rs end)
fields (opt f ∷ rs) end = maybe (field f) (fields rs end)

-- ---- the classes: each has the head, then its row

abbrev pub head_row : Row
head_row = one MCL ∷ one RCV ∷ one ORG ∷ []

abbrev pub rsi_row : Row
rsi_row = one SVR ∷ opt EDC ∷ []

abbrev pub ksm_row : Row
ksm_row = opt NOS ∷ one KD ∷ opt KD ∷ opt IV ∷ opt EDK ∷ one CTP ∷ one MAC ∷ []

abbrev pub rsm_row : Row
rsm_row = one MAC ∷ []

abbrev pub esm_row : Row
esm_row = opt CTP ∷ opt CTR ∷ one ERF ∷ opt EDC ∷ []

-- ---- their readings; of NOS, whether it is there; an option keeps its rest as text

pub record Rsi : Type 0 where
  pub svr : ℕ
  pub edc : Option ℕ

pub record Ksm : Type 0 where
  pub nos : Bool
  pub kd : Kd
  pub second : Option Kd
  pub iv : Option Text
  pub edk : Option Text
  pub ctp : ℕ
  pub mac : ℕ

pub record Rsm : Type 0 where
  pub mac : ℕ

pub record Esm : Type 0 where
  pub ctp : Option ℕ
  pub ctr : Option ℕ
  pub erf : ℕ
  pub edc : Option ℕ

pub data Body : Type 0 where
  rsi : Rsi → Body
  ksm : Ksm → Body
  rsm : Rsm → Body
  esm : Esm → Body
  option : Class → Text → Body

pub record Reading : Type 0 where
  pub rcv : Text
  pub org : Text
  pub body : Body

-- the class that the head names
abbrev pub class_of : Body → Class
class_of (rsi r) = RSI
class_of (ksm r) = KSM
class_of (rsm r) = RSM
class_of (esm r) = ESM
class_of (option c w) = c

-- ---- a row's values as a record

abbrev pub rsi_values : Rsi → Values rsi_row
rsi_values r = (r.svr, (r.edc, tt))

abbrev pub rsi_record : Values rsi_row → Rsi
rsi_record (svr, (edc, u)) = record { svr = svr; edc = edc }

-- a field without contents, by whether it is there
abbrev pub flagged : Bool → Option (Unit {0})
flagged true = Some tt
flagged false = None

abbrev pub ksm_values : Ksm → Values ksm_row
ksm_values r = (flagged r.nos, (r.kd, (r.second, (r.iv, (r.edk, (r.ctp, (r.mac, tt)))))))

abbrev pub ksm_record : Values ksm_row → Ksm
ksm_record (nos, (kd, (second, (iv, (edk, (ctp, (mac, u))))))) =
    record { nos = found nos; kd = kd; second = second; iv = iv; edk = edk; ctp = ctp; mac = mac }

abbrev pub rsm_values : Rsm → Values rsm_row
rsm_values r = (r.mac, tt)

abbrev pub rsm_record : Values rsm_row → Rsm
rsm_record (mac, u) = record { mac = mac }

abbrev pub esm_values : Esm → Values esm_row
esm_values r = (r.ctp, (r.ctr, (r.erf, (r.edc, tt))))

abbrev pub esm_record : Values esm_row → Esm
esm_record (ctp, (ctr, (erf, (edc, u)))) = record { ctp = ctp; ctr = ctr; erf = erf; edc = edc }

-- ---- the text of the head and of each class

-- MCL, RCV, ORG
abbrev pub Head : Type 0
Head = Values head_row

-- `CSM(` and the head's fields
abbrev pub head : Format Head
head = pre (ascii "CSM(") (fields head_row [])

-- a row and the closing parenthesis
abbrev pub closed : (rs : Row) → Format (Values rs)
closed rs = fields rs (ascii ")")

abbrev pub rsi_form : Format Rsi
rsi_form = as_form rsi_record rsi_values (closed rsi_row)

abbrev pub ksm_form : Format Ksm
ksm_form = as_form ksm_record ksm_values (closed ksm_row)

abbrev pub rsm_form : Format Rsm
rsm_form = as_form rsm_record rsm_values (closed rsm_row)

-- CTP and CTR, both exactly when ERF has a P
abbrev pub counts_with_P : Esm → Bool
counts_with_P r =
    cond (has_P r.erf) (found r.ctp && found r.ctr) (not (found r.ctp) && not (found r.ctr))

abbrev pub esm_form : Format Esm
esm_form = such_that counts_with_P (as_form esm_record esm_values (closed esm_row))

-- ---- options: after the head a rest, which in a KSM and an RSI starts with one of some tags

-- IDC, KK, *KK, KKU, *KKU, KDU in a KSM
abbrev pub ksm_options : List Text
ksm_options =
    ascii "IDC/" ∷ ascii "KK/" ∷ ascii "*KK/"
    ∷ ascii "KKU/" ∷ ascii "*KKU/" ∷ ascii "KDU/" ∷ []

-- IDU, IDC in an RSI
abbrev pub rsi_options : List Text
rsi_options = ascii "IDU/" ∷ ascii "IDC/" ∷ []

-- w starts with one of the texts
abbrev pub starts_any : List Text → Text → Bool
starts_any [] w = false
starts_any (t ∷ ts) w = starts t w || starts_any ts w

-- what makes a rest an option
abbrev pub is_option : Class → Text → Bool
is_option RSI w = starts_any rsi_options w
is_option KSM w = starts_any ksm_options w
is_option RSM w = false
is_option ESM w = false
is_option DSM w = true
is_option ERS w = true
is_option RFS w = true
is_option RTR w = true

-- the characters of a message but for its two parentheses: A to Z, 0 to 9, blank, `.`, `/`, `*`, `-`
abbrev pub text_char : ℕ → Bool
text_char x = run_char (code "Z") x || stands x (ascii " ./*-")

-- ends in a blank, or is empty
abbrev pub ends_blank : Text → Bool
ends_blank [] = true
ends_blank (x ∷ []) = eqb x blank
ends_blank (x ∷ y ∷ w) = ends_blank (y ∷ w)

-- a rest of that class
abbrev pub is_rest : Class → Text → Bool
is_rest c w = is_option c w && (all text_char w && ends_blank w)

-- a rest and the closing parenthesis
abbrev pub rest : Class → Format Text
rest c = upto (code ")") (plain (is_rest c))

-- ---- every class

-- which bodies are legal
abbrev pub legal_body : Body → Bool
legal_body (rsi r) = rsi_form.legal r
legal_body (ksm r) = ksm_form.legal r
legal_body (rsm r) = rsm_form.legal r
legal_body (esm r) = esm_form.legal r
legal_body (option c w) = (rest c).legal w

-- their text, with the closing parenthesis
abbrev pub print_body : Body → Text
print_body (rsi r) = rsi_form.print r
print_body (ksm r) = ksm_form.print r
print_body (rsm r) = rsm_form.print r
print_body (esm r) = esm_form.print r
print_body (option c w) = (rest c).print w

-- what was read, as a body
abbrev pub under : {A : Type 0} → (A → Body) → Option (A × Text) → Option (Body × Text)
under f o = bind o (λ p. Some (f p.0, p.1))

-- by the class's own fields
abbrev pub read_known : Class → Text → Option (Body × Text)
read_known RSI s = under rsi (rsi_form.read s)
read_known KSM s = under ksm (ksm_form.read s)
read_known RSM s = under rsm (rsm_form.read s)
read_known ESM s = under esm (esm_form.read s)
read_known DSM s = None
read_known ERS s = None
read_known RFS s = None
read_known RTR s = None

-- the first reading, or the second
abbrev pub or_else : Option (Body × Text) → Option (Body × Text) → Option (Body × Text)
or_else None o = o
or_else (Some p) o = Some p

-- or else as an option
abbrev pub read_body : Class → Text → Option (Body × Text)
read_body c s = or_else (read_known c s) (under (option c) ((rest c).read s))

-- ---- the message: the head, then the body of the class that the head names

-- the head of a reading
abbrev pub head_of : Reading → Head
head_of r = (class_of r.body, (r.rcv, (r.org, tt)))

-- the reading of a head and a body
abbrev pub with_body : Head → Body → Reading
with_body h b = record { rcv = h.1.0; org = h.1.1.0; body = b }

-- the body after its head
abbrev pub read_after : Head × Text → Option (Reading × Text)
read_after p = bind (read_body p.0.0 p.1) (λ q. Some (with_body p.0 q.0, q.1))

abbrev pub message : Format Reading
message = record {
  legal = λ r. head.legal (head_of r) && legal_body r.body;
  print = λ r. head.print (head_of r) ++ print_body r.body;
  read = λ s. bind (head.read s) read_after;
}

-- length 1 to 512 bytes
abbrev pub fits : Text → Bool
fits t = within 1 512 (length t)

-- the text of a reading
unfoldable pub print : Reading → Text
print = message.print

-- which readings are messages
unfoldable pub legal : Reading → Bool
unfolding print
legal r = message.legal r && fits (print r)

-- the reading of a text, or none
unfoldable pub read : Text → Option Reading
read t = cond (fits t) (whole message t) None
