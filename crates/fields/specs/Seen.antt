-- What the code answers, from what the formats of csm read.
use Rattle.std.specs.Prelude.{cond, [], ◌∷◌, ◌++◌, ℕ, ◌+◌, ◌/◌, ◌%◌, ◌^◌, length, Option, None, Some, option_map}
use Rattle.octets.specs.Text.{Text, ascii, blank}
use Rattle.octets.specs.declared.Span.{Span}
use Rattle.csm.specs.Fields.{named, hex_text, half_digits, class_text, svr, kd, count, erf, Contents, tag}
use Rattle.csm.specs.Fields.{MCL, RCV, ORG, SVR, NOS, KD, IV, EDK, CTP, CTR, ERF, MAC, EDC}
use Rattle.csm.specs.Fields.{RSI, KSM, RSM, ESM, DSM, ERS, RFS, RTR}
use Rattle.csm.specs.Fields as csm
use Rattle.fields.specs.declared.Field.{Field}
use Rattle.fields.specs.declared.Numeral.{Numeral}
use Rattle.fields.specs.declared.Kd.{Kd}
use Rattle.fields.specs.declared.Class.{Class}
use Rattle.fields.specs.declared.Class.TheVariants as class

-- ---- the text of contents

-- what was read, without what follows it
abbrev pub taken : {A : Type 0} → Option (A × Text) → Option A
taken None = None
taken (Some p) = Some p.0

-- contents that stand for themselves
abbrev pub itself : Text → Text
itself w = w

-- MAC, EDC: four hex digits, blank, four hex digits
abbrev pub check_text : ℕ → Text
check_text n = hex_text half_digits (n / 16 ^ half_digits) ++ blank ∷ hex_text half_digits (n % 16 ^ half_digits)

-- a field's contents, without the blank after them
abbrev pub inner : (f : csm.Field) → Contents f → Text
inner MCL c = class_text c
inner RCV w = w
inner ORG w = w
inner SVR n = svr.text n
inner NOS u = []
inner KD k = kd.text k
inner IV w = w
inner EDK w = w
inner CTP n = count.text n
inner CTR n = count.text n
inner ERF n = erf.text n
inner MAC n = check_text n
inner EDC n = check_text n

-- ---- where contents stand that have that text

-- the contents of a field whose tag starts at `at`
abbrev pub span_of : {A : Type 0} → (A → Text) → ℕ → Text → A → Span
span_of text at tag a = record { at = at + length tag; length = length (text a) }

-- what follows the field: behind the blank after its contents, or where it was sought
abbrev pub next_of : {A : Type 0} → (A → Text) → ℕ → Text → Option A → ℕ
next_of text at tag None = at
next_of text at tag (Some a) = at + length tag + length (text a) + 1

-- a field whose contents are shown as `show` says, from them and from where they stand
abbrev pub field_at : {A B : Type 0} → (Span → A → B) → (A → Text) → ℕ → Text → Option A → Field B
field_at show text at tag o = record {
  contents = option_map (λ a. show (span_of text at tag a) a) o;
  next = next_of text at tag o;
}

-- ---- what contents are shown as

-- the part where they stand
abbrev pub as_part : {A : Type 0} → Span → A → Span
as_part s a = s

-- CTP, CTR, SVR, ERF, MAC, EDC: the number, and where its text stands
abbrev pub as_number : Span → ℕ → Numeral
as_number s n = record { value = n; span = s }

-- a name that stands at `at`
abbrev pub name_at : ℕ → Text → Span
name_at at w = record { at = at; length = length w }

-- IDK1 stands behind 16 digits, a dot, P or nothing, and a dot
abbrev pub names_at : ℕ → csm.Kd → ℕ
names_at at k = cond k.p (at + 19) (at + 18)

-- a KD whose contents start at `at`; IDK2 stands behind IDK1 and a dot
abbrev pub kd_of : ℕ → csm.Kd → Kd
kd_of at k = record {
  key = k.key;
  p = k.p;
  contents = record { at = at; length = length (kd.text k) };
  idk1 = option_map (name_at (names_at at k)) k.idk1;
  idk2 = option_map (name_at (names_at at k + length (named k.idk1) + 1)) k.idk2;
}

-- KD
abbrev pub as_key : Span → csm.Kd → Kd
as_key s k = kd_of s.at k

-- the class in the code
abbrev pub class_of : csm.Class → Class
class_of RSI = class.Rsi
class_of KSM = class.Ksm
class_of RSM = class.Rsm
class_of ESM = class.Esm
class_of DSM = class.Dsm
class_of ERS = class.Ers
class_of RFS = class.Rfs
class_of RTR = class.Rtr

-- its name
abbrev pub class_name : Class → Text
class_name class.Rsi = ascii "RSI"
class_name class.Ksm = ascii "KSM"
class_name class.Rsm = ascii "RSM"
class_name class.Esm = ascii "ESM"
class_name class.Dsm = ascii "DSM"
class_name class.Ers = ascii "ERS"
class_name class.Rfs = ascii "RFS"
class_name class.Rtr = ascii "RTR"

-- MCL
abbrev pub as_class : Span → csm.Class → Class
as_class s c = class_of c

-- of each field
abbrev pub Shown : csm.Field → Type 0
Shown MCL = Class
Shown RCV = Span
Shown ORG = Span
Shown SVR = Numeral
Shown NOS = Span
Shown KD = Kd
Shown IV = Span
Shown EDK = Span
Shown CTP = Numeral
Shown CTR = Numeral
Shown ERF = Numeral
Shown MAC = Numeral
Shown EDC = Numeral

abbrev pub shown : (f : csm.Field) → Span → Contents f → Shown f
shown MCL = as_class
shown RCV = as_part
shown ORG = as_part
shown SVR = as_number
shown NOS = as_part
shown KD = as_key
shown IV = as_part
shown EDK = as_part
shown CTP = as_number
shown CTR = as_number
shown ERF = as_number
shown MAC = as_number
shown EDC = as_number
