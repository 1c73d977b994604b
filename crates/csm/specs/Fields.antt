-- The fields of a message: their tags and their contents (document 01, "Text of a message").
use Rattle.std.specs.Prelude.{Bool, true, false, cond, ◌&&◌, List, [], ◌∷◌, ◌++◌, ℕ, zero, suc, ◌+◌, ◌-◌, ◌*◌, ◌/◌, ◌%◌, ◌^◌, eqb, ltb, length, get_or, Option, None, Some}
use Prim.Native.Char.{code}
use Rattle.octets.specs.Text.{Text, ascii, blank, dot, stands, same, within, is_run, is_name}
use Rattle.csm.specs.Format.{Word, Format, plain, upto, pre, both, as_form}

-- identities and key names: 1 to 16 of A-Z, 0-9
abbrev pub name : Word Text
name = plain is_name

-- IV: 1 to 17 of A-Z, 0-9
abbrev pub iv : Word Text
iv = plain (is_run (code "Z") 1 17)

-- EDK: 12 digits
abbrev pub edk : Word Text
edk = plain (is_run 0 12 12)

-- NOS: empty contents
abbrev pub nothing : Word (Unit {0})
nothing = record { legal = λ u. true; text = λ u. []; guess = λ w. tt }

-- ---- numbers

-- the digit of d, 0 to 9 and A to F; and the value of a digit
abbrev pub digit : ℕ → ℕ
digit d = cond (ltb d 10) (code "0" + d) (code "A" - 10 + d)

abbrev pub digit_value : ℕ → ℕ
digit_value x = cond (ltb x (code "A")) (x - code "0") (x - (code "A" - 10))

-- the number whose digits are those of n and then the text's
abbrev pub numeral : ℕ → ℕ → Text → ℕ
numeral base n [] = n
numeral base n (x ∷ w) = numeral base (base * n + digit_value x) w

-- the k low hex digits of n, capitals
abbrev pub hex_text : ℕ → ℕ → Text
hex_text zero n = []
hex_text (suc k) n = hex_text k (n / 16) ++ digit (n % 16) ∷ []

-- the numbers of k hex digits
abbrev pub hex : ℕ → Word ℕ
hex k = record { legal = λ n. ltb n (16 ^ k); text = hex_text k; guess = numeral 16 0 }

-- n in decimal, of at most k + 1 digits
abbrev pub decimal : ℕ → ℕ → Text
decimal zero n = digit n ∷ []
decimal (suc k) n = cond (ltb n 10) (digit n ∷ []) (decimal k (n / 10) ++ digit (n % 10) ∷ [])

-- CTP, CTR: decimal, 1 to 99,999,999, no leading zero
abbrev pub count : Word ℕ
count = record { legal = within 1 99_999_999; text = decimal 7; guess = numeral 10 0 }

-- ---- SVR: one of twelve contents, by its place from 0 on

-- the place of w among the texts
abbrev pub index : List Text → Text → ℕ
index [] w = zero
index (t ∷ ts) w = cond (same t w) zero (suc (index ts w))

-- one of the texts, as its place
abbrev pub one_of : List Text → Word ℕ
one_of ts = record { legal = λ i. ltb i (length ts); text = λ i. get_or ts i []; guess = index ts }

-- any of KK or *KK, then KD, then IV, in that order, joined by dots
abbrev pub services : List Text
services =
    ascii "" ∷ ascii "IV" ∷ ascii "KD" ∷ ascii "KD.IV"
    ∷ ascii "KK" ∷ ascii "KK.IV" ∷ ascii "KK.KD" ∷ ascii "KK.KD.IV"
    ∷ ascii "*KK" ∷ ascii "*KK.IV" ∷ ascii "*KK.KD" ∷ ascii "*KK.KD.IV" ∷ []

-- SVR
abbrev pub svr : Word ℕ
svr = one_of services

-- ---- ERF: letters, each at most once, in alphabetical order, at least one; as a number, A the lowest bit

-- the letters in alphabetical order
abbrev pub error_letters : Text
error_letters = ascii "ABFIKMOPU"

-- the letters whose bits n has
abbrev pub letters_of : Text → ℕ → Text
letters_of [] n = []
letters_of (c ∷ cs) n = cond (eqb (n % 2) 1) (c ∷ letters_of cs (n / 2)) (letters_of cs (n / 2))

-- the bits of the letters that stand there
abbrev pub letters_guess : Text → Text → ℕ
letters_guess [] w = 0
letters_guess (c ∷ cs) [] = 0
letters_guess (c ∷ cs) (x ∷ w) = cond (eqb x c) (1 + 2 * letters_guess cs w) (2 * letters_guess cs (x ∷ w))

-- ERF
abbrev pub erf : Word ℕ
erf = record {
  legal = within 1 511;
  text = letters_of error_letters;
  guess = letters_guess error_letters;
}

-- P is among the letters
abbrev pub has_P : ℕ → Bool
has_P n = stands (code "P") (letters_of error_letters n)

-- ---- KD: the key, then up to three subfields, each after its dot: P, IDK1, IDK2;
-- an absent one before a present one leaves its dot, and no dot ends the contents

pub record Kd : Type 0 where
  pub key : ℕ
  pub p : Bool
  pub idk1 : Option Text
  pub idk2 : Option Text

-- a dot and a subfield
abbrev pub sub : Text → Text
sub w = dot ∷ w

-- the first subfield
abbrev pub mark : Bool → Text
mark true = ascii "P"
mark false = []

-- a name or nothing
abbrev pub named : Option Text → Text
named None = []
named (Some w) = w

-- what stands after the key
abbrev pub subfields : Bool → Option Text → Option Text → Text
subfields p i (Some w) = sub (mark p) ++ (sub (named i) ++ sub w)
subfields p (Some v) None = sub (mark p) ++ sub v
subfields true None None = sub (mark true)
subfields false None None = []

-- a name, if there is one
abbrev pub legal_name : Option Text → Bool
legal_name None = true
legal_name (Some w) = is_name w

-- x before the first piece
abbrev pub onto : ℕ → List Text → List Text
onto x [] = (x ∷ []) ∷ []
onto x (w ∷ ws) = (x ∷ w) ∷ ws

-- the pieces between the dots
abbrev pub split : Text → List Text
split [] = [] ∷ []
split (x ∷ w) = cond (eqb x dot) ([] ∷ split w) (onto x (split w))

-- an empty piece is no name
abbrev pub nonempty : Text → Option Text
nonempty [] = None
nonempty (x ∷ w) = Some (x ∷ w)

-- key, mark and names by their places
abbrev pub kd_guess : List Text → Kd
kd_guess ws = record {
  key = numeral 16 0 (get_or ws 0 []);
  p = same (get_or ws 1 []) (ascii "P");
  idk1 = nonempty (get_or ws 2 []);
  idk2 = nonempty (get_or ws 3 []);
}

-- a key of k hex digits and its subfields
abbrev pub keyed : ℕ → Word Kd
keyed k = record {
  legal = λ r. (hex k).legal r.key && (legal_name r.idk1 && legal_name r.idk2);
  text = λ r. (hex k).text r.key ++ subfields r.p r.idk1 r.idk2;
  guess = λ w. kd_guess (split w);
}

-- KD: 16 hex digits and the subfields
abbrev pub kd : Word Kd
kd = keyed 16

-- ---- MCL

pub data Class : Type 0 where
  RSI KSM RSM ESM DSM ERS RFS RTR : Class

-- its name
abbrev pub class_text : Class → Text
class_text RSI = ascii "RSI"
class_text KSM = ascii "KSM"
class_text RSM = ascii "RSM"
class_text ESM = ascii "ESM"
class_text DSM = ascii "DSM"
class_text ERS = ascii "ERS"
class_text RFS = ascii "RFS"
class_text RTR = ascii "RTR"

-- the class of that name
abbrev pub first_class : List Class → Text → Class
first_class [] w = RSI
first_class (c ∷ cs) w = cond (same (class_text c) w) c (first_class cs w)

-- MCL
abbrev pub mcl : Word Class
mcl = record {
  legal = λ c. true;
  text = class_text;
  guess = first_class (RSI ∷ KSM ∷ RSM ∷ ESM ∷ DSM ∷ ERS ∷ RFS ∷ RTR ∷ []);
}

-- ---- MAC, EDC: four hex digits, blank, four hex digits; the number of 32 bits

-- a number in two halves of k hex digits, a blank after each
abbrev pub join_halves : ℕ → ℕ × ℕ → ℕ
join_halves k p = p.0 * 16 ^ k + p.1

abbrev pub halves : ℕ → ℕ → ℕ × ℕ
halves k n = (n / 16 ^ k, n % 16 ^ k)

abbrev pub in_halves : ℕ → Format ℕ
in_halves k = as_form (join_halves k) (halves k) (both (upto blank (hex k)) (upto blank (hex k)))

-- of four digits
abbrev pub half_digits : ℕ
half_digits = 4

-- MAC, EDC
abbrev pub check : Format ℕ
check = in_halves half_digits

-- ---- the fields

pub data Field : Type 0 where
  MCL RCV ORG SVR NOS KD IV EDK CTP CTR ERF MAC EDC : Field

-- tag and `/`
abbrev pub tag : Field → Text
tag MCL = ascii "MCL/"
tag RCV = ascii "RCV/"
tag ORG = ascii "ORG/"
tag SVR = ascii "SVR/"
tag NOS = ascii "NOS/"
tag KD = ascii "KD/"
tag IV = ascii "IV/"
tag EDK = ascii "EDK/"
tag CTP = ascii "CTP/"
tag CTR = ascii "CTR/"
tag ERF = ascii "ERF/"
tag MAC = ascii "MAC/"
tag EDC = ascii "EDC/"

-- what is read of each field
abbrev pub Contents : Field → Type 0
Contents MCL = Class
Contents RCV = Text
Contents ORG = Text
Contents SVR = ℕ
Contents NOS = Unit {0}
Contents KD = Kd
Contents IV = Text
Contents EDK = Text
Contents CTP = ℕ
Contents CTR = ℕ
Contents ERF = ℕ
Contents MAC = ℕ
Contents EDC = ℕ

-- a field's contents and the blank after them
abbrev pub contents : (f : Field) → Format (Contents f)
contents MCL = upto blank mcl
contents RCV = upto blank name
contents ORG = upto blank name
contents SVR = upto blank svr
contents NOS = upto blank nothing
contents KD = upto blank kd
contents IV = upto blank iv
contents EDK = upto blank edk
contents CTP = upto blank count
contents CTR = upto blank count
contents ERF = upto blank erf
contents MAC = check
contents EDC = check

-- a field: tag, `/`, contents, one blank
abbrev pub field : (f : Field) → Format (Contents f)
field f = pre (tag f) (contents f)
