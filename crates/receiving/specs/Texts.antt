-- The message that a text is read as, from what the code has of it: numbers, and parts of the text by their spans.
use Rattle.std.specs.Prelude.{◌≡◌, true, ℕ, Option, option_map}
use Rattle.octets.specs.Text.{Text}
use Rattle.octets.specs.Part.{part}
use Rattle.octets.specs.declared.Span.{Span}
use Rattle.csm.specs.Fields.{Kd}
use Rattle.csm.specs.Message.{Ksm, Rsm, Esm, ksm, legal_body}
use Rattle.csm.specs.Covered.{covered}
use Rattle.fields.specs.declared.Kd as fields
use Rattle.fields.specs.declared.Numeral.{Numeral}
use Rattle.reader.specs.declared.Ksm as reader_ksm
use Rattle.reader.specs.declared.Rsm as reader_rsm
use Rattle.reader.specs.declared.Esm as reader_esm
use Rattle.reader.specs.Seen.{covered_span}

-- a number that may be missing
abbrev pub number_in : Option Numeral → Option ℕ
number_in o = option_map (λ (n : Numeral). n.value) o

-- a KD and its names
abbrev pub kd_in : Text → fields.Kd → Kd
kd_in t k = record { key = k.key; p = k.p; idk1 = option_map (part t) k.idk1; idk2 = option_map (part t) k.idk2 }

-- a KSM
unfoldable pub ksm_in : reader_ksm.Ksm → Text → Ksm
ksm_in m t = record {
  nos = m.nos;
  kd = kd_in t m.first;
  second = option_map (kd_in t) m.second;
  iv = option_map (part t) m.iv;
  edk = option_map (part t) m.edk;
  ctp = m.ctp.value;
  mac = m.mac.value;
}

-- an RSM
abbrev pub rsm_in : reader_rsm.Rsm → Rsm
rsm_in m = record { mac = m.mac.value }

-- an ESM
abbrev pub esm_in : reader_esm.Esm → Esm
esm_in m = record { ctp = number_in m.ctp; ctr = number_in m.ctr; erf = m.erf.value; edc = number_in m.edc }

-- what stands before a MAC at that span is the part that it covers
abbrev pub Sealed : Span → Text → Type 0
Sealed p t = part t (covered_span p) ≡ covered t

-- a KSM that was read
pub record KsmRead (m : reader_ksm.Ksm) (t : Text) : Type 0 where
  pub lawful : legal_body (ksm (ksm_in m t)) ≡ true
  pub sealed : Sealed m.mac.span t
