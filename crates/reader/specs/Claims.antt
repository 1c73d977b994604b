-- What is claimed of the spans that `read` gives: at each stands the text of its field's contents. proofs/Claims.antt
-- proves it. A field or name is shown exactly where the text has it.
use Rattle.std.specs.Prelude.{◌≡◌, Option, None, Some, option_map}
use Rattle.octets.specs.Text.{Text}
use Rattle.octets.specs.Part.{part}
use Rattle.csm.specs.Fields.{svr, kd, count, erf}
use Rattle.csm.specs.Fields as csm
use Rattle.csm.specs.Message.{Rsi, Ksm, Rsm, Esm, rsi, ksm, rsm, esm, option, Reading, read}
use Rattle.csm.specs.Covered.{covered_part}
use Rattle.fields.specs.Seen.{check_text}
use Rattle.fields.specs.declared.Numeral.{Numeral}
use Rattle.fields.specs.declared.Kd.{Kd}
use Rattle.reader.specs.Seen.{head_seen, body_place, rsi_seen, ksm_seen, rsm_seen, esm_seen, option_seen}
use Rattle.reader.specs.Seen.{covered_span}
use Rattle.reader.specs.declared.Head as head
use Rattle.reader.specs.declared.Rsi as code_rsi
use Rattle.reader.specs.declared.Ksm as code_ksm
use Rattle.reader.specs.declared.Rsm as code_rsm
use Rattle.reader.specs.declared.Esm as code_esm

-- the part of a number
abbrev pub number_part : Text → Numeral → Text
number_part t m = part t m.span

-- the parts of a KD
pub record KdParts (t : Text) (m : Kd) (k : csm.Kd) : Type 0 where
  pub contents : part t m.contents ≡ kd.text k
  pub idk1 : option_map (part t) m.idk1 ≡ k.idk1
  pub idk2 : option_map (part t) m.idk2 ≡ k.idk2

-- of a KD that may be missing
pub data MaybeKdParts (t : Text) : Option Kd → Option csm.Kd → Type 0 where
  no_kd : MaybeKdParts t None None
  a_kd : {m : Kd} {k : csm.Kd} → KdParts t m k → MaybeKdParts t (Some m) (Some k)

-- the parts of each class
pub record HeadParts (t : Text) (m : head.Head) (q : Reading) : Type 0 where
  pub rcv : part t m.rcv ≡ q.rcv
  pub org : part t m.org ≡ q.org

pub record RsiParts (t : Text) (m : code_rsi.Rsi) (r : Rsi) : Type 0 where
  pub svr : part t m.svr ≡ svr.text r.svr
  pub edc : option_map (number_part t) m.edc ≡ option_map check_text r.edc

pub record KsmParts (t : Text) (m : code_ksm.Ksm) (r : Ksm) : Type 0 where
  pub first : KdParts t m.first r.kd
  pub second : MaybeKdParts t m.second r.second
  pub iv : option_map (part t) m.iv ≡ r.iv
  pub edk : option_map (part t) m.edk ≡ r.edk
  pub ctp : number_part t m.ctp ≡ count.text r.ctp
  pub mac : number_part t m.mac ≡ check_text r.mac

pub record RsmParts (t : Text) (m : code_rsm.Rsm) (r : Rsm) : Type 0 where
  pub mac : number_part t m.mac ≡ check_text r.mac

pub record EsmParts (t : Text) (m : code_esm.Esm) (r : Esm) : Type 0 where
  pub ctp : option_map (number_part t) m.ctp ≡ option_map count.text r.ctp
  pub ctr : option_map (number_part t) m.ctr ≡ option_map count.text r.ctr
  pub erf : number_part t m.erf ≡ erf.text r.erf
  pub edc : option_map (number_part t) m.edc ≡ option_map check_text r.edc

-- of a text that is read as q
pub record Claims : Type 0 where
  pub head_parts : (t : Text) (q : Reading) → read t ≡ Some q → HeadParts t (head_seen q) q
  pub rsi_parts : (t : Text) (q : Reading) (r : Rsi) → read t ≡ Some q → q.body ≡ rsi r
      → RsiParts t (rsi_seen (head_seen q) (body_place q) r) r
  pub ksm_parts : (t : Text) (q : Reading) (r : Ksm) → read t ≡ Some q → q.body ≡ ksm r
      → KsmParts t (ksm_seen (head_seen q) (body_place q) r) r
  pub rsm_parts : (t : Text) (q : Reading) (r : Rsm) → read t ≡ Some q → q.body ≡ rsm r
      → RsmParts t (rsm_seen (head_seen q) (body_place q) r) r
  pub esm_parts : (t : Text) (q : Reading) (r : Esm) → read t ≡ Some q → q.body ≡ esm r
      → EsmParts t (esm_seen (head_seen q) (body_place q) r) r
  pub rest_part : (t : Text) (q : Reading) (c : csm.Class) (w : Text) → read t ≡ Some q → q.body ≡ option c w
      → part t (option_seen (head_seen q) (body_place q) c w).rest ≡ w
  -- what the MAC covers: from the M of `MCL/` through the blank before `MAC/`
  pub ksm_covered : (t : Text) (q : Reading) (r : Ksm) → read t ≡ Some q → q.body ≡ ksm r
      → part t (covered_span (ksm_seen (head_seen q) (body_place q) r).mac.span) ≡ covered_part q
  pub rsm_covered : (t : Text) (q : Reading) (r : Rsm) → read t ≡ Some q → q.body ≡ rsm r
      → part t (covered_span (rsm_seen (head_seen q) (body_place q) r).mac.span) ≡ covered_part q
