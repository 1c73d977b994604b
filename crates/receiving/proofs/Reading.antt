-- What the code has of a text that was read gives the text's reading back.
use Rattle.std.specs.Prelude.{Option, None, Some, option_map, IfSome}
use mathlib.Core.Path.{◌≡◌, refl, sym, ap, subst, ◌∙◌}
use mathlib.Core.Bool.{Bool, true, false}
use Prim.Native.Nat.{ℕ, ◌^◌, ◌<◌}
use native.Mathlib.Omega.{arith}
use borrow.Author.Tests.{ltb-true}
use Rattle.octets.specs.Text.{Text, within}
use Rattle.octets.specs.Part.{found}
use Rattle.octets.proofs.Comparing.{both}
use Rattle.csm.specs.Format.{maybe_legal}
use Rattle.csm.specs.Fields.{Kd, svr, field, NOS, KD, CTP, CTR, ERF, EDC}
use Rattle.csm.specs.Message.{Reading, Ksm, flagged, rsi, ksm, rsm, esm, legal_body, read}
use Rattle.csm.specs.Covered.{mac_of}
use Rattle.csm.proofs.TextLaws.{within_true}
use Rattle.csm.proofs.MessageLaws.{read_back, legal_parts}
use Rattle.csm.proofs.CoveredLaws.{covered_agrees}
use Rattle.fields.specs.declared.Kd as fields
use Rattle.fields.specs.declared.Numeral.{Numeral}
use Rattle.reader.specs.declared.Rsi as reader_rsi
use Rattle.reader.specs.declared.Ksm as reader_ksm
use Rattle.reader.specs.declared.Rsm as reader_rsm
use Rattle.reader.specs.declared.Esm as reader_esm
use Rattle.reader.specs.declared.Message.TheVariants as message
use Rattle.reader.specs.Seen.{seen, shown_at, next_at, body_place}
use Rattle.reader.proofs.Claims.{claims}
use Rattle.reader.specs.Claims.{KdParts, MaybeKdParts, KsmParts, a_kd}
use Rattle.reader.proofs.SeenBack.{ReadAs, rsi_of, ksm_of, rsm_of, esm_of, rsi_back, ksm_back, rsm_back, esm_back}
use Rattle.partner.specs.Entry.{limit}
use Rattle.calls.proofs.Readings as legally
use Rattle.receiving.specs.Texts.{number_in, kd_in, ksm_in, rsm_in, esm_in, Sealed, KsmRead}

-- what is read is legal
pub read_legal : (t : Text) (q : Reading) → read t ≡ Some q → legal_body q.body ≡ true
read_legal t q e = (legal_parts q (read_back t q e).0).body

-- ---- an RSI: its service is one of twelve

pub rsi_within : (t : Text) (m : reader_rsi.Rsi) → seen (read t) ≡ Some (message.Rsi m) → m.service < 12
rsi_within t m e = go (rsi_back t m e)
  where
    go : ReadAs rsi rsi_of t m → m.service < 12
    go b =
        let l = ap legal_body (sym b.body) ∙ read_legal t b.reading b.is in
        let p = ap (λ (n : reader_rsi.Rsi). n.service) b.seen in
        subst (λ (n : ℕ). n < 12) p (ltb-true b.value.svr 12 (both (svr.legal b.value.svr) _ l).0)

-- ---- a KSM

-- of NOS whether it is there
nos_same : (at : ℕ) (b : Bool) → found (option_map (shown_at NOS at) (flagged b)) ≡ b
nos_same at true = refl
nos_same at false = refl

-- a KD from its parts
kd_same : (t : Text) (m : fields.Kd) (k : Kd) → m.key ≡ k.key → m.p ≡ k.p → KdParts t m k → kd_in t m ≡ k
kd_same t m k e f r = λ x. record { key = e x; p = f x; idk1 = r.idk1 x; idk2 = r.idk2 x }

second_same : (t : Text) (at : ℕ) (o : Option Kd) → MaybeKdParts t (option_map (shown_at KD at) o) o
    → option_map (kd_in t) (option_map (shown_at KD at) o) ≡ o
second_same t at None r = refl
second_same t at (Some k) (a_kd r) = ap Some (kd_same t _ k refl refl r)

-- a KSM from its parts
ksm_same : (t : Text) (q : Reading) (k : Ksm) → KsmParts t (ksm_of q k) k → ksm_in (ksm_of q k) t ≡ k
unfolding ksm_in
ksm_same t q k p = λ x. record {
  nos = nos_same (body_place q) k.nos x;
  kd = kd_same t _ k.kd refl refl p.first x;
  second = second_same t _ k.second p.second x;
  iv = p.iv x;
  edk = p.edk x;
  ctp = k.ctp;
  mac = k.mac;
}

pub record ReadsKsm (t : Text) (m : reader_ksm.Ksm) : Type 0 where
  pub reading : Reading
  pub is : read t ≡ Some reading
  pub body : reading.body ≡ ksm (ksm_in m t)
  pub good : KsmRead m t

-- a text that is read as a KSM
pub reads_ksm : (t : Text) (m : reader_ksm.Ksm) → seen (read t) ≡ Some (message.Ksm m) → ReadsKsm t m
reads_ksm t m e = go (ksm_back t m e)
  where
    go : ReadAs ksm ksm_of t m → ReadsKsm t m
    go b =
        let q = b.reading in
        let k = b.value in
        let i : ksm_in m t ≡ k = ap (λ (n : reader_ksm.Ksm). ksm_in n t) (sym b.seen)
        ∙ ksm_same t q k (claims.ksm_parts t q k b.is b.body) in
        record {
          reading = q;
          is = b.is;
          body = b.body ∙ ap ksm (sym i);
          good = record {
            lawful = ap (λ (n : Ksm). legal_body (ksm n)) i ∙ ap legal_body (sym b.body) ∙ read_legal t q b.is;
            sealed = subst (λ (n : reader_ksm.Ksm). Sealed n.mac.span t) b.seen
                (claims.ksm_covered t q k b.is b.body
                ∙ sym (covered_agrees t q k.mac b.is (ap mac_of b.body)));
          };
        }

-- its count is one
pub count_within : (m : reader_ksm.Ksm) (t : Text) → KsmRead m t → within 1 limit m.ctp.value ≡ true
unfolding ksm_in
count_within m t good = (legally.ksm_parts (ksm_in m t) good.lawful).count

-- ---- an RSM

pub record ReadsRsm (t : Text) (m : reader_rsm.Rsm) : Type 0 where
  pub reading : Reading
  pub is : read t ≡ Some reading
  pub body : reading.body ≡ rsm (rsm_in m)
  pub sealed : Sealed m.mac.span t

-- a text that is read as an RSM
pub reads_rsm : (t : Text) (m : reader_rsm.Rsm) → seen (read t) ≡ Some (message.Rsm m) → ReadsRsm t m
reads_rsm t m e = go (rsm_back t m e)
  where
    go : ReadAs rsm rsm_of t m → ReadsRsm t m
    go b = record {
      reading = b.reading;
      is = b.is;
      body = b.body ∙ ap (λ (n : reader_rsm.Rsm). rsm (rsm_in n)) b.seen;
      sealed = subst (λ (n : reader_rsm.Rsm). Sealed n.mac.span t) b.seen
          (claims.rsm_covered t b.reading b.value b.is b.body
          ∙ sym (covered_agrees t b.reading b.value.mac b.is (ap mac_of b.body)));
    }

-- ---- an ESM

pub record ReadsEsm (t : Text) (m : reader_esm.Esm) : Type 0 where
  pub reading : Reading
  pub is : read t ≡ Some reading
  pub body : reading.body ≡ esm (esm_in m)
  pub fits : IfSome m.ctp (λ (n : Numeral). n.value < 2 ^ 32)

-- a number that may be missing, back
number_same : (shows : ℕ → Numeral) → ((n : ℕ) → (shows n).value ≡ n) → (o : Option ℕ)
    → number_in (option_map shows o) ≡ o
number_same shows h None = refl
number_same shows h (Some n) = ap Some (h n)

-- a CTP fits 32 bits
count_fits : (at : ℕ) (o : Option ℕ) → maybe_legal (field CTP) o ≡ true
    → IfSome (option_map (shown_at CTP at) o) (λ (n : Numeral). n.value < 2 ^ 32)
count_fits at None h = tt
count_fits at (Some n) h = let w = within_true 1 limit n h in omega arith

-- a text that is read as an ESM
pub reads_esm : (t : Text) (m : reader_esm.Esm) → seen (read t) ≡ Some (message.Esm m) → ReadsEsm t m
reads_esm t m e = go (esm_back t m e)
  where
    go : ReadAs esm esm_of t m → ReadsEsm t m
    go b =
        let k = b.value in
        let l : legal_body (esm k) ≡ true = ap legal_body (sym b.body) ∙ read_legal t b.reading b.is in
        let at = body_place b.reading in
        let ctr = next_at CTP at k.ctp in
        let edc = next_at ERF (next_at CTR ctr k.ctr) (Some k.erf) in
        let same : esm_in (esm_of b.reading k) ≡ k = λ i. record {
          ctp = number_same (shown_at CTP at) (λ n. refl) k.ctp i;
          ctr = number_same (shown_at CTR ctr) (λ n. refl) k.ctr i;
          erf = k.erf;
          edc = number_same (shown_at EDC edc) (λ n. refl) k.edc i;
        } in
        record {
          reading = b.reading;
          is = b.is;
          body = b.body ∙ ap esm (sym same ∙ ap esm_in b.seen);
          fits = subst (λ (n : reader_esm.Esm). IfSome n.ctp (λ (c : Numeral). c.value < 2 ^ 32)) b.seen
              (count_fits _ k.ctp (legally.esm_count k l));
        }

-- ---- what `take` passes on

pub ksm_fits : (t : Text) (m : reader_ksm.Ksm) → seen (read t) ≡ Some (message.Ksm m) → m.ctp.value < 2 ^ 32
ksm_fits t m e = let w = within_true 1 limit m.ctp.value (count_within m t (reads_ksm t m e).good) in omega (arith, w.1)

pub esm_fits : (t : Text) (m : reader_esm.Esm) → seen (read t) ≡ Some (message.Esm m)
    → IfSome m.ctp (λ (n : Numeral). n.value < 2 ^ 32)
esm_fits t m e = (reads_esm t m e).fits
