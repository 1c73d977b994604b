-- The parts of a message as its writer takes them stand for the message that the steps name.
use Rattle.std.specs.Prelude.{None, Some, option_map, unwrap_or}
use mathlib.Core.Path.{◌≡◌, refl, sym, ap, ◌∙◌}
use mathlib.Core.Bool.{◌&&◌, Bool, true, false, true≢false}
use mathlib.Core.List.{[], ◌∷◌}
use Prim.Native.Nat.{ℕ, ◌≤◌, ◌<◌}
use native.Mathlib.Omega.{arith}
use lib.Dec.{eqb}
use Rattle.std.proofs.lemmas.Bool.Decides.{nat_tests}
use Rattle.building.proofs.Chosen.{in_cases}
use lib.ListN.{length}
use borrow.Author.Tests.{ltb-true, le-leb, lt-ltb}
use Rattle.octets.specs.Text.{Text, same, is_name}
use Rattle.octets.specs.Part.{bare}
use Rattle.octets.proofs.Comparing.{both as and_true}
use Rattle.keying.specs.Mac.{mac_key, mac}
use Rattle.csm.specs.Format.{value}
use Rattle.csm.specs.Fields.{nonempty, legal_name, svr}
use Rattle.csm.proofs.TextLaws.{some_inj, cond_some}
use Rattle.csm.specs.Message.{Reading, ksm, rsi, legal, legal_body, print}
use Rattle.csm.specs.Covered.{covered_part}
use Rattle.csm.proofs.MessageLaws.{read_back}
use Rattle.partner.specs.declared.Name.{Name}
use Rattle.partner.specs.declared.Entry.{Entry}
use Rattle.partner.specs.Entry.{keys_in}
use Rattle.partner.specs.Legal as partner
use Rattle.partner.proofs.Naming.{filled_name}
use Rattle.partner.proofs.Keeping.{rules}
use Rattle.writer.specs.Contents.{kd_of, iv_of}
use Rattle.messages.specs.Readings.{unsealed_ksm, ksm_reading, rsi_reading}
use Rattle.messages.specs.Answers.{writes, answer, buffer}
use Rattle.calls.specs.declared.KeyRequest.{KeyRequest}
use Rattle.calls.specs.declared.Request.{Request}
use Rattle.calls.specs.Receive.{to_partner}
use Rattle.calls.specs.Build.{malformed, bad_key, wants_idk1, wants_idk2, wants_nos, asked, kd_for, iv_for, outgoing_of, ksm_body, ksm_text}
use Rattle.calls.proofs.Requests.{Formed, Keyed, formed, one, two, not_two, idk1_legal}
use Rattle.calls.proofs.Written.{sent, sent_written, to_them}
use Rattle.outcome.specs.Acts.{sound}
use Rattle.building.specs.Parts.{name_written, key_for}
use Rattle.building.specs.Parts.{vector_for, ksm_for, rsi_text, fronted}

-- ---- what a writer leaves of a legal reading where there is room

pub wrote : (r : Reading) (l : Text) → 256 ≤ length l → legal r ≡ true
    → (unwrap_or (answer r l) 0 ≡ length (print r)) × (buffer r l ≡ fronted (print r) l)
unfolding answer buffer writes fronted
wrote r l h k = (rw (le-leb 256 (length l) h, k), rw (le-leb 256 (length l) h, k))

-- ---- names that are asked for

-- it is what is asked for, since a name is not empty
name_is : (b : Bool) (n : Name) → (b ≡ true → is_name (bare n.bytes) ≡ true)
    → nonempty (bare (name_written b n)) ≡ asked b (bare n.bytes)
name_is false n f = refl
name_is true n f = named (bare n.bytes) (f refl)
  where
    named : (w : Text) → is_name w ≡ true → nonempty w ≡ Some w
    named [] h = absurd (true≢false (sym h))
    named (x ∷ w) h = refl

-- ---- the IV

iv_is : (q : Request) → option_map iv_of (vector_for q) ≡ iv_for q
unfolding iv_for
iv_is q = grind (arith, nat_tests, in_cases)

-- ---- the KSM of a request

-- the reading that its writer is given
abbrev unsealed_for : Text → Entry → Request → ℕ → Reading
unsealed_for own e q = unsealed_ksm (bare e.identity.bytes) own (ksm_for own e q)

abbrev pub reading_for : Text → Entry → Request → Reading
reading_for own e q = ksm_reading (bare e.identity.bytes) own (ksm_for own e q) (mac_key (keys_in (outgoing_of q)))

module _ (own : Text) (e : Entry) (q : Request) (lawful : partner.legal e ≡ true) (f : Formed q) where
  kd_is : (k : KeyRequest) → bad_key k ≡ false → kd_of (key_for own e q k) ≡ kd_for own e q k
  kd_is k h = λ j. record {
    key = (kd_for own e q k).key;
    p = (kd_for own e q k).p;
    idk1 = name_is (wants_idk1 k) k.name
        (λ p. sym (ap (λ (b : Bool). legal_name (asked b (bare k.name.bytes))) p) ∙ idk1_legal k h) j;
    idk2 = name_is (wants_idk2 k) e.top.name (λ _. filled_name e.top.name.bytes (rules e lawful).name_filled) j;
  }

  first_is : Keyed q → kd_of (key_for own e q q.first) ≡ kd_for own e q q.first
  first_is k = grind (arith, kd_is)

  second_is : Keyed q → option_map kd_of (asked (eqb q.count 2) (key_for own e q q.second))
      ≡ asked (eqb q.count 2) (kd_for own e q q.second)
  second_is (one p h) = rw (not_two q p)
  second_is (two p r h i) = rw r (ap Some (kd_is q.second i))

  unsealed_is : (m : ℕ) → unsealed_for own e q m ≡ to_partner own e (ksm_body own e q m)
  unfolding ksm_body
  unsealed_is m = λ j. to_partner own e (ksm (record {
    nos = wants_nos q;
    kd = first_is f.keys j;
    second = second_is f.keys j;
    iv = iv_is q j;
    edk = asked (eqb q.dated 1) q.date.digits;
    ctp = e.sending.next;
    mac = m;
  }))

  -- it is the message that the steps name
  reading_is : reading_for own e q ≡ to_partner own e (ksm (sent own e q))
  unfolding ksm_reading sent ksm_body
  reading_is =
      let k = mac_key (keys_in (outgoing_of q)) in
      unsealed_is (mac k (covered_part (unsealed_for own e q 0)))
      ∙ ap (λ (r : Reading). to_partner own e (ksm_body own e q (mac k (covered_part r)))) (unsealed_is 0)

  -- it is legal, and its text is that of the steps
  pub reading_good : is_name own ≡ true
      → (legal (reading_for own e q) ≡ true) × (ksm_text own e q ≡ print (reading_for own e q))
  reading_good named =
      let r = to_partner own e (ksm (sent own e q)) in
      let h = read_back (ksm_text own e q) r (sent_written own e named lawful q f) in
      (ap legal reading_is ∙ h.0, h.1 ∙ ap print (sym reading_is))

-- a good request is written whole
pub ksm_wrote : (own : Text) (e : Entry) (q : Request) (l : Text) → sound own e ≡ true → 256 ≤ length l
    → malformed q ≡ false
    → (unwrap_or (answer (reading_for own e q) l) 0 ≡ length (ksm_text own e q))
    × (buffer (reading_for own e q) l ≡ fronted (ksm_text own e q) l)
unfolding sound
ksm_wrote own e q l lawful roomy f =
    let s = and_true (is_name own) (partner.legal e) lawful in
    let h = reading_good own e q s.1 (formed q f) s.0 in
    let w = wrote (reading_for own e q) l roomy h.0 in
    (w.0 ∙ ap length (sym h.1), w.1 ∙ ap (λ (w : Text). fronted w l) (sym h.1))

-- ---- an RSI

pub rsi_wrote : (own : Text) (e : Entry) (s : ℕ) (l : Text) → sound own e ≡ true → 256 ≤ length l → s < 12
    → (unwrap_or (answer (rsi_reading (bare e.identity.bytes) own s) l) 0 ≡ length (rsi_text own e s))
    × (buffer (rsi_reading (bare e.identity.bytes) own s) l ≡ fronted (rsi_text own e s) l)
unfolding sound rsi_text rsi_reading
rsi_wrote own e s l lawful roomy k =
    let a = and_true (is_name own) (partner.legal e) lawful in
    let b = rsi (record { svr = s; edc = None }) in
    let r = to_partner own e b in
    let c : legal_body b ≡ true = rw (lt-ltb s 12 k) in
    let h = read_back (print r) r (to_them own e a.0 a.1 b refl c) in
    wrote r l roomy h.0

-- a service is one of the twelve
pub service_known : (w : Text) (s : ℕ) → value svr w ≡ Some s → s < 12
service_known w s h =
    let g = svr.guess w in
    let k = cond_some (svr.legal g && same (svr.text g) w) (Some g) s h in
    let i : g ≡ s = some_inj k.1 in
    let l = and_true (svr.legal g) (same (svr.text g) w) k.0 in
    ltb-true s 12 (rw i at l.0)
