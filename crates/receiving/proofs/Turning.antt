-- What is made of a text is the turn of the steps; an error of it can be told by an ESM, and a service is one of twelve.
use Rattle.std.specs.Prelude.{Option, None, Some, Result, Ok, Err}
use mathlib.Core.Path.{◌≡◌, refl, sym, ap, subst, ◌∙◌}
use mathlib.Core.Bool.{Bool, true, false, cond, not}
use mathlib.Core.List.{[]}
use Prim.Native.Nat.{ℕ, ◌-◌, ◌<◌}
use native.Mathlib.Omega.{arith}
use lib.Dec.{eqb}
use borrow.Author.Tests.{lt-ltb}
use Rattle.octets.specs.Text.{Text}
use Rattle.keying.specs.Mac.{mac_key, mac}
use Rattle.csm.specs.Covered.{covered}
use Rattle.csm.specs.Message.{Reading, Body, rsi, legal_body, read}
use Rattle.fields.specs.declared.Numeral.{Numeral}
use Rattle.reader.specs.declared.Rsi as reader_rsi
use Rattle.reader.specs.declared.Ksm.{Ksm}
use Rattle.reader.specs.declared.Rsm.{Rsm}
use Rattle.reader.specs.declared.Esm.{Esm}
use Rattle.reader.specs.declared.Message.{Message}
use Rattle.reader.specs.declared.Message.TheVariants as message
use Rattle.reader.specs.Seen.{seen}
use Rattle.reader.proofs.SeenBack.{option_as, none_back, rsi_back, option_back}
use Rattle.partner.specs.declared.KeySet.{KeySet}
use Rattle.partner.specs.declared.Entry.{Entry}
use Rattle.partner.specs.Entry.{keys_in}
use Rattle.partner.specs.Changes.{with_receiving, with_sending, accepted, settled, given_up, failed}
use Rattle.partner.specs.Legal.{legal}
use Rattle.partner.proofs.Keeping.{rules}
use Rattle.calls.specs.declared.Refusal.TheVariants.{NothingWaiting}
use Rattle.calls.specs.Words.{in_case◌then◌else◌, any}
use Rattle.calls.specs.Outcome.{I, K, M, Turn, refused, done, Told, service, confirmation, failure}
use Rattle.calls.specs.Receive as steps
use Rattle.calls.specs.Receive.{kds, foreign, uneven, brought, error, esm_body, rsm_text, when, faults, bad_count}
use Rattle.calls.specs.Receive.{is_waiting, receive, receive_ksm, receive_rsm, receive_esm}
use Rattle.calls.proofs.Turns.{letters_legal}
use Rattle.outcome.specs.declared.Told.TheVariants.{Service, Keys, Confirmation, Failure}
use Rattle.outcome.specs.Report.{service_number}
use Rattle.outcome.specs.Acts.{receive_read}
use Rattle.outcome.proofs.Turns.{Tells, a_service, some_keys, a_confirmation, a_failure}
use Rattle.receiving.specs.declared.Taken.{Taken}
use Rattle.receiving.specs.declared.fault.Fault.{Fault}
use Rattle.receiving.specs.declared.fault.Fault.TheVariants.{Refused, Error}
use Rattle.receiving.specs.Texts.{number_in, ksm_in, rsm_in, esm_in, Sealed, KsmRead}
use Rattle.receiving.specs.Stages.{stage, alone, found_by, told_if, iv_in, date_in, judged}
use Rattle.receiving.specs.Stages.{broken, take_ksm, take_rsm, take_esm, take, turn_of, told_in, counts_in}
use Rattle.receiving.proofs.Faults.{letters_same, told_same, counts_same}
use Rattle.receiving.proofs.Opening.{opened_same}
use Rattle.receiving.proofs.Reading.{count_within, rsi_within, reads_ksm, reads_rsm, reads_esm}

-- what is told is the paper's, with a service one of twelve; an ESM can tell the error
abbrev pub Lawful : Result Taken Fault → Type 0
Lawful (Ok t) = Tells t.told (told_in t.told)
Lawful (Err (Refused r)) = Unit {0}
Lawful (Err (Error letters counts)) = legal_body (esm_body letters (counts_in counts)) ≡ true

-- one of the twelve is found again by its number
counted : (place : ℕ) → place < 12 → service_number place - 1 ≡ place
counted place h = rw (lt-ltb place 12 h) (omega arith)

-- it stands for that turn
pub record Right (own : Text) (e : Entry) (r : Result Taken Fault) (u : Turn) : Type 0 where
  pub same : turn_of own e r ≡ u
  pub lawful : Lawful r

module _ (own : Text) (e : Entry) (t : Text) where
  -- ---- a KSM

  module _ (m : Ksm) (entry_lawful : legal e ≡ true) (good : KsmRead m t) where
    -- what is made of the set that its keys form, by the letters that hold
    made : KeySet → ℕ → Result Taken Fault
    made set x =
        stage (stage (found_by x (told_if (bad_count e.receiving.expected m.ctp.value) e.receiving.expected m.ctp.value))
        (λ u. Ok (Keys (iv_in (keys_in set) t m) (date_in t m))))
        (λ told. Ok (record { entry = with_receiving e (accepted m.ctp.value set); told = told }))

    letters_lawful : (set : KeySet) → not (eqb (faults e set t (ksm_in m t)) 0) ≡ true
        → legal_body (esm_body (faults e set t (ksm_in m t)) (steps.counts_for e (ksm_in m t))) ≡ true
    unfolding faults ksm_in
    letters_lawful set q =
        let k = ksm_in m t in
        letters_legal (steps.bad_format set k) (steps.bad_mac set t k.mac) (bad_count e.receiving.expected k.ctp)
        e.receiving.expected k.ctp (rules e entry_lawful).expected_right (count_within m t good) q

    made_right : (set : KeySet) → Right own e (made set (faults e set t (ksm_in m t))) (steps.judged own e t (ksm_in m t) set)
    unfolding made steps.judged in_case◌then◌else◌ accepted ksm_in
    made_right set = go (eqb x 0) refl
      where
        x : ℕ
        x = faults e set t (ksm_in m t)

        go : (z : Bool) → eqb x 0 ≡ z → Right own e (made set x) (steps.judged own e t (ksm_in m t) set)
        go true p =
            rw p (record {
              same = ap (λ (o : Told). done (with_receiving e (accepted m.ctp.value set)) (rsm_text own e set) o) (told_same set t e m p);
              lawful = some_keys _ _;
            })
        go false p =
            let late = bad_count e.receiving.expected m.ctp.value in
            let counts : counts_in (told_if late e.receiving.expected m.ctp.value) ≡ steps.counts_for e (ksm_in m t) =
            counts_same late e.receiving.expected m.ctp.value in
            let l = letters_lawful set (ap not p) in
            rw p (record {
              same = ap (λ (c : Option (ℕ × ℕ)). error own e x c) counts;
              lawful = subst (λ (c : Option (ℕ × ℕ)). legal_body (esm_body x c) ≡ true) (sym counts) l;
            })

    -- I alone, K alone, then what is made of the set
    pub ksm_right : Right own e (take_ksm own e t m) (receive_ksm own e t (ksm_in m t))
    unfolding take_ksm judged receive_ksm in_case◌then◌else◌ made
    ksm_right = rw opened_same (go (any (foreign e) (kds (ksm_in m t))) (any (uneven own e (ksm_in m t)) (kds (ksm_in m t))))
      where
        set : KeySet
        set = brought own e (ksm_in m t)

        on : KeySet → Result Taken Fault
        on keys = stage (judged e keys t m) (λ told. Ok (record { entry = with_receiving e (accepted m.ctp.value keys); told = told }))

        judged_right : Right own e (on set) (steps.judged own e t (ksm_in m t) set)
        judged_right = subst (λ (x : ℕ). Right own e (made set x) (steps.judged own e t (ksm_in m t) set))
            (sym (letters_same set t e m good.sealed)) (made_right set)

        go : (a b : Bool)
            → Right own e (stage (in_case a then Err (alone I) else in_case b then Err (alone K) else Ok set) on)
            (in_case a then error own e I None else in_case b then error own e K None else
            steps.judged own e t (ksm_in m t) set)
        go true b = record { same = refl; lawful = refl }
        go false true = record { same = refl; lawful = refl }
        go false false = judged_right

  -- ---- an RSM, an ESM

  pub rsm_right : (m : Rsm) → Sealed m.mac.span t → Right own e (take_rsm e t m) (receive_rsm own e t (rsm_in m))
  unfolding take_rsm receive_rsm steps.bad_mac in_case◌then◌else◌
  rsm_right m sealed = rw sealed (go (is_waiting e.sending)
      (not (eqb (mac (mac_key (keys_in e.sending.outgoing)) (covered t)) m.mac.value)))
    where
      go : (a b : Bool)
          → Right own e (cond (not a) (Err (Refused NothingWaiting)) (cond b (Err (alone M))
          (Ok (record { entry = with_sending e (settled e.sending); told = Confirmation }))))
          (in_case not a then refused e 5 else in_case b then error own e M None else
          done (with_sending e (settled e.sending)) [] confirmation)
      go false b = record { same = refl; lawful = tt }
      go true true = record { same = refl; lawful = refl }
      go true false = record { same = refl; lawful = a_confirmation }

  pub esm_right : (m : Esm) → Right own e (take_esm e m) (receive_esm e (esm_in m))
  unfolding take_esm receive_esm in_case◌then◌else◌
  esm_right m = go (is_waiting e.sending) m.ctp
    where
      go : (a : Bool) (o : Option Numeral)
          → Right own e (cond (not a) (Err (Refused NothingWaiting)) (Ok (record { entry = broken e o; told = Failure m.erf.value })))
          (in_case not a then refused e 5 else
          done (with_sending e (elim (number_in o) [ None ↦ given_up e.sending | Some x ↦ failed e.sending x ])) [] (failure m.erf.value))
      go false o = record { same = refl; lawful = tt }
      go true None = record { same = refl; lawful = a_failure m.erf.value }
      go true (Some n) = record { same = refl; lawful = a_failure m.erf.value }

  -- ---- any text

  pub right : legal e ≡ true → Right own e (take own e t (seen (read t))) (receive_read own e t (read t))
  unfolding take receive receive_read
  right l = go (seen (read t)) refl
    where
      -- by the body that was read
      by_body : {r : Result Taken Fault} {u : Turn} (q : Reading) (b : Body) → read t ≡ Some q → q.body ≡ b → receive own e t b ≡ u
          → Right own e r u → Right own e r (receive_read own e t (read t))
      by_body q b i k h r = rw (i, k, h) r

      go : (o : Option Message) → seen (read t) ≡ o → Right own e (take own e t o) (receive_read own e t (read t))
      go None s = rw (none_back t s) (record { same = refl; lawful = tt })
      go (Some (message.Rsi m)) s =
          let b = rsi_back t m s in
          let place : b.value.svr ≡ m.service = ap (λ (n : reader_rsi.Rsi). n.service) b.seen in
          by_body b.reading (rsi b.value) b.is b.body refl (record {
            same = ap (λ (n : ℕ). done e [] (service n)) (counted m.service (rsi_within t m s) ∙ sym place);
            lawful =
                subst (λ (n : ℕ). Tells (Service (service_number m.service)) (service n))
                (sym (counted m.service (rsi_within t m s))) (a_service m.service);
          })
      go (Some (message.Ksm m)) s =
          let r = reads_ksm t m s in by_body r.reading _ r.is r.body refl (ksm_right m l r.good)
      go (Some (message.Rsm m)) s = let r = reads_rsm t m s in by_body r.reading _ r.is r.body refl (rsm_right m r.sealed)
      go (Some (message.Esm m)) s = let r = reads_esm t m s in by_body r.reading _ r.is r.body refl (esm_right m)
      go (Some (message.Option m)) s =
          let b = option_back t m s in
          by_body b.reading (option_as b.value) b.is b.body refl (record { same = refl; lawful = refl })
