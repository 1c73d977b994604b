-- What one card builds the other accepts, and its reply is taken.
use Rattle.std.specs.Prelude.{Option, None, Some}
use mathlib.Core.Path.{◌≡◌, refl, sym, ap, ◌∙◌, subst}
use mathlib.Core.Bool.{Bool, true, false, cond, not, ◌&&◌, ◌||◌}
use mathlib.Core.List.{List, ◌∷◌, []}
use Prim.Native.Nat.{ℕ, ◌^◌, ◌≤◌, ◌<◌}
use Prim.Native.Char.{code}
use lib.Dec.{eqb}
use Rattle.octets.specs.Text.{Text, same}
use Rattle.octets.specs.Part.{bare, found}
use Rattle.octets.proofs.Comparing.{same_self as same_refl}
use Rattle.keying.specs.declared.Top.{Top}
use Rattle.keying.specs.Parity.{odd}
use Rattle.keying.specs.Keys.{unseal}
use Rattle.keying.specs.Working.{working}
use Rattle.keying.specs.Mac.{mac_key, mac}
use Rattle.keying.specs.Iv.{conceal, reveal}
use Rattle.dates.specs.Date.{is_date}
use Rattle.keying.proofs.Laws.{unseal_seal, reveal_conceal, conceal_lt}
use Rattle.csm.specs.Fields.{named, hex_text}
use Rattle.csm.specs.Message.{ksm}
use Rattle.csm.specs.Covered.{covered}
use Rattle.csm.proofs.NumberLaws.{hex_number}
use Rattle.csm.proofs.WordTests.{hex_passes}
use Rattle.partner.specs.declared.Name.{Name}
use Rattle.partner.specs.declared.KeySet.{KeySet}
use Rattle.partner.specs.declared.Entry.{Entry}
use Rattle.partner.specs.Entry.{name_of, top_of, keys_in, one_key, two_keys}
use Rattle.partner.specs.Table.{Table}
use Rattle.calls.specs.declared.KeyRequest.{KeyRequest}
use Rattle.calls.specs.declared.Request.{Request}
use Rattle.calls.specs.Words.{in_case◌then◌else◌, any, some_has}
use Rattle.calls.specs.Receive.{foreign, deciphered, uneven, kds, brought_key, brought, iv_value, iv_of}
use Rattle.calls.specs.Receive.{bad_format}
use Rattle.calls.specs.Build.{used, not_odd, wants_p, wants_idk1, wants_idk2, wants_nos, outgoing_key, outgoing_of}
use Rattle.calls.specs.Build.{working_for, asked, kd_for, iv_for, ksm_text}
use Rattle.calls.specs.Calls.{receive, After, run}
use Rattle.calls.specs.Claims.{Carries, Sized}
use Rattle.calls.specs.Steps.{Partners, iv_asked, after_taken}
use Rattle.calls.proofs.Tests.{by_test}
use Rattle.calls.proofs.Requests.{Keyed, one, two, Formed, formed, not_two}
use Rattle.calls.proofs.Tables.{own_name, entry_held, held_legal}
use Rattle.calls.proofs.Written.{sent, sent_written, sent_sealed}
use Rattle.calls.proofs.Accepting.{Passes, TakenIn, Fit, ksm_accepted, request_built}

-- ---- keys and names arrive

name_back : (b : Bool) (w : Text) → named (asked b w) ≡ cond b w []
name_back true w = refl
name_back false w = refl

-- its KDs
one_sent : (us : Text) (e : Entry) (q : Request) → eqb q.count 2 ≡ false
    → kds (sent us e q) ≡ kd_for us e q q.first ∷ []
unfolding sent
one_sent us e q h = rw h

two_sent : (us : Text) (e : Entry) (q : Request) → eqb q.count 2 ≡ true
    → kds (sent us e q) ≡ kd_for us e q q.first ∷ kd_for us e q q.second ∷ []
unfolding sent
two_sent us e q h = rw h

-- our entry for them and their entry for us, under one top key
pub record Met (us them : Text) (e f : Entry) : Type 0 where
  pub theirs : bare e.identity.bytes ≡ them
  pub ours : bare f.identity.bytes ≡ us
  pub same_top : top_of e.top ≡ top_of f.top

module _ (us them : Text) (e f : Entry) (q : Request) (met : Met us them e f) where
  -- plain or notarized, they have our working key
  same_key : working (wants_nos q) (bare f.identity.bytes) them (top_of f.top) e.sending.next
      ≡ working_for us e q
  same_key = λ j. working (wants_nos q) (met.ours j) (sym met.theirs j) (sym met.same_top j) e.sending.next

  key_back : (k : KeyRequest) → k.key < 2 ^ 64 → deciphered them f (sent us e q) (kd_for us e q k) ≡ k.key
  unfolding sent
  key_back k h =
      ap (λ (t : Top). unseal t (kd_for us e q k).key) same_key
      ∙ unseal_seal (working_for us e q) k.key h

  data_key_back : (k : KeyRequest) → k.key < 2 ^ 64
      → brought_key them f (sent us e q) (kd_for us e q k) ≡ outgoing_key k
  data_key_back k h = λ j. record {
    key = key_back k h j;
    name = name_of (name_back (wants_idk1 k) (bare k.name.bytes) j);
  }

  pub keys_back : q.first.key < 2 ^ 64 → q.second.key < 2 ^ 64 → brought them f (sent us e q) ≡ outgoing_of q
  unfolding brought outgoing_of in_case◌then◌else◌ sent
  keys_back x y =
      let a = data_key_back q.first x in
      let b = data_key_back q.second y in
      by_test (eqb q.count 2) (λ p. rw p (λ j. two_keys (a j) (b j))) (λ p. rw p (λ j. one_key (a j)))

  -- ---- no foreign name, no uneven key

  foreign_back : (k : KeyRequest) → e.top.name ≡ f.top.name → foreign f (kd_for us e q k) ≡ false
  unfolding foreign
  foreign_back k n =
      let s = ap not (same_refl (bare f.top.name.bytes)) in
      by_test (wants_idk2 k)
      (λ p. rw p (ap (λ (x : Name). not (same (bare x.bytes) (bare f.top.name.bytes))) n ∙ s)) (λ p. rw p s)

  pub no_foreign : Keyed q → e.top.name ≡ f.top.name → any (foreign f) (kds (sent us e q)) ≡ false
  unfolding any
  no_foreign (one p b) n =
      ap (any (foreign f)) (one_sent us e q (not_two q p)) ∙ rw (foreign_back q.first n)
  no_foreign (two p r b c) n =
      ap (any (foreign f)) (two_sent us e q r) ∙ rw (foreign_back q.first n, foreign_back q.second n)

  uneven_back : (k : KeyRequest) → k.key < 2 ^ 64 → uneven them f (sent us e q) (kd_for us e q k) ≡ not_odd k
  unfolding uneven not_odd
  uneven_back k h = ap (λ (x : ℕ). wants_p k && not (odd x)) (key_back k h)

  pub no_uneven : Keyed q → Sized q → any not_odd (used q) ≡ false
      → any (uneven them f (sent us e q)) (kds (sent us e q)) ≡ false
  unfolding any used in_case◌then◌else◌
  no_uneven (one p b) s h =
      ap (any (uneven them f (sent us e q))) (one_sent us e q (not_two q p))
      ∙ rw (uneven_back q.first s.first) (rw p at h)
  no_uneven (two p r b c) s h =
      ap (any (uneven them f (sent us e q))) (two_sent us e q r)
      ∙ rw (uneven_back q.first s.first, uneven_back q.second s.second) (rw (p, r) at h)

-- ---- the IV and the date arrive

plain_back : (ks : List ℕ) (n : ℕ) → n < 2 ^ 64 → iv_value ks (code "P" ∷ hex_text 16 n) ≡ Some n
unfolding iv_value in_case◌then◌else◌
plain_back ks n h = rw (hex_passes 16 n) (ap {B = Option ℕ} Some (hex_number 16 n h))

secret_back : (ks : List ℕ) (n : ℕ) → n < 2 ^ 64 → iv_value ks (code "E" ∷ hex_text 16 (conceal ks n)) ≡ Some n
unfolding iv_value in_case◌then◌else◌
secret_back ks n h =
    rw (hex_passes 16 (conceal ks n))
    (ap (λ (x : ℕ). Some (reveal ks x)) (hex_number 16 (conceal ks n) (conceal_lt ks n))
    ∙ ap {B = Option ℕ} Some (reveal_conceal ks n h))

-- what an IV is read as, if there is one
abbrev iv_read : List ℕ → Option Text → Option ℕ
iv_read ks o = elim o [ None ↦ None | Some w ↦ iv_value ks w ]

record IvBack (ks : List ℕ) (o : Option Text) (n : Option ℕ) : Type 0 where
  value : iv_read ks o ≡ n
  format : some_has (λ w. not (found (iv_value ks w))) o ≡ false

iv_some : (ks : List ℕ) (w : Text) (n : ℕ) → iv_value ks w ≡ Some n → IvBack ks (Some w) (Some n)
unfolding some_has
iv_some ks w n h = record { value = h; format = ap (λ (o : Option ℕ). not (found o)) h }

iv_none : (ks : List ℕ) → IvBack ks None None
unfolding some_has
iv_none ks = record { value = refl; format = refl }

iv_back : (q : Request) → q.iv < 2 ^ 64 → IvBack (keys_in (outgoing_of q)) (iv_for q) (iv_asked q)
unfolding iv_for in_case◌then◌else◌
iv_back q h = go (eqb q.kind 1) (eqb q.kind 2)
  where
    go : (a b : Bool) → IvBack (keys_in (outgoing_of q))
        (in_case a then Some (code "P" ∷ hex_text 16 q.iv) else
        in_case b then Some (code "E" ∷ hex_text 16 (conceal (keys_in (outgoing_of q)) q.iv)) else None)
        (asked (a || b) q.iv)
    go true b = iv_some (keys_in (outgoing_of q)) _ q.iv (plain_back (keys_in (outgoing_of q)) q.iv h)
    go false true = iv_some (keys_in (outgoing_of q)) _ q.iv (secret_back (keys_in (outgoing_of q)) q.iv h)
    go false false = iv_none (keys_in (outgoing_of q))

date_back : (q : Request) → Formed q
    → some_has (λ w. not (is_date w)) (asked (eqb q.dated 1) q.date.digits) ≡ false
unfolding some_has
date_back q f = by_test (eqb q.dated 1) (λ p. rw p (rw p at f.date)) (λ p. rw p)

format_back : (us : Text) (e : Entry) (q : Request) → Formed q → Sized q
    → bad_format (outgoing_of q) (sent us e q) ≡ false
unfolding bad_format sent
format_back us e q f s = rw ((iv_back q s.iv).format, date_back q f)

pub iv_arrives : (us : Text) (e : Entry) (q : Request) → Sized q → iv_of (outgoing_of q) (sent us e q) ≡ iv_asked q
unfolding sent
iv_arrives us e q s = (iv_back q s.iv).value

-- ---- what was built is good

module _ (us them : Text) (e f : Entry) (q : Request) (good : Fit e q) (sized : Sized q) where
  pub sent_good : (text : Text) → Met us them e f → e.top.name ≡ f.top.name → f.receiving.expected ≤ e.sending.next
      → (sent us e q).mac ≡ mac (mac_key (keys_in (outgoing_of q))) (covered text) → Passes them f text (sent us e q)
  unfolding sent
  sent_good text t n x s =
      let d = formed q good.formed in
      let k = keys_back us them e f q t sized.first sized.second in
      record {
        names = no_foreign us them e f q t d.keys n;
        parity = no_uneven us them e f q t d.keys sized good.parity;
        format = ap (λ (set : KeySet). bad_format set (sent us e q)) k ∙ format_back us e q d sized;
        sealed = s ∙ ap (λ (set : KeySet). mac (mac_key (keys_in set)) (covered text)) (sym k);
        fresh = x;
        not_last = good.not_last;
      }

-- ---- the exchange

-- partners know each other
pub met : (t u : Table) (e f : Entry) → Partners t u e f → Met (bare t.own) (bare u.own) e f
met t u e f p = record {
  theirs = (entry_held t (bare u.own) e p.our_entry).bare_identity;
  ours = (entry_held u (bare t.own) f p.their_entry).bare_identity;
  same_top = p.same_top;
}

module _ (t u : Table) (e f : Entry) (q : Request) (room : ℕ) (p : Partners t u e f) (good : Fit e q)
    (sized : Sized q) (roomy : 256 ≤ room) where
  pub accepts : TakenIn (bare u.own) (bare t.own) f (sent (bare t.own) e q) (after_taken t u q room)
  accepts =
      let us = bare t.own in
      let them = bare u.own in
      let h = entry_held t them e p.our_entry in
      let n = own_name t p.ours in
      let l = held_legal t them e p.ours h in
      let d = formed q good.formed in
      let b = request_built t room them q e p.ours roomy p.our_entry good in
      let c = subst (λ (x : Text). Carries us x (ksm (sent us e q)) (ksm_text us e q)) h.bare_identity
      (sent_written us e n l q d) in
      let g = sent_good us them e f q good sized (ksm_text us e q) (met t u e f p) p.same_name p.in_step
      (sent_sealed us e n l q d) in
      subst (λ (a : After). TakenIn them us f (sent us e q) (run u (receive room a.outcome.reply))) (sym b)
      (ksm_accepted u room (ksm_text us e q) us (sent us e q) f p.theirs roomy c p.their_entry g)
