-- A request that is not malformed: the message built of it is legal, and its keys make a good set.
use Rattle.std.specs.Prelude.{Option, None, Some}
use mathlib.Core.Path.{◌≡◌, refl}
use mathlib.Core.Bool.{Bool, true, false, not, ◌&&◌, ◌||◌, true≢false}
use mathlib.Core.List.{[]}
use Prim.Native.Nat.{ℕ, ◌<◌, ◌^◌}
use Prim.Native.Char.{code}
use lib.Dec.{eqb, ltb}
use borrow.Author.Tests.{eqb-true, not-false}
use Rattle.octets.specs.Text.{Text, same, is_run}
use Rattle.octets.specs.Part.{bare}
use Rattle.octets.proofs.Comparing.{both as and_true, same_self as same_refl}
use Rattle.keying.specs.Iv.{conceal}
use Rattle.dates.specs.Date.{is_date, is_day, is_time, two as pair_of}
use Rattle.keying.proofs.Laws.{seal_lt}
use Rattle.csm.specs.Format.{maybe_legal}
use Rattle.csm.specs.Fields.{KD, IV, EDK, field, kd, named, legal_name}
use Rattle.csm.proofs.TextLaws.{or_right}
use Rattle.csm.specs.Message.{legal_body}
use Rattle.csm.proofs.MessageLaws.{flagged_legal}
use Rattle.partner.specs.declared.Entry.{Entry}
use Rattle.partner.specs.Entry.{blanks, filled, name_of, keys_in}
use Rattle.partner.specs.Legal.{is_filled, is_named, keys_formed, legal}
use Rattle.partner.proofs.Naming.{filled_name}
use Rattle.partner.proofs.Keeping.{rules}
use Rattle.partner.proofs.Claims.{claims}
use Rattle.calls.specs.declared.KeyRequest.{KeyRequest}
use Rattle.calls.specs.declared.Request.{Request}
use Rattle.calls.specs.Words.{in_case◌then◌else◌}
use Rattle.calls.specs.Build.{used, bad_key, bad_keys, malformed, wants_idk1, wants_idk2, wants_nos}
use Rattle.calls.specs.Build.{outgoing_key, outgoing_of, asked, kd_for, iv_for, ksm_body}
use Rattle.calls.proofs.Tests.{or_split, by_case, by_test}
use Rattle.calls.proofs.Readings.{mac_legal, iv_legal, kd_legal}

-- ---- one key or two

pub data Keyed (q : Request) : Type 0 where
  one : eqb q.count 1 ≡ true → bad_key q.first ≡ false → Keyed q
  two : eqb q.count 1 ≡ false → eqb q.count 2 ≡ true → bad_key q.first ≡ false → bad_key q.second ≡ false
      → Keyed q

pub keyed : (q : Request) → bad_keys (used q) ≡ false → Keyed q
unfolding used bad_keys in_case◌then◌else◌
keyed q h =
    by_test (eqb q.count 1) (λ p. one p (rw p at h)) λ p.
    by_test (eqb q.count 2)
    (λ r.
    let e = eqb q.first.key q.second.key in
    let i = or_split (e || bad_key q.first) (bad_key q.second) (rw (p, r) at h) in
    two p r (or_split e (bad_key q.first) i.0).1 i.1)
    (λ r. absurd (true≢false (rw (p, r) at h)))

pub not_two : (q : Request) → eqb q.count 1 ≡ true → eqb q.count 2 ≡ false
not_two q h = rw (eqb-true q.count 1 h)

pub record Formed (q : Request) : Type 0 where
  pub keys : Keyed q
  pub date : eqb q.dated 1 && not (is_date q.date.digits) ≡ false

-- what is tested of a request, one by one
pub record Tested (q : Request) : Type 0 where
  pub keys : bad_keys (used q) ≡ false
  pub kind : not (ltb q.kind 3) ≡ false
  pub dated : not (ltb q.dated 2) ≡ false
  pub notarized : not (ltb q.notarized 2) ≡ false
  pub date : eqb q.dated 1 && not (is_date q.date.digits) ≡ false

pub tested : (q : Request) → malformed q ≡ false → Tested q
unfolding malformed
tested q h =
    let a = or_split _ (eqb q.dated 1 && not (is_date q.date.digits)) h in
    let n = or_split _ (not (ltb q.notarized 2)) a.0 in
    let b = or_split _ (not (ltb q.dated 2)) n.0 in
    let c = or_split (bad_keys (used q)) (not (ltb q.kind 3)) b.0 in
    record { keys = c.0; kind = c.1; dated = b.1; notarized = n.1; date = a.1 }

pub formed : (q : Request) → malformed q ≡ false → Formed q
formed q h = let t = tested q h in record { keys = keyed q t.keys; date = t.date }

-- ---- names: that of a data key which a message brings or a request gives is a name or none

-- no name is 16 blanks
blanks_are_none : filled [] ≡ blanks
unfolding filled
blanks_are_none = refl

pub named_is_named : (key : ℕ) (o : Option Text) → legal_name o ≡ true
    → is_named (record { key = key; name = name_of (named o) }) ≡ true
unfolding is_named
named_is_named key None h = rw (blanks_are_none, same_refl blanks)
named_is_named key (Some w) h = or_right (same (filled w) blanks) (is_filled (filled w)) (claims.filled_is_filled w h)

-- the IDK1 that is written
pub idk1_legal : (k : KeyRequest) → bad_key k ≡ false → legal_name (asked (wants_idk1 k) (bare k.name.bytes)) ≡ true
unfolding bad_key
idk1_legal k h =
    let r = (or_split (not (ltb k.flags 8)) (wants_idk1 k && not (is_filled k.name.bytes)) h).1 in
    by_test (wants_idk1 k) (λ p. rw p (filled_name k.name.bytes (not-false _ (rw p at r)))) (λ p. rw p)

idk2_legal : (e : Entry) (b : Bool) → legal e ≡ true → legal_name (asked b (bare e.top.name.bytes)) ≡ true
idk2_legal e true h = filled_name e.top.name.bytes (rules e h).name_filled
idk2_legal e false h = refl

-- the name that an outgoing key is given
outgoing_named : (k : KeyRequest) → bad_key k ≡ false → is_named (outgoing_key k) ≡ true
outgoing_named k h =
    by_test (wants_idk1 k)
    (λ p. rw p (named_is_named k.key (Some (bare k.name.bytes)) (rw p at (idk1_legal k h))))
    (λ p. rw p (named_is_named k.key None refl))

-- a set of one key or of two
pub outgoing_formed : (q : Request) → Keyed q → keys_formed (outgoing_of q) ≡ true
unfolding outgoing_of in_case◌then◌else◌
outgoing_formed q (one p h) =
    rw (not_two q p) (claims.one_key_is_formed (outgoing_key q.first) (outgoing_named q.first h))
outgoing_formed q (two p r h i) =
    rw r (claims.two_keys_are_formed (outgoing_key q.first) (outgoing_key q.second) (outgoing_named q.first h)
    (outgoing_named q.second i))

-- ---- the message

for_legal : (us : Text) (e : Entry) (q : Request) (k : KeyRequest) → legal e ≡ true → bad_key k ≡ false
    → kd.legal (kd_for us e q k) ≡ true
for_legal us e q k h b =
    kd_legal (kd_for us e q k) (seal_lt _ k.key) (idk1_legal k b)
    (idk2_legal e (wants_idk2 k) h)

second_legal : (us : Text) (e : Entry) (q : Request) → legal e ≡ true → Keyed q
    → maybe_legal (field KD) (asked (eqb q.count 2) (kd_for us e q q.second)) ≡ true
second_legal us e q h (one p a) = rw (not_two q p)
second_legal us e q h (two p r a b) = rw r (for_legal us e q q.second h b)

iv_for_legal : (q : Request) → maybe_legal (field IV) (iv_for q) ≡ true
unfolding iv_for
iv_for_legal q =
    by_case (λ (o : Option Text). maybe_legal (field IV) o ≡ true) _ _ _ (λ _. iv_legal (code "P") q.iv refl) λ _.
    by_case (λ (o : Option Text). maybe_legal (field IV) o ≡ true) _ _ _
    (λ _. iv_legal (code "E") (conceal (keys_in (outgoing_of q)) q.iv) refl) (λ _. refl)

date_run : (s : Text) → is_date s ≡ true → is_run 0 12 12 s ≡ true
unfolding is_date
date_run s h =
    let a = and_true _ (is_time (pair_of 6 s) (pair_of 8 s) (pair_of 10 s)) h in
    (and_true (is_run 0 12 12 s) (is_day (pair_of 0 s) (pair_of 2 s) (pair_of 4 s)) a.0).0

date_legal : (q : Request) → Formed q → maybe_legal (field EDK) (asked (eqb q.dated 1) q.date.digits) ≡ true
date_legal q f =
    by_test (eqb q.dated 1) (λ p. rw p (date_run q.date.digits (not-false _ (rw p at f.date)))) (λ p. rw p)

first_fine : (q : Request) → Keyed q → bad_key q.first ≡ false
first_fine q (one p h) = h
first_fine q (two p r h i) = h

pub ksm_legal : (us : Text) (e : Entry) (q : Request) (m : ℕ) → legal e ≡ true → Formed q → m < 2 ^ 32
    → legal_body (ksm_body us e q m) ≡ true
unfolding ksm_body
ksm_legal us e q m h f l =
    rw (
      flagged_legal (wants_nos q),
      for_legal us e q q.first h (first_fine q f.keys),
      second_legal us e q h f.keys,
      iv_for_legal q,
      date_legal q f,
      (rules e h).next_right,
      mac_legal m l,
    )
