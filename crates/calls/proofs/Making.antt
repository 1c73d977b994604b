-- What is built of a request, field by field in the paper's terms.
use mathlib.Core.Path.{◌≡◌, refl, sym, subst}
use Prim.Native.Nat.{ℕ, ◌/◌, ◌%◌, ◌≤◌}
use native.Mathlib.Omega.{arith}
use lib.Dec.{eqb}
use borrow.Author.Tests.{eqb-true, eqb-false, eq-eqb, ne_eqb}
use Rattle.octets.specs.Text.{Text}
use Rattle.octets.specs.Part.{bare}
use Rattle.partner.specs.declared.Entry.{Entry}
use Rattle.partner.specs.Entry.{filled}
use Rattle.partner.proofs.Claims.{claims}
use Rattle.calls.specs.declared.KeyRequest.{KeyRequest}
use Rattle.calls.specs.declared.Request.{Request}
use Rattle.calls.specs.Words.{in_case◌then◌else◌}
use Rattle.calls.specs.Build.{wants_nos, outgoing_key, outgoing_of, asked, kd_for, iv_for}
use Rattle.calls.specs.Good.{only, first, second, FormedKey, FormedRequest}
use Rattle.calls.specs.Results as wanted
use Rattle.calls.specs.Results.{Asked, Marked, KeepsKey, Keeps, WritesKey, WritesIv, WritesFields}
use Rattle.calls.proofs.Tests.{by_test}
use Rattle.calls.proofs.Written.{sent}

-- ---- flags

-- a bit is 0 or 1
data Bit (n : ℕ) : Type 0 where
  one : n ≡ 1 → Bit n
  zero : n ≡ 0 → Bit n

bit : (n : ℕ) → n ≤ 1 → Bit n
bit n h =
    by_test (eqb n 1) (λ p. one (eqb-true n 1 p)) (λ p. let i = eqb-false n 1 p in zero (omega arith))

is_asked : {A : Type 0} (a : A) (n : ℕ) → Bit n → Asked a n (asked (eqb n 1) a)
is_asked a n (one p) = rw p wanted.Asked.yes
is_asked a n (zero p) = rw p wanted.Asked.no

is_marked : (n : ℕ) → Bit n → Marked n (eqb n 1)
is_marked n (one p) = rw p wanted.Marked.yes
is_marked n (zero p) = rw p wanted.Marked.no

-- ---- the outgoing keys

key_kept : (r : KeyRequest) → FormedKey r → KeepsKey r (outgoing_key r)
unfolding filled
key_kept r h = record {
  key = refl;
  named = λ p.
      let i : filled (bare r.name.bytes) ≡ r.name.bytes = claims.filled_after_bare r.name.bytes (h.name p) in
      rw (eq-eqb (r.flags / 2 % 2) 1 p) (λ j. record { bytes = i j });
  nameless = λ p. rw (ne_eqb (r.flags / 2 % 2) 1 (λ i. omega arith));
}

pub kept : (q : Request) → FormedRequest q → Keeps q (outgoing_of q)
unfolding outgoing_of in_case◌then◌else◌
kept q h =
    by_test (eqb q.count 2)
    (λ p.
    let i = eqb-true q.count 2 p in
    rw p (record {
      count = sym i;
      first = key_kept q.first (h.keys q.first (first i));
      one = λ r. absurd (omega arith);
      two = λ r. key_kept q.second (h.keys q.second (second i));
    }))
    (λ p.
    let i = eqb-false q.count 2 p in
    let c = h.count in
    let j : q.count ≡ 1 = omega arith in
    rw p (record {
      count = sym j;
      first = key_kept q.first (h.keys q.first (only j));
      one = λ r. refl;
      two = λ r. absurd (i r);
    }))

-- ---- the message

key_written : (us : Text) (e : Entry) (q : Request) (r : KeyRequest) → WritesKey us e (wants_nos q) r (kd_for us e q r)
key_written us e q r = record {
  key = refl;
  p = is_marked (r.flags % 2) (bit (r.flags % 2) (omega arith));
  idk1 = is_asked (bare r.name.bytes) (r.flags / 2 % 2) (bit (r.flags / 2 % 2) (omega arith));
  idk2 = is_asked (bare e.top.name.bytes) (r.flags / 4 % 2) (bit (r.flags / 4 % 2) (omega arith));
}

iv_written : (q : Request) → q.kind ≤ 2 → WritesIv q (outgoing_of q) q.kind (iv_for q)
unfolding iv_for in_case◌then◌else◌
iv_written q h =
    by_test (eqb q.kind 1) (λ p. of (eqb-true q.kind 1 p) (rw p wanted.WritesIv.plain)) λ p.
    by_test (eqb q.kind 2) (λ r. of (eqb-true q.kind 2 r) (rw (p, r) wanted.WritesIv.enciphered)) λ r.
    let i = eqb-false q.kind 1 p in
    let j = eqb-false q.kind 2 r in
    of {n = 0} (omega arith) (rw (p, r) wanted.WritesIv.without)
  where
    of : {n : ℕ} → q.kind ≡ n → WritesIv q (outgoing_of q) n (iv_for q)
        → WritesIv q (outgoing_of q) q.kind (iv_for q)
    of i w = subst (λ (n : ℕ). WritesIv q (outgoing_of q) n (iv_for q)) (sym i) w

pub fields_written : (us : Text) (e : Entry) (q : Request) → FormedRequest q
    → WritesFields us e q (outgoing_of q) (sent us e q)
unfolding sent
fields_written us e q h = record {
  nos = is_marked q.notarized (bit q.notarized h.notarized);
  first = key_written us e q q.first;
  one = λ p. rw (ne_eqb q.count 2 (λ i. omega arith));
  two = λ p. (kd_for us e q q.second, rw (eq-eqb q.count 2 p), key_written us e q q.second);
  iv = iv_written q h.iv;
  date = is_asked q.date.digits q.dated (bit q.dated h.dated);
  count = refl;
}
