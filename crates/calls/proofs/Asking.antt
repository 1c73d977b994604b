-- What the tests of a request mean in the paper's terms.
use mathlib.Core.Path.{◌≡◌}
use mathlib.Core.Bool.{Bool, true, false, not, ◌&&◌, true≢false, ◌||◌}
use mathlib.Core.List.{◌∷◌, []}
use Prim.Native.Nat.{◌/◌, ◌%◌, ◌≤◌}
use native.Mathlib.Omega.{arith}
use lib.Dec.{eqb, ltb}
use borrow.Author.Tests.{eqb-true, eqb-false, eq-eqb, ne_eqb, ltb-true, lt-ltb, not-false}
use Rattle.keying.specs.Parity.{odd}
use Rattle.dates.specs.Date.{is_date}
use Rattle.partner.specs.declared.Entry.{Entry}
use Rattle.partner.specs.Entry.{waiting}
use Rattle.partner.specs.Legal.{is_filled}
use Rattle.calls.specs.declared.KeyRequest.{KeyRequest}
use Rattle.calls.specs.declared.Request.{Request}
use Rattle.calls.specs.Words.{in_case◌then◌else◌, any}
use Rattle.calls.specs.Receive.{is_waiting}
use Rattle.calls.specs.Build.{used, not_odd, bad_key, bad_keys, malformed, wants_idk1}
use Rattle.calls.specs.Good.{Uses, only, first, second, OddWhereMarked, FormedKey, FormedRequest, GoodRequest}
use Rattle.calls.proofs.Tests.{or_split, by_test}
use Rattle.calls.proofs.Accepting.{Fit}
use Rattle.calls.proofs.Requests.{tested}

-- ---- the keys that are used

used_one : (q : Request) → q.count ≡ 1 → used q ≡ q.first ∷ []
unfolding used in_case◌then◌else◌
used_one q p = rw (eq-eqb q.count 1 p)

used_two : (q : Request) → q.count ≡ 2 → used q ≡ q.first ∷ q.second ∷ []
unfolding used in_case◌then◌else◌
used_two q p = rw (ne_eqb q.count 1 (λ i. omega arith), eq-eqb q.count 2 p)

pub of_used : (f : KeyRequest → Bool) (q : Request) → any f (used q) ≡ false → (k : KeyRequest) → Uses q k → f k ≡ false
unfolding any
of_used f q h k (only p) =
    let i : f q.first || false ≡ false = rw (used_one q p) at h in (or_split (f q.first) false i).0
of_used f q h k (first p) =
    let i : f q.first || (f q.second || false) ≡ false = rw (used_two q p) at h in
    (or_split (f q.first) (f q.second || false) i).0
of_used f q h k (second p) =
    let i : f q.first || (f q.second || false) ≡ false = rw (used_two q p) at h in
    (or_split (f q.second) false (or_split (f q.first) (f q.second || false) i).1).0

-- how many keys there are
data Number (q : Request) : Type 0 where
  one : q.count ≡ 1 → Number q
  two : q.count ≡ 2 → Number q
  neither : (q.count ≡ 1 → ⊥) → (q.count ≡ 2 → ⊥) → used q ≡ [] → Number q

number : (q : Request) → Number q
unfolding used in_case◌then◌else◌
number q =
    by_test (eqb q.count 1) (λ p. one (eqb-true q.count 1 p)) λ p.
    by_test (eqb q.count 2) (λ r. two (eqb-true q.count 2 r)) λ r.
    neither (eqb-false q.count 1 p) (eqb-false q.count 2 r) (rw (p, r))

pub all_used : (f : KeyRequest → Bool) (q : Request) → ((k : KeyRequest) → Uses q k → f k ≡ false) → any f (used q) ≡ false
unfolding any
all_used f q h = go (number q)
  where
    go : Number q → any f (used q) ≡ false
    go (one p) = rw (used_one q p, h q.first (only p))
    go (two p) = rw (used_two q p, h q.first (first p), h q.second (second p))
    go (neither a b p) = rw p

-- ---- parity

marked_odd : (k : KeyRequest) → not_odd k ≡ false → k.flags % 2 ≡ 1 → odd k.key ≡ true
unfolding not_odd
marked_odd k h p =
    let i : not (odd k.key) ≡ false = rw (eq-eqb (k.flags % 2) 1 p) at h in not-false (odd k.key) i

odd_marked : (k : KeyRequest) → (k.flags % 2 ≡ 1 → odd k.key ≡ true) → not_odd k ≡ false
unfolding not_odd
odd_marked k h = by_test (eqb (k.flags % 2) 1) (λ p. rw (p, h (eqb-true (k.flags % 2) 1 p))) (λ p. rw p)

pub odd_where_marked : (q : Request) → any not_odd (used q) ≡ false → OddWhereMarked q
odd_where_marked q h k u = marked_odd k (of_used not_odd q h k u)

pub none_even : (q : Request) → OddWhereMarked q → any not_odd (used q) ≡ false
none_even q h = all_used not_odd q (λ k u. odd_marked k (h k u))

-- ---- form

formed_key : (k : KeyRequest) → bad_key k ≡ false → FormedKey k
unfolding bad_key
formed_key k h =
    let i = or_split (not (ltb k.flags 8)) (wants_idk1 k && not (is_filled k.name.bytes)) h in
    record {
      flags = ltb-true k.flags 8 (not-false (ltb k.flags 8) i.0);
      name = λ p.
          let j : not (is_filled k.name.bytes) ≡ false = rw (eq-eqb (k.flags / 2 % 2) 1 p) at i.1 in
          not-false (is_filled k.name.bytes) j;
    }

key_formed : (k : KeyRequest) → FormedKey k → bad_key k ≡ false
unfolding bad_key
key_formed k h =
    let f = lt-ltb k.flags 8 h.flags in
    by_test (eqb (k.flags / 2 % 2) 1) (λ p. rw (f, p, h.name (eqb-true (k.flags / 2 % 2) 1 p))) (λ p. rw (f, p))

-- one key or two different ones, well formed
of_two : (q : Request) → bad_keys (used q) ≡ false → q.count ≡ 2
    → (eqb q.first.key q.second.key ≡ false) × (bad_key q.first ≡ false) × (bad_key q.second ≡ false)
unfolding bad_keys
of_two q h p =
    let e = eqb q.first.key q.second.key in
    let i = or_split (e || bad_key q.first) (bad_key q.second) (rw (used_two q p) at h) in
    let j = or_split e (bad_key q.first) i.0 in
    (j.0, j.1, i.1)

none_bad : (q : Request) → bad_keys (used q) ≡ false → (k : KeyRequest) → Uses q k → bad_key k ≡ false
unfolding bad_keys
none_bad q h k (only p) = rw (used_one q p) at h
none_bad q h k (first p) = (of_two q h p).1
none_bad q h k (second p) = (of_two q h p).2

counted : (q : Request) → bad_keys (used q) ≡ false → Number q → (1 ≤ q.count) × (q.count ≤ 2)
unfolding bad_keys
counted q h (one p) = (omega arith, omega arith)
counted q h (two p) = (omega arith, omega arith)
counted q h (neither a b p) = absurd (let i : true ≡ false = rw p at h in true≢false i)

keys_formed : (q : Request) → FormedRequest q → bad_keys (used q) ≡ false
unfolding bad_keys
keys_formed q h = go (number q)
  where
    go : Number q → bad_keys (used q) ≡ false
    go (one p) = rw (used_one q p) (key_formed q.first (h.keys q.first (only p)))
    go (two p) = rw (
      used_two q p,
      ne_eqb q.first.key q.second.key (h.different p),
      key_formed q.first (h.keys q.first (first p)),
      key_formed q.second (h.keys q.second (second p)),
    )
    go (neither a b p) = let c = h.count in absurd (omega (arith, a, b, c.0, c.1))

pub request_formed : (q : Request) → malformed q ≡ false → FormedRequest q
request_formed q h =
    let t = tested q h in
    record {
      count = counted q t.keys (number q);
      different = λ p. eqb-false q.first.key q.second.key (of_two q t.keys p).0;
      keys = λ k u. formed_key k (none_bad q t.keys k u);
      iv = let i = ltb-true q.kind 3 (not-false _ t.kind) in omega arith;
      dated = let i = ltb-true q.dated 2 (not-false _ t.dated) in omega arith;
      date = λ p.
          let i : not (is_date q.date.digits) ≡ false = rw (eq-eqb q.dated 1 p) at t.date in
          not-false (is_date q.date.digits) i;
      notarized = let i = ltb-true q.notarized 2 (not-false _ t.notarized) in omega arith;
    }

pub formed_request : (q : Request) → FormedRequest q → malformed q ≡ false
unfolding malformed
formed_request q h =
    rw (
      keys_formed q h,
      lt-ltb q.kind 3 (let i = h.iv in omega arith),
      lt-ltb q.dated 2 (let i = h.dated in omega arith),
      lt-ltb q.notarized 2 (let i = h.notarized in omega arith),
    ) (by_test (eqb q.dated 1) (λ p. rw (p, h.date (eqb-true q.dated 1 p))) (λ p. rw p))

-- ---- all of it

pub fit : (e : Entry) (q : Request) → GoodRequest e q → Fit e q
unfolding is_waiting
fit e q h = record {
  free = ne_eqb e.sending.phase waiting h.free;
  not_last = h.not_last;
  parity = none_even q h.parity;
  formed = formed_request q h.formed;
}

pub good : (e : Entry) (q : Request) → Fit e q → GoodRequest e q
unfolding is_waiting
good e q h = record {
  free = eqb-false e.sending.phase waiting h.free;
  not_last = h.not_last;
  parity = odd_where_marked q h.parity;
  formed = request_formed q h.formed;
}
