-- What the tests of a KSM mean in the paper's terms.
use Rattle.std.specs.Prelude.{None, Some}
use mathlib.Core.Path.{◌≡◌, refl, sym, ap}
use mathlib.Core.Bool.{Bool, true, false, not, true≢false, ◌||◌}
use mathlib.Core.List.{◌∷◌, []}
use Prim.Native.Nat.{ℕ}
use Prim.Native.Char.{code}
use native.Mathlib.Omega.{arith}
use lib.Dec.{eqb, ltb}
use borrow.Author.Tests.{eqb-true, ltb-false, le-ltb, ne_eqb, eq-eqb, not-false}
use Rattle.octets.specs.Text.{Text, same, within, is_run}
use Rattle.octets.specs.Part.{bare, found}
use Rattle.octets.proofs.Comparing.{same_equal as same_true, same_self as same_refl}
use Rattle.keying.specs.Parity.{odd}
use Rattle.keying.specs.Mac.{mac_key, mac}
use Rattle.keying.specs.Iv.{reveal}
use Rattle.dates.specs.Date.{is_date}
use Rattle.csm.specs.Fields.{Kd, named, numeral}
use Rattle.csm.specs.Covered.{covered}
use Rattle.csm.proofs.TextLaws.{none_some, some_inj}
use Rattle.csm.specs.Message.{Ksm}
use Rattle.partner.specs.declared.DataKey.{DataKey}
use Rattle.partner.specs.declared.KeySet.{KeySet}
use Rattle.partner.specs.declared.Entry.{Entry}
use Rattle.partner.specs.Entry.{filled, limit, keys_in, one_key, two_keys}
use Rattle.calls.specs.Words.{in_case◌then◌else◌, any, some_has}
use Rattle.calls.specs.Receive.{foreign, uneven, kds, brought_key, brought, iv_value, iv_of, bad_format, bad_mac}
use Rattle.calls.specs.Receive.{bad_count}
use Rattle.calls.specs.Good.{KdOf, first, second, Ours, in_clear, EvenOnlyUnmarked, BringsKey, Brings}
use Rattle.calls.specs.Good.{Iv, plain, enciphered, FormedKsm, Sealed, InTurn}
use Rattle.calls.specs.Results.{ReturnsIv}
use Rattle.calls.proofs.Tests.{or_split, by_test, by_part, not_failing, never}
use Rattle.calls.proofs.Turns.{short_of_last}

-- ---- its KDs

pub of_each : (f : Kd → Bool) (m : Ksm) → any f (kds m) ≡ false → (k : Kd) → KdOf m k → f k ≡ false
unfolding any
of_each f m h k first = (or_split (f m.kd) _ h).0
of_each f m h j (second k p) =
    let i : f m.kd || (f k || false) ≡ false = rw p at h in
    (or_split (f k) false (or_split (f m.kd) (f k || false) i).1).0

pub of_all : (f : Kd → Bool) (m : Ksm) → ((k : Kd) → KdOf m k → f k ≡ false) → any f (kds m) ≡ false
unfolding any
of_all f m h =
    by_part m.second (λ p. rw (p, h m.kd first)) (λ k p. rw (p, h m.kd first, h k (second k p)))

-- one of them fails the test
pub of_one : (f : Kd → Bool) (m : Ksm) (k : Kd) → KdOf m k → f k ≡ true → any f (kds m) ≡ true
of_one f m k i h = not_failing (any f (kds m)) (λ p. never (f k) h (of_each f m p k i))

-- ---- names and parity

pub ours : (e : Entry) (k : Kd) → foreign e k ≡ false → Ours e k
unfolding foreign
ours e k h n p =
    let i : not (same n (bare e.top.name.bytes)) ≡ false = rw p at h in
    same_true n (bare e.top.name.bytes) (not-false (same n (bare e.top.name.bytes)) i)

pub not_foreign : (e : Entry) (k : Kd) → Ours e k → foreign e k ≡ false
unfolding foreign
not_foreign e k h =
    let s = same_refl (bare e.top.name.bytes) in by_part k.idk2 (λ p. rw (p, s)) (λ n p. rw (p, h n p, s))

pub even_unmarked : (us : Text) (e : Entry) (m : Ksm) (k : Kd) → uneven us e m k ≡ false → EvenOnlyUnmarked us e m k
unfolding uneven
even_unmarked us e m k h p =
    let i : not (odd (in_clear us e m k)) ≡ false = rw p at h in
    not-false (odd (in_clear us e m k)) i

pub not_uneven : (us : Text) (e : Entry) (m : Ksm) (k : Kd) → EvenOnlyUnmarked us e m k → uneven us e m k ≡ false
unfolding uneven
not_uneven us e m k h = by_test k.p (λ p. rw (p, h p)) (λ p. rw p)

-- ---- the keys that it brings

key_brought : (us : Text) (e : Entry) (m : Ksm) (k : Kd) → BringsKey us e m k (brought_key us e m k)
unfolding filled
key_brought us e m k = record {
  key = refl;
  named = λ n p. rw p;
  nameless = λ p. rw p;
}

only_key : (us : Text) (e : Entry) (m : Ksm) (k : Kd) (d : DataKey) → BringsKey us e m k d → d ≡ brought_key us e m k
unfolding filled
only_key us e m k d h =
    let i : d.name.bytes ≡ filled (named k.idk1) =
    by_part k.idk1 (λ p. rw p (h.nameless p)) (λ n p. rw p (h.named n p)) in
    λ j. record { key = h.key j; name = record { bytes = i j } }

brought_one : (us : Text) (e : Entry) (m : Ksm) → m.second ≡ None → brought us e m ≡ one_key (brought_key us e m m.kd)
unfolding brought
brought_one us e m p = rw p

brought_two : (us : Text) (e : Entry) (m : Ksm) (k : Kd) → m.second ≡ Some k
    → brought us e m ≡ two_keys (brought_key us e m m.kd) (brought_key us e m k)
unfolding brought
brought_two us e m k p = rw p

pub brought_brings : (us : Text) (e : Entry) (m : Ksm) → Brings us e m (brought us e m)
brought_brings us e m = record {
  first =
      let k = key_brought us e m m.kd in
      by_part m.second (λ p. rw (brought_one us e m p) k) (λ l p. rw (brought_two us e m l p) k);
  one = λ p. rw (brought_one us e m p) (refl, refl);
  two = λ k p. rw (brought_two us e m k p) (refl, key_brought us e m k);
}

-- and no other set is what it brings
pub brings_only : (us : Text) (e : Entry) (m : Ksm) (set : KeySet) → Brings us e m set → set ≡ brought us e m
brings_only us e m set h =
    let f = only_key us e m m.kd set.first h.first in
    by_part m.second
    (λ p. rw (brought_one us e m p) (λ j. record { count = (h.one p).0 j; first = f j; second = (h.one p).1 j }))
    (λ k p. rw (brought_two us e m k p) (λ j. record {
      count = (h.two k p).0 j;
      first = f j;
      second = only_key us e m k set.second (h.two k p).1 j;
    }))

-- ---- IV and date

pub iv_is : (set : KeySet) (w : Text) (n : ℕ) → iv_value (keys_in set) w ≡ Some n → Iv set w n
unfolding iv_value in_case◌then◌else◌
iv_is set [] n h = absurd (none_some n h)
iv_is set (c ∷ w) n h =
    by_test (is_run (code "F") 16 16 w)
    (λ r. by_test (eqb c (code "P"))
    (λ p. let i : Some (numeral 16 0 w) ≡ Some n = rw (r, p) at h in
    rw (eqb-true c (code "P") p, ← some_inj i) (plain w r))
    (λ p. by_test (eqb c (code "E"))
    (λ q. let i : Some (reveal (keys_in set) (numeral 16 0 w)) ≡ Some n = rw (r, p, q) at h in
    rw (eqb-true c (code "E") q, ← some_inj i) (enciphered w r))
    (λ q. absurd (none_some n (rw (r, p, q) at h)))))
    (λ r. absurd (none_some n (rw r at h)))

pub is_iv : (set : KeySet) (w : Text) (n : ℕ) → Iv set w n → iv_value (keys_in set) w ≡ Some n
unfolding iv_value in_case◌then◌else◌
is_iv set w n (plain v r) = rw r
is_iv set w n (enciphered v r) = rw r

pub ksm_formed : (set : KeySet) (m : Ksm) → bad_format set m ≡ false → FormedKsm set m
unfolding bad_format some_has
ksm_formed set m h =
    let i = or_split (some_has (λ w. not (found (iv_value (keys_in set) w))) m.iv) _ h in
    record {
      iv = λ w p.
          let j : not (found (iv_value (keys_in set) w)) ≡ false = rw p at i.0 in
          by_part (iv_value (keys_in set) w) (λ q. absurd (true≢false (rw q at j))) (λ n q. (n, iv_is set w n q));
      date = λ w p. let j : not (is_date w) ≡ false = rw p at i.1 in not-false (is_date w) j;
    }

pub formed_ksm : (set : KeySet) (m : Ksm) → FormedKsm set m → bad_format set m ≡ false
unfolding bad_format some_has
formed_ksm set m h = rw (vector, date)
  where
    vector : some_has (λ w. not (found (iv_value (keys_in set) w))) m.iv ≡ false
    vector = by_part m.iv (λ p. rw p) (λ w p. let i = h.iv w p in rw (p, is_iv set w i.0 i.1))

    date : some_has (λ w. not (is_date w)) m.edk ≡ false
    date = by_part m.edk (λ p. rw p) (λ w p. rw (p, h.date w p))

-- the IV that is returned
pub iv_returned : (set : KeySet) (m : Ksm) → FormedKsm set m → ReturnsIv m set (iv_of set m)
iv_returned set m h = record {
  without = λ p. rw p;
  value = λ w p. let i = h.iv w p in (i.0, rw p (is_iv set w i.0 i.1), i.1);
}

-- ---- MAC and count

pub is_sealed : (set : KeySet) (text : Text) (n : ℕ) → bad_mac set text n ≡ false → Sealed set text n
unfolding bad_mac
is_sealed set text n h = sym (eqb-true _ n (not-false _ h))

pub sealed_is : (set : KeySet) (text : Text) (n : ℕ) → Sealed set text n → bad_mac set text n ≡ false
unfolding bad_mac
sealed_is set text n h = ap not (eq-eqb (mac (mac_key (keys_in set)) (covered text)) n (sym h))

pub in_turn : (expected count : ℕ) → within 1 limit count ≡ true → bad_count expected count ≡ false
    → InTurn expected count
unfolding bad_count
in_turn expected count l h =
    let i = or_split (ltb count expected) (eqb count limit) h in
    record { fresh = ltb-false count expected i.0; not_last = short_of_last count l i.1 }

pub turn_in : (expected count : ℕ) → InTurn expected count → bad_count expected count ≡ false
unfolding bad_count
turn_in expected count h =
    let k = h.not_last in
    rw (le-ltb count expected h.fresh, ne_eqb count limit (λ i. omega arith))
