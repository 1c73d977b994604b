-- The changes of an entry keep it legal.
use mathlib.Core.Path.{◌≡◌, refl, sym}
use mathlib.Core.Bool.{Bool, true, false}
use Prim.Native.Nat.{ℕ, ◌+◌, ◌≤◌, ◌<◌, max}
use native.Mathlib.Nat.{le-max_left, max-le}
use native.Mathlib.Omega.{arith}
use lib.Dec.{eqb, leb}
use borrow.Author.Tests.{le-leb, leb-true, lt-ltb, ne_eqb, eqb-false, not-false}
use Rattle.octets.specs.Text.{within}
use Rattle.octets.proofs.Comparing.{both, join}
use Rattle.keying.specs.declared.Top.{Top}
use Rattle.keying.specs.declared.Top.TheVariants.{Single, Pair}
use Rattle.keying.specs.Keys.{odd_top}
use Rattle.partner.specs.declared.Name.{Name}
use Rattle.partner.specs.declared.DataKey.{DataKey}
use Rattle.partner.specs.declared.KeySet.{KeySet}
use Rattle.partner.specs.declared.Sending.{Sending}
use Rattle.partner.specs.declared.Entry.{Entry}
use Rattle.partner.specs.Entry.{limit, risen, idle, waiting, broken, no_keys, one_key, two_keys, top_of}
use Rattle.partner.specs.Legal.{exactly, is_filled, is_named, is_unused, set_named, set_clean, keys_formed}
use Rattle.partner.specs.Legal.{names_formed, form_clean, unused_zero, top_odd}
use Rattle.partner.specs.Legal.{counts_right, idle_right, outgoing_right}
use Rattle.partner.specs.Legal.{incoming_right, legal, rules as list}
use Rattle.partner.specs.Changes.{with_sending, with_receiving, kept, loaded}
use Rattle.partner.specs.Changes.{accepted, issued, settled, given_up, failed}
use Rattle.partner.proofs.Ruling.{legal_kept, kept_legal, ◌and◌}

-- ---- the rules one by one

pub record Rules (e : Entry) : Type 0 where
  pub identity_filled : is_filled e.identity.bytes ≡ true
  pub name_filled : is_filled e.top.name.bytes ≡ true
  pub outgoing_named : set_named e.sending.outgoing ≡ true
  pub incoming_named : set_named e.receiving.incoming ≡ true
  pub form_clean : form_clean e.top ≡ true
  pub outgoing_clean : set_clean e.sending.outgoing ≡ true
  pub incoming_clean : set_clean e.receiving.incoming ≡ true
  pub top_odd : top_odd e.top ≡ true
  pub next_right : within 1 limit e.sending.next ≡ true
  pub expected_right : within 1 limit e.receiving.expected ≡ true
  pub idle_right : idle_right e.sending ≡ true
  pub outgoing_right : outgoing_right e.sending ≡ true
  pub incoming_right : incoming_right e.receiving ≡ true

pub rules : (e : Entry) → legal e ≡ true → Rules e
unfolding list names_formed unused_zero counts_right
rules e h =
    let k = legal_kept e h in
    let names = both _ (set_named e.receiving.incoming) (not-false (names_formed e) k.0) in
    let m = both _ (set_named e.sending.outgoing) names.0 in
    let o = both (is_filled e.identity.bytes) (is_filled e.top.name.bytes) m.0 in
    let unused = both _ (set_clean e.receiving.incoming) (not-false (unused_zero e) k.1.0) in
    let v = both (form_clean e.top) (set_clean e.sending.outgoing) unused.0 in
    let counts = not-false (counts_right e.sending.next e.receiving.expected) k.1.1.1.0 in
    let w = both (within 1 limit e.sending.next) (within 1 limit e.receiving.expected) counts in
    record {
      identity_filled = o.0;
      name_filled = o.1;
      outgoing_named = m.1;
      incoming_named = names.1;
      form_clean = v.0;
      outgoing_clean = v.1;
      incoming_clean = unused.1;
      top_odd = not-false (top_odd e.top) k.1.1.0;
      next_right = w.0;
      expected_right = w.1;
      idle_right = not-false (idle_right e.sending) k.1.1.1.1.0;
      outgoing_right = not-false (outgoing_right e.sending) k.1.1.1.1.1.0;
      incoming_right = not-false (incoming_right e.receiving) k.1.1.1.1.1.1.0;
    }

pub whole : (e : Entry) → Rules e → legal e ≡ true
unfolding list names_formed unused_zero counts_right
whole e p =
    let names = join (join (join p.identity_filled p.name_filled) p.outgoing_named) p.incoming_named in
    let unused = join (join p.form_clean p.outgoing_clean) p.incoming_clean in
    let counts = join p.next_right p.expected_right in
    kept_legal e
    (names and unused and p.top_odd and counts and p.idle_right and p.outgoing_right and p.incoming_right and tt)

-- ---- counts and phases

pub within_both : (low high x : ℕ) → within low high x ≡ true → (low ≤ x) × (x ≤ high)
within_both low high x h =
    let t = both (leb low x) (leb x high) h in
    (leb-true low x t.0, leb-true x high t.1)

pub both_within : (low high x : ℕ) → low ≤ x → x ≤ high → within low high x ≡ true
both_within low high x h k = join (le-leb low x h) (le-leb x high k)

pub risen_below : (n : ℕ) → n < limit → risen n ≡ n + 1
unfolding risen
risen_below n h = rw (lt-ltb n limit h)

-- a key message that waits was sent, and has keys
sent : (e : Entry) → Rules e → e.sending.phase ≡ waiting → 2 ≤ e.sending.next
unfolding idle_right
sent e p w =
    let h : exactly false (eqb e.sending.next 1) ≡ true = rw w at p.idle_right in
    let l = within_both 1 limit e.sending.next p.next_right in
    omega (arith, eqb-false e.sending.next 1 (neither (eqb e.sending.next 1) h), l.0)
  where
    neither : (b : Bool) → exactly false b ≡ true → b ≡ false
    neither true h = sym h
    neither false h = refl

keyed : (e : Entry) → Rules e → e.sending.phase ≡ waiting → within 1 2 e.sending.outgoing.count ≡ true
unfolding outgoing_right
keyed e p w = rw w at p.outgoing_right

-- ---- key sets

pub record Formed (set : KeySet) : Type 0 where
  pub count : within 1 2 set.count ≡ true
  pub named : set_named set ≡ true
  pub clean : set_clean set ≡ true

pub formed : (set : KeySet) → keys_formed set ≡ true → Formed set
unfolding keys_formed
formed set h =
    let a = both _ (set_clean set) h in
    let b = both (within 1 2 set.count) (set_named set) a.0 in
    record { count = b.0; named = b.1; clean = a.1 }

pub one_formed : (k : DataKey) → is_named k ≡ true → keys_formed (one_key k) ≡ true
unfolding keys_formed set_named set_clean is_unused
one_formed k h = rw h

pub two_formed : (k l : DataKey) → is_named k ≡ true → is_named l ≡ true → keys_formed (two_keys k l) ≡ true
unfolding keys_formed set_named set_clean
two_formed k l g h = rw (g, h)

-- ---- the changes

pub loaded_legal : (identity name : Name) (top : Top) → is_filled identity.bytes ≡ true
    → is_filled name.bytes ≡ true → odd_top top ≡ true → legal (loaded identity name top) ≡ true
unfolding loaded form_clean top_odd top_of set_named set_clean is_unused idle_right outgoing_right incoming_right
loaded_legal identity name top a b c = whole (loaded identity name top) (record {
  identity_filled = a;
  name_filled = b;
  outgoing_named = refl;
  incoming_named = refl;
  form_clean = clean top;
  outgoing_clean = refl;
  incoming_clean = refl;
  top_odd = odd top c;
  next_right = refl;
  expected_right = refl;
  idle_right = refl;
  outgoing_right = refl;
  incoming_right = refl;
})
  where
    clean : (top : Top) → form_clean (kept name top) ≡ true
    clean (Single key) = refl
    clean (Pair left right) = refl

    odd : (top : Top) → odd_top top ≡ true → odd_top (top_of (kept name top)) ≡ true
    odd (Single key) c = c
    odd (Pair left right) c = c

-- the receiving unit anew, with keys
pub accepted_legal : (e : Entry) (count : ℕ) (keys : KeySet) → legal e ≡ true → 1 ≤ count → count < limit
    → keys_formed keys ≡ true → legal (with_receiving e (accepted count keys)) ≡ true
unfolding accepted incoming_right
accepted_legal e count keys h l m g =
    let p = rules e h in
    let f = formed keys g in
    let r = risen_below count m in
    whole (with_receiving e (accepted count keys)) (record {
      identity_filled = p.identity_filled;
      name_filled = p.name_filled;
      outgoing_named = p.outgoing_named;
      incoming_named = f.named;
      form_clean = p.form_clean;
      outgoing_clean = p.outgoing_clean;
      incoming_clean = f.clean;
      top_odd = p.top_odd;
      next_right = p.next_right;
      expected_right = both_within 1 limit (risen count) (omega arith) (omega arith);
      idle_right = p.idle_right;
      outgoing_right = p.outgoing_right;
      incoming_right = rw (lt-ltb 1 (risen count) (omega arith)) f.count;
    })

-- the sending unit anew, in a phase other than 0
sent_legal : (e : Entry) (s : Sending) → legal e ≡ true → set_named s.outgoing ≡ true
    → set_clean s.outgoing ≡ true → 2 ≤ s.next → s.next ≤ limit → exactly (eqb s.phase idle) false ≡ true
    → outgoing_right s ≡ true → legal (with_sending e s) ≡ true
unfolding idle_right
sent_legal e s h a b l m i o = let p = rules e h in whole (with_sending e s) (record {
  identity_filled = p.identity_filled;
  name_filled = p.name_filled;
  outgoing_named = a;
  incoming_named = p.incoming_named;
  form_clean = p.form_clean;
  outgoing_clean = b;
  incoming_clean = p.incoming_clean;
  top_odd = p.top_odd;
  next_right = both_within 1 limit s.next (omega arith) m;
  expected_right = p.expected_right;
  idle_right = rw (ne_eqb s.next 1 (λ e. omega arith)) i;
  outgoing_right = o;
  incoming_right = p.incoming_right;
})

pub issued_legal : (e : Entry) (keys : KeySet) → legal e ≡ true → e.sending.next < limit → keys_formed keys ≡ true
    → legal (with_sending e (issued e.sending keys)) ≡ true
unfolding issued outgoing_right
issued_legal e keys h m f =
    let n = e.sending.next in
    let l = within_both 1 limit n (rules e h).next_right in
    let r = risen_below n m in
    let k = formed keys f in
    sent_legal e (issued e.sending keys) h k.named k.clean (omega (arith, l.0, r)) (omega (arith, r)) refl
    k.count

pub settled_legal : (e : Entry) → legal e ≡ true → e.sending.phase ≡ waiting
    → legal (with_sending e (settled e.sending)) ≡ true
unfolding settled outgoing_right
settled_legal e h w =
    let p = rules e h in
    sent_legal e (settled e.sending) h p.outgoing_named p.outgoing_clean (sent e p w)
    (within_both 1 limit e.sending.next p.next_right).1 refl (keyed e p w)

-- broken, with no keys
broken_legal : (e : Entry) (n : ℕ) → legal e ≡ true → 2 ≤ n → n ≤ limit
    → legal (with_sending e (record { next = n; phase = broken; outgoing = no_keys })) ≡ true
unfolding set_named set_clean is_unused outgoing_right
broken_legal e n h l m = sent_legal e _ h refl refl l m refl refl

pub given_up_legal : (e : Entry) → legal e ≡ true → e.sending.phase ≡ waiting
    → legal (with_sending e (given_up e.sending)) ≡ true
unfolding given_up
given_up_legal e h w =
    let p = rules e h in
    broken_legal e e.sending.next h (sent e p w) (within_both 1 limit e.sending.next p.next_right).1

pub failed_legal : (e : Entry) (x : ℕ) → legal e ≡ true → e.sending.phase ≡ waiting → 1 ≤ x → x ≤ limit
    → legal (with_sending e (failed e.sending x)) ≡ true
unfolding failed
failed_legal e x h w l m =
    let n = e.sending.next in
    let p = rules e h in
    let s = sent e p w in
    let g = le-max_left n x in
    let u = within_both 1 limit n p.next_right in
    broken_legal e (max n x) h (omega (arith, s, g)) (max-le u.1 m)
