-- The changes of an entry whose fields fit their types leave such an entry.
use mathlib.Core.Path.{◌≡◌, refl, ap, ◌∙◌}
use mathlib.Core.Bool.{Bool, true, false, cond, ◌&&◌}
use mathlib.Core.List.{◌++◌}
use Prim.Native.Nat.{ℕ, ◌+◌, ◌^◌, ◌<◌}
use native.Mathlib.Omega.{arith}
use lib.Dec.{ltb}
use borrow.Author.Tests.{ltb-true}
use Rattle.octets.specs.Text.{Text}
use Rattle.octets.specs.Part.{all_octets}
use Rattle.octets.proofs.Comparing.{all_append, all_take}
use Rattle.keying.specs.declared.Top.{Top}
use Rattle.keying.specs.declared.Top.TheVariants.{Single, Pair}
use Rattle.partner.specs.declared.Name.{Name}
use Rattle.partner.specs.declared.DataKey.{DataKey}
use Rattle.partner.specs.declared.KeySet.{KeySet}
use Rattle.partner.specs.declared.Sending.{Sending}
use Rattle.partner.specs.declared.Receiving.{Receiving}
use Rattle.partner.specs.declared.Entry.{Entry}
use Rattle.partner.specs.Entry.{blanks, filled, name_of, limit, risen, unused, no_keys, one_key, two_keys}
use Rattle.partner.specs.Changes.{with_sending, with_receiving, form_of, left_of, right_of, loaded}
use Rattle.partner.specs.Changes.{accepted, issued, settled, given_up, failed}
use Rattle.partner.specs.Held.{HeldName, HeldKey, HeldSet, HeldSending, HeldReceiving, Held}
use Rattle.partner.proofs.Naming.{length_filled}

-- ---- names and keys

pub held_name_of : (w : Text) → all_octets w ≡ true → HeldName (name_of w)
unfolding filled
held_name_of w h =
    let a : all_octets (w ++ blanks) ≡ true = all_append (λ b. ltb b 256) w blanks ∙ ap (λ (b : Bool). b && true) h in
    record { size = length_filled w; octets = all_take (λ b. ltb b 256) 16 (w ++ blanks) a }

pub held_unused : HeldKey unused
held_unused = record { key = omega arith; name = record { size = refl; octets = refl } }

pub held_none : HeldSet no_keys
held_none = record { count = omega arith; first = held_unused; second = held_unused }

pub held_one : (k : DataKey) → HeldKey k → HeldSet (one_key k)
held_one k h = record { count = omega arith; first = h; second = held_unused }

pub held_two : (k l : DataKey) → HeldKey k → HeldKey l → HeldSet (two_keys k l)
held_two k l g h = record { count = omega arith; first = g; second = h }

-- ---- changes

held_risen : (n : ℕ) → risen n < 2 ^ 32
unfolding risen
held_risen n = go n (ltb n limit) refl
  where
    go : (n : ℕ) (b : Bool) → ltb n limit ≡ b → cond b (n + 1) limit < 2 ^ 32
    go n true e = let h = ltb-true n limit e in omega arith
    go n false e = omega arith

-- each unit anew
pub held_accepted : (count : ℕ) (keys : KeySet) → HeldSet keys → HeldReceiving (accepted count keys)
unfolding accepted
held_accepted count keys c = record { expected = held_risen count; incoming = c }

pub held_issued : (s : Sending) (keys : KeySet) → HeldSet keys → HeldSending (issued s keys)
unfolding issued
held_issued s keys c = record { next = held_risen s.next; phase = omega arith; outgoing = c }

pub held_settled : (s : Sending) → HeldSending s → HeldSending (settled s)
unfolding settled
held_settled s h = record { next = h.next; phase = omega arith; outgoing = h.outgoing }

pub held_given_up : (s : Sending) → HeldSending s → HeldSending (given_up s)
unfolding given_up
held_given_up s h = record { next = h.next; phase = omega arith; outgoing = held_none }

pub held_failed : (s : Sending) (x : ℕ) → HeldSending s → x < 2 ^ 32 → HeldSending (failed s x)
unfolding failed
held_failed s x h l = record { next = omega (arith, h.next); phase = omega arith; outgoing = held_none }

-- and the entry with it
pub held_with_sending : (e : Entry) (s : Sending) → Held e → HeldSending s → Held (with_sending e s)
held_with_sending e s h g =
    record { identity = h.identity; top = h.top; sending = g; receiving = h.receiving }

pub held_with_receiving : (e : Entry) (r : Receiving) → Held e → HeldReceiving r → Held (with_receiving e r)
held_with_receiving e r h g =
    record { identity = h.identity; top = h.top; sending = h.sending; receiving = g }

pub held_loaded : (identity name : Name) (top : Top) → HeldName identity → HeldName name → left_of top < 2 ^ 64
    → right_of top < 2 ^ 64 → Held (loaded identity name top)
unfolding loaded
held_loaded identity name top i n l r = record {
  identity = i;
  top = record { name = n; form = form_fits top; left = l; right = r };
  sending = record { next = omega arith; phase = omega arith; outgoing = held_none };
  receiving = record { expected = omega arith; incoming = held_none };
}
  where
    form_fits : (top : Top) → form_of top < 2 ^ 8
    form_fits (Single key) = omega arith
    form_fits (Pair left right) = omega arith
