-- One entry's record: its size, the empty one, and that a legal one is not empty.
use mathlib.Core.Path.{◌≡◌, refl, sym, ap, ◌∙◌, subst}
use mathlib.Core.Bool.{true, false, true≢false}
use mathlib.Core.List.{[], ◌∷◌, ◌++◌, append_assoc}
use Prim.Native.Nat.{zero, suc}
use lib.Dec.{eqb-suc-zero, eqb-zero-suc}
use lib.ListN.{length, take, length-append}
use lib.Seq.{take_at}
use Rattle.octets.specs.Text.{Text, same}
use Rattle.octets.specs.Number.{number, copies}
use Rattle.octets.proofs.Comparing.{same_equal}
use Rattle.octets.proofs.Parts.{length_part}
use Rattle.partner.specs.declared.Entry.{Entry}
use Rattle.partner.specs.Entry.{empty}
use Rattle.partner.specs.Legal as rule
use Rattle.partner.specs.Record.{entry_size, entry_bytes, entry_in}
use Rattle.partner.specs.Held.{Held}
use Rattle.partner.proofs.Naming.{filled_length}
use Rattle.partner.proofs.Keeping.{rules}
use Rattle.partner.proofs.Storing.{length_entry, entry_back, entry_held}
use Rattle.partner.specs.Table.{is_empty}

-- ---- sizes

pub size_in : (b : Text) → length (entry_bytes (entry_in b)) ≡ entry_size
unfolding entry_bytes entry_in
size_in b = simp (length-append, length_part)

-- an entry that its record gives back
pub record Kept (e : Entry) : Type 0 where
  pub size : length (entry_bytes e) ≡ entry_size
  pub back : entry_in (entry_bytes e) ≡ e

pub held_kept : (e : Entry) → Held e → Kept e
held_kept e h = record { size = length_entry e h; back = entry_back e h }

-- ---- the empty one

pub empty_in : entry_in (copies entry_size 0) ≡ empty
unfolding entry_in empty number
empty_in = refl

pub empty_is : is_empty empty ≡ true
unfolding is_empty entry_bytes empty
empty_is = refl

pub empty_held : Held empty
empty_held = subst Held empty_in (entry_held (copies entry_size 0) refl)

-- what looks empty and is kept is the empty one
pub is_empty_empty : (e : Entry) → Kept e → is_empty e ≡ true → e ≡ empty
unfolding is_empty
is_empty_empty e k h =
    sym k.back ∙ ap entry_in (same_equal (entry_bytes e) (copies entry_size 0) h) ∙ empty_in

-- ---- a legal one

-- a filled name does not begin with a zero byte
filled_front : (s x : Text) → rule.is_filled s ≡ true → same (s ++ x) (copies entry_size 0) ≡ false
unfolding rule.is_filled
filled_front [] x h = absurd (true≢false (sym h))
filled_front (zero ∷ s) x h = absurd (true≢false (sym h))
filled_front (suc c ∷ s) x h = rw (eqb-suc-zero c)

pub legal_filled : (e : Entry) → rule.legal e ≡ true → rule.is_filled e.identity.bytes ≡ true
legal_filled e h = (rules e h).identity_filled

-- with such an identity it is not empty
pub filled_full : (e : Entry) → rule.is_filled e.identity.bytes ≡ true → is_empty e ≡ false
unfolding is_empty entry_bytes
filled_full e h = filled_front e.identity.bytes _ h

pub legal_full : (e : Entry) → rule.legal e ≡ true → is_empty e ≡ false
legal_full e h = filled_full e (legal_filled e h)

-- a filled name is no sixteen zero bytes
pub is_filled_real : (s : Text) → rule.is_filled s ≡ true → same (copies 16 0) s ≡ false
unfolding rule.is_filled
is_filled_real [] h = refl
is_filled_real (zero ∷ s) h = absurd (true≢false (sym h))
is_filled_real (suc c ∷ s) h = rw (eqb-zero-suc c)

-- an entry's record begins with its identity
pub identity_front : (e : Entry) (s : Text) → rule.legal e ≡ true → take 16 (entry_bytes e ++ s) ≡ e.identity.bytes
unfolding entry_bytes
identity_front e s h =
    front e.identity.bytes _ s (filled_length e.identity.bytes (legal_filled e h))
  where
    front : (i x s : Text) → length i ≡ 16 → take 16 ((i ++ x) ++ s) ≡ i
    front i x s h = simp append_assoc (take_at i (x ++ s) 16 h)
