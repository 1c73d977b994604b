-- The records of a row of slots: written and read again.
use mathlib.Core.Path.{◌≡◌, refl, sym, ap, ◌∙◌, subst}
use mathlib.Core.Bool.{Bool, true, false, cond, ◌||◌, true≢false}
use mathlib.Core.List.{List, [], ◌∷◌, ◌++◌}
use mathlib.Core.Logic.{◌⊎◌, inl, inr, ⊎_elim}
use Prim.Native.Nat.{ℕ, zero, suc, ◌*◌, ◌≤◌}
use native.Mathlib.Omega.{arith}
use lib.Dec.{eqb, ltb}
use lib.ListN.{length, take, drop, get_or, length-append}
use lib.Seq.{take_at, drop_at}
use Rattle.octets.specs.Text.{Text}
use Rattle.octets.specs.Part.{all_octets}
use Rattle.octets.proofs.Comparing.{both, all_drop, octets_part}
use Rattle.partner.specs.declared.Entry.{Entry}
use Rattle.partner.specs.Entry.{empty}
use Rattle.partner.specs.Legal as rule
use Rattle.partner.specs.Record.{entry_bytes, entry_in, entry_size}
use Rattle.partner.specs.Held.{Held}
use Rattle.partner.proofs.Storing.{entry_held}
use Rattle.partner.specs.Table.{is_empty, slots_legal, identities, AllHeld}
use Rattle.image.specs.Image.{record_length, slot_bytes, slots_bytes, slot_in, slots_in, partner_size}
use Rattle.image.proofs.Entries.{Kept, held_kept, size_in, empty_held, empty_is, is_empty_empty, legal_full}

-- each slot the empty one, or a legal entry that its record gives back
pub data Stored : List Entry → Type 0 where
  end : Stored []
  vacant : {slots : List Entry} → Stored slots → Stored (empty ∷ slots)
  used : {e : Entry} {slots : List Entry} → rule.legal e ≡ true → Kept e → Stored slots → Stored (e ∷ slots)

-- ---- one record

pub vacant_bytes : (s : Text) → slot_bytes empty ++ s ≡ 0 ∷ s
unfolding slot_bytes
vacant_bytes s = rw empty_is

pub partner_bytes : (e : Entry) (s : Text) → is_empty e ≡ false → slot_bytes e ++ s ≡ 2 ∷ (entry_bytes e ++ s)
unfolding slot_bytes
partner_bytes e s h = rw h

pub vacant_size : length (slot_bytes empty) ≡ 1
unfolding slot_bytes
vacant_size = rw empty_is

pub used_size : (e : Entry) → rule.legal e ≡ true → Kept e → length (slot_bytes e) ≡ partner_size
unfolding slot_bytes
used_size e h k = rw (legal_full e h) (ap suc k.size)

pub identities_vacant : (slots : List Entry) → identities (empty ∷ slots) ≡ identities slots
identities_vacant slots = rw empty_is

pub identities_full : (e : Entry) (slots : List Entry) → is_empty e ≡ false
    → identities (e ∷ slots) ≡ e.identity.bytes ∷ identities slots
identities_full e slots h = rw h

pub vacant_in : (n : ℕ) (s : Text) → slots_in (suc n) (0 ∷ s) ≡ empty ∷ slots_in n s
unfolding slots_in slot_in record_length
vacant_in n s = refl

pub partner_in : (n : ℕ) (b s : Text) → length b ≡ entry_size → slots_in (suc n) (2 ∷ (b ++ s)) ≡ entry_in b ∷ slots_in n s
unfolding slots_in slot_in record_length
partner_in n b s h = rw (take_at b s entry_size h, drop_at b s entry_size h)

-- ---- the row

pub slots_back : (slots : List Entry) → Stored slots → slots_in (length slots) (slots_bytes slots) ≡ slots
unfolding slots_in
slots_back [] end = refl
slots_back (e ∷ slots) (vacant st) =
    ap (slots_in (suc (length slots))) (vacant_bytes (slots_bytes slots)) ∙ vacant_in (length slots) (slots_bytes slots)
    ∙ ap (λ (l : List Entry). empty ∷ l) (slots_back slots st)
slots_back (e ∷ slots) (used h k st) =
    let f = legal_full e h in
    ap (slots_in (suc (length slots))) (partner_bytes e (slots_bytes slots) f)
    ∙ partner_in (length slots) (entry_bytes e) (slots_bytes slots) k.size
    ∙ ap (λ (x : Entry). x ∷ slots_in (length slots) (slots_bytes slots)) k.back
    ∙ ap (λ (l : List Entry). e ∷ l) (slots_back slots st)

-- a row that is read from the very bytes that it is written to: its first slot, and the others
record Read (n : ℕ) (e : Entry) (slots : List Entry) : Type 0 where
  first : (e ≡ empty) ⊎ ((is_empty e ≡ false) × Kept e)
  rest : slots ≡ slots_in n (slots_bytes slots)

bytes_empty : (e : Entry) (s : Text) → is_empty e ≡ true → slot_bytes e ++ s ≡ 0 ∷ s
unfolding slot_bytes
bytes_empty e s h = rw h

read_vacant : (n : ℕ) (e : Entry) (slots : List Entry) → is_empty e ≡ true
    → e ∷ slots ≡ slots_in (suc n) (slots_bytes (e ∷ slots)) → Read n e slots
read_vacant n e slots z p =
    let q : e ∷ slots ≡ empty ∷ slots_in n (slots_bytes slots) =
    p ∙ ap (slots_in (suc n)) (bytes_empty e (slots_bytes slots) z) ∙ vacant_in n (slots_bytes slots) in
    let a : e ≡ empty = cc in
    record { first = inl a; rest = cc }

partner_raw : (n : ℕ) (t : Text) → slots_in (suc n) (2 ∷ t) ≡ entry_in (take entry_size t) ∷ slots_in n (drop entry_size t)
unfolding slots_in slot_in record_length
partner_raw n t = refl

read_used : (n : ℕ) (e : Entry) (slots : List Entry) → is_empty e ≡ false
    → e ∷ slots ≡ slots_in (suc n) (slots_bytes (e ∷ slots)) → Read n e slots
read_used n e slots z p =
    let r = slots_bytes slots in
    let t : Text = entry_bytes e ++ r in
    let w : e ∷ slots ≡ slots_in (suc n) (2 ∷ t) = p ∙ ap (slots_in (suc n)) (partner_bytes e r z) in
    let q : e ∷ slots ≡ entry_in (take entry_size t) ∷ slots_in n (drop entry_size t) = w ∙ partner_raw n t in
    let a : e ≡ entry_in (take entry_size t) = cc in
    let k : length (entry_bytes e) ≡ entry_size = ap (λ (x : Entry). length (entry_bytes x)) a ∙ size_in (take entry_size t) in
    let v : e ∷ slots ≡ entry_in (entry_bytes e) ∷ slots_in n r = w ∙ partner_in n (entry_bytes e) r k in
    let b : entry_in (entry_bytes e) ≡ e = cc in
    record { first = inr (z, record { size = k; back = b }); rest = cc }

read : (n : ℕ) (e : Entry) (slots : List Entry) → e ∷ slots ≡ slots_in (suc n) (slots_bytes (e ∷ slots))
    → Read n e slots
read n e slots p = go (is_empty e) refl
  where
    go : (b : Bool) → is_empty e ≡ b → Read n e slots
    go true z = read_vacant n e slots z p
    go false z = read_used n e slots z p

pub legal_or : (a b : Bool) → a ≡ false → a || b ≡ true → b ≡ true
legal_or true b z h = absurd (true≢false z)
legal_or false b z h = h

pub stored_read : (slots : List Entry) → slots ≡ slots_in (length slots) (slots_bytes slots) → slots_legal slots ≡ true
    → Stored slots
unfolding slots_legal
stored_read [] p h = end
stored_read (e ∷ slots) p h =
    let r = read (length slots) e slots p in
    let l = both (is_empty e || rule.legal e) (slots_legal slots) h in
    let st = stored_read slots r.rest l.1 in
    ⊎_elim (λ a. subst (λ (x : Entry). Stored (x ∷ slots)) (sym a) (vacant st))
    (λ a. used (legal_or (is_empty e) (rule.legal e) a.0 l.0) a.1 st) r.first

-- a row of entries that fit their types, each empty or legal
pub stored_legal : (slots : List Entry) → AllHeld slots → slots_legal slots ≡ true → Stored slots
unfolding slots_legal
stored_legal [] k h = end
stored_legal (e ∷ slots) k h =
    let l = both (is_empty e || rule.legal e) (slots_legal slots) h in
    go (is_empty e) refl l.0 (stored_legal slots k.1 l.1)
  where
    kept : Kept e
    kept = held_kept e k.0

    go : (b : Bool) → is_empty e ≡ b → b || rule.legal e ≡ true → Stored slots → Stored (e ∷ slots)
    go true z h st = subst (λ (x : Entry). Stored (x ∷ slots)) (sym (is_empty_empty e kept z)) (vacant st)
    go false z h st = used h kept st

-- and of what is read of octets the entries fit their types
pub row_held : (n : ℕ) (s : Text) → all_octets s ≡ true → AllHeld (slots_in n s)
unfolding slots_in slot_in
row_held zero s o = tt
row_held (suc n) s o =
    let m = record_length (get_or s 0 0) in
    (go (eqb (get_or s 0 0) 2), row_held n (drop m s) (all_drop (λ b. ltb b 256) m s o))
  where
    go : (b : Bool) → Held (cond b (entry_in (take entry_size (drop 1 s))) empty)
    go true = entry_held (take entry_size (drop 1 s)) (octets_part s 1 entry_size o)
    go false = empty_held

pub slots_legal_stored : (slots : List Entry) → Stored slots → slots_legal slots ≡ true
unfolding slots_legal
slots_legal_stored [] end = refl
slots_legal_stored (e ∷ slots) (vacant st) = rw empty_is (slots_legal_stored slots st)
slots_legal_stored (e ∷ slots) (used h k st) = rw (legal_full e h, h) (slots_legal_stored slots st)

-- at least a byte a slot, at most 157
pub slots_size : (slots : List Entry) → Stored slots
    → (length slots ≤ length (slots_bytes slots)) × (length (slots_bytes slots) ≤ partner_size * length slots)
slots_size [] end = (omega arith, omega arith)
slots_size (e ∷ slots) (vacant st) =
    let i = slots_size slots st in
    let n = length-append (slot_bytes empty) (slots_bytes slots) in
    let m = vacant_size in
    (omega arith, omega arith)
slots_size (e ∷ slots) (used h k st) =
    let i = slots_size slots st in
    let n = length-append (slot_bytes e) (slots_bytes slots) in
    let m = used_size e h k in
    (omega arith, omega arith)
