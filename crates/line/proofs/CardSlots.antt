-- Looking one partner up after a call about another, and after it was loaded.
use Rattle.std.specs.Prelude.{Option, None, Some}
use mathlib.Core.Path.{◌≡◌, refl, sym, ap, ◌∙◌}
use mathlib.Core.Bool.{true, false, cond}
use mathlib.Core.List.{List, ◌∷◌}
use mathlib.Core.Logic.{◌≢◌}
use Rattle.octets.specs.Text.{Text, same, is_name}
use Rattle.octets.proofs.Comparing.{differs_same, same_self as same_refl}
use Rattle.csm.proofs.TextLaws.{none_some}
use Rattle.partner.specs.declared.Entry.{Entry}
use Rattle.partner.specs.Entry.{filled}
use Rattle.partner.specs.Legal as partner
use Rattle.partner.specs.Table.{Table, find}
use Rattle.calls.specs.Calls.{entry_of}
use Rattle.calls.specs.Claims.{Slot, kept, turned, placed, emptied, Slotwise, end, next}
use Rattle.calls.proofs.Tests.{if_true, if_false, by_test}
use Rattle.calls.proofs.Slots.{empty_is, empty_nobody}
use Rattle.calls.proofs.Identities.{Places, here, later}

-- a partner is found as before where every other slot stays
pub row_find : (id other : Text) → partner.is_filled other ≡ true → id ≢ other → {l m : List Entry} → Slotwise id l m
    → find other m ≡ find other l
row_find id other named away end = refl
row_find id other named away (next {l = l} {m = m} s r) = step s (row_find id other named away r)
  where
    not_that : (e : Entry) → e.identity.bytes ≡ id → same e.identity.bytes other ≡ false
    not_that e h = differs_same e.identity.bytes other (λ g. away (sym h ∙ g))

    step : {e f : Entry} → Slot id e f → find other m ≡ find other l → find other (f ∷ m) ≡ find other (e ∷ l)
    step (kept e) ih = ap (λ (o : Option Entry). cond (same e.identity.bytes other) (Some e) o) ih
    step (turned e f p q) ih = rw (not_that e p, not_that f q) ih
    step (placed e f p q) ih = rw (empty_nobody e other p named, not_that f q) ih
    step (emptied e p) ih = rw (not_that e p, empty_nobody Rattle.partner.specs.Entry.empty other empty_is named) ih

-- an entry that was placed is found, where there was none of its identity
pub find_placed : (x : Entry) {l m : List Entry} → Places x l m → find x.identity.bytes l ≡ None
    → find x.identity.bytes m ≡ Some x
find_placed x (here e l q) h = rw (same_refl x.identity.bytes)
find_placed x (later e {l = l} {m = m} p) h =
    by_test (same e.identity.bytes x.identity.bytes) (λ q. absurd (none_some e (sym (rw q at h))))
    (λ q. rw q (find_placed x p (rw q at h)))

-- a partner's entry by its name
pub entry_named : (id : Text) (t : Table) → is_name id ≡ true → entry_of id t ≡ find (filled id) t.slots
entry_named id t h = if_true (is_name id) (find (filled id) t.slots) None h

pub entry_unnamed : (id : Text) (t : Table) → is_name id ≡ false → entry_of id t ≡ None
entry_unnamed id t h = if_false (is_name id) (find (filled id) t.slots) None h
