-- A legal table's rules one by one, and one partner's entry in it.
use Rattle.std.specs.Prelude.{None, Some}
use mathlib.Core.Path.{◌≡◌, ap, ◌∙◌}
use mathlib.Core.Bool.{true}
use mathlib.Core.List.{◌∷◌}
use lib.Dec.{eqb}
use lib.ListN.{length}
use Rattle.octets.specs.Text.{Text, is_name}
use Rattle.octets.specs.Part.{bare}
use Rattle.octets.proofs.Comparing.{both as and_true}
use Rattle.csm.proofs.TextLaws.{none_some}
use Rattle.partner.specs.declared.Entry.{Entry}
use Rattle.partner.specs.declared.Name.{Name}
use Rattle.partner.specs.Entry.{empty, filled}
use Rattle.partner.specs.Legal as partner
use Rattle.partner.proofs.Naming.{filled_name}
use Rattle.partner.proofs.Claims.{claims}
use Rattle.partner.specs.Table.{Table, slots_legal, identities, differs, apart, find, put, legal}
use Rattle.calls.specs.Words.{in_case◌then◌else◌}
use Rattle.calls.specs.Outcome.{Turn}
use Rattle.calls.specs.Calls.{After, entry_of}
use Rattle.partner.specs.Table.{holding}
use Rattle.calls.proofs.Tests.{if_true, by_test}
use Rattle.calls.proofs.Slots.{find_identity, find_put, legal_find}
use Rattle.calls.proofs.Identities.{find_emptied}

pub record Legal (t : Table) : Type 0 where
  pub size : eqb (length t.slots) 64 ≡ true
  pub own : partner.is_filled t.own ≡ true
  pub entries : slots_legal t.slots ≡ true
  pub differ : apart (t.own ∷ identities t.slots) ≡ true

pub legal_parts : (t : Table) → legal t ≡ true → Legal t
unfolding legal
legal_parts t h =
    let a = and_true _ (apart (t.own ∷ identities t.slots)) h in
    let b = and_true _ (slots_legal t.slots) a.0 in
    let c = and_true (eqb (length t.slots) 64) (partner.is_filled t.own) b.0 in
    record { size = c.0; own = c.1; entries = b.1; differ = a.1 }

pub legal_whole : (t : Table) → Legal t → legal t ≡ true
unfolding legal
legal_whole t h = rw (h.size, h.own, h.entries, h.differ)

-- our identity bare is a name
pub own_name : (t : Table) → legal t ≡ true → is_name (bare t.own) ≡ true
own_name t h = filled_name t.own (legal_parts t h).own

-- ---- one partner's entry

pub record Held (t : Table) (id : Text) (e : Entry) : Type 0 where
  pub name : is_name id ≡ true
  pub found : find (filled id) t.slots ≡ Some e
  pub identity : e.identity.bytes ≡ filled id
  pub bare_identity : bare e.identity.bytes ≡ id

pub held : (t : Table) (id : Text) (e : Entry) → is_name id ≡ true → find (filled id) t.slots ≡ Some e → Held t id e
held t id e n f =
    let i = find_identity (filled id) t.slots e f in
    record { name = n; found = f; identity = i; bare_identity = ap bare i ∙ claims.bare_after_filled id n }

pub entry_held : (t : Table) (id : Text) (e : Entry) → entry_of id t ≡ Some e → Held t id e
unfolding in_case◌then◌else◌
entry_held t id e h =
    by_test (is_name id) (λ q. held t id e q (rw q at h)) (λ q. absurd (none_some e (rw q at h)))

pub held_legal : (t : Table) (id : Text) (e : Entry) → legal t ≡ true → Held t id e → partner.legal e ≡ true
held_legal t id e h k =
    legal_find (filled id) (claims.filled_is_filled id k.name) t.slots e (legal_parts t h).entries k.found

-- ---- the entry afterwards

-- the table with a partner's entry turned
abbrev pub put_back : Table → Text → Turn → After
put_back t id r = record { outcome = r.outcome; table = holding t (put (filled id) r.entry t.slots) }

pub turned_after : (t : Table) (id : Text) (e f : Entry) → Held t id e → f.identity ≡ e.identity
    → entry_of id (holding t (put (filled id) f t.slots)) ≡ Some f
turned_after t id e f h i =
    if_true (is_name id) _ _ h.name
    ∙ find_put (filled id) t.slots e f h.found (ap (λ (n : Name). n.bytes) i ∙ h.identity)

pub emptied_after : (t : Table) (id : Text) (e : Entry) → legal t ≡ true → Held t id e
    → entry_of id (holding t (put (filled id) empty t.slots)) ≡ None
emptied_after t id e l h =
    if_true (is_name id) _ _ h.name
    ∙ find_emptied (filled id) (claims.filled_is_filled id h.name) t.slots
    (and_true (differs t.own (identities t.slots)) _ (legal_parts t l).differ).1
