-- A card that was started, or that was just loaded for the other, is fresh; one that has the other is not loaded again.
use Rattle.std.specs.Prelude.{None, Some}
use mathlib.Core.Path.{◌≡◌, refl, sym, ◌∙◌, subst}
use mathlib.Core.Bool.{true}
use mathlib.Core.List.{List}
use mathlib.Core.Logic.{◌≢◌, inl, inr}
use Prim.Native.Nat.{ℕ, zero, suc}
use native.Mathlib.Omega.{arith}
use Rattle.octets.specs.Text.{Text, is_name}
use Rattle.octets.specs.Part.{bare}
use Rattle.keying.specs.declared.Top.{Top}
use Rattle.partner.specs.declared.Entry.{Entry}
use Rattle.partner.specs.Entry.{empty, filled}
use Rattle.partner.specs.Legal.{is_filled}
use Rattle.partner.specs.Table.{Table, find}
use Rattle.calls.specs.Words.{in_case◌then◌else◌}
use Rattle.calls.specs.Calls.{load, After, entry_of, run, start}
use Rattle.partner.specs.Table.{holding, empties}
use Rattle.csm.proofs.TextLaws.{none_some, some_inj}
use Rattle.calls.proofs.Tests.{by_test}
use Rattle.calls.proofs.Turns.{refusing_not_0}
use Rattle.calls.proofs.Effects.{Walk, stops, places, run_walk}
use Rattle.partner.proofs.Naming.{bare_filled, filled_filled}
use Rattle.calls.proofs.Slots.{empty_is, empty_nobody}
use Rattle.line.specs.Line.{Fresh}
use Rattle.line.proofs.CardSlots.{entry_named, entry_unnamed}
use Rattle.line.proofs.CardRun.{Loads, loads_one}

-- nobody is in empty slots
find_empties : (id : Text) → is_filled id ≡ true → (n : ℕ) → find id (empties n) ≡ None
unfolding empties
find_empties id h zero = refl
find_empties id h (suc n) = rw (empty_nobody empty id empty_is h) (find_empties id h n)

abbrev table_of : Text → Table
table_of own = record { own = filled own; slots = empties 64 }

pub started : (name : Text) (top : Top) (own other : Text) (t : Table) → start own ≡ Some t → Fresh name top own other t
unfolding start in_case◌then◌else◌
started name top own other t h =
    by_test (is_name own)
    (λ q. let p : Some (table_of own) ≡ Some t = rw q at h in
    subst (λ (x : Table). Fresh name top own other x) (some_inj p)
    (record {
      identity = bare_filled own q;
      entry = inl (by_test (is_name other) vacant (entry_unnamed other (table_of own)));
    }))
    (λ q. absurd (none_some t (rw q at h)))
  where
    vacant : is_name other ≡ true → entry_of other (table_of own) ≡ None
    vacant q = entry_named other (table_of own) q ∙ find_empties (filled other) (filled_filled other q) 64

-- a load that is done
load_done : (id key_name : Text) (key : Top) (t : Table) → (run t (load id key_name key)).outcome.answer ≡ 0
    → (m : List Entry) × ((run t (load id key_name key)).table ≡ holding t m) × Loads id key_name key t m
load_done id key_name key t = go (run_walk t (load id key_name key))
  where
    go : {y : After} → Walk t (load id key_name key) y → y.outcome.answer ≡ 0
        → (m : List Entry) × (y.table ≡ holding t m) × Loads id key_name key t m
    go (stops c n k) z = absurd (refusing_not_0 n k z)
    go (places _ _ _ m l named free n o h) z = (m, refl, loads_one id key_name key t m named free h)

pub just_loaded : (name : Text) (top : Top) (own other : Text) (t : Table) → bare t.own ≡ own
    → (run t (load other name top)).outcome.answer ≡ 0 → Fresh name top own other (run t (load other name top)).table
just_loaded name top own other t ours done =
    let d = load_done other name top t done in
    subst (λ (u : Table). Fresh name top own other u) (sym d.1)
    (record { identity = ours; entry = inr d.2.present })

-- who is in the table is not loaded
pub loaded_once : (other key_name : Text) (key : Top) (t : Table) (e : Entry) → entry_of other t ≡ Some e
    → (run t (load other key_name key)).outcome.answer ≢ 0
loaded_once other key_name key t e there done =
    let n : entry_of other t ≡ None = (load_done other key_name key t done).2.absent in
    let z : ◌≡◌ {A = ℕ} 0 1 = cc in omega arith
