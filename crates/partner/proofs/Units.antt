-- An entry is legal exactly when its units are as the rules ask.
use mathlib.Core.Path.{◌≡◌, refl, sym, ◌∙◌}
use mathlib.Core.Bool.{Bool, true, false, ◌&&◌}
use Prim.Native.Nat.{ℕ, zero, suc}
use native.Mathlib.Omega.{arith}
use lib.Dec.{ltb}
use borrow.Author.Tests.{le-leb, le-ltb}
use Rattle.octets.specs.Text.{within}
use Rattle.octets.proofs.Comparing.{both, join, iff}
use Rattle.partner.specs.declared.KeySet.{KeySet}
use Rattle.partner.specs.declared.Entry.{Entry}
use Rattle.partner.specs.Entry.{limit}
use Rattle.partner.specs.Legal.{is_filled, is_named, is_unused, set_named, set_clean, form_clean, top_odd, idle_at_1}
use Rattle.partner.specs.Legal.{idle_right, count_in_phase, outgoing_right, count_if, incoming_right, legal}
use Rattle.partner.specs.Units.{top_right, sending_right, receiving_right, place_formed, set_formed, units_right}
use Rattle.partner.proofs.Keeping.{rules, whole}

-- a set place by place: named where it is used, clean where it is not
formed_set : (set : KeySet) → set_formed set ≡ (set_named set && set_clean set)
unfolding set_formed place_formed set_named set_clean
formed_set set = go set.count
  where
    with_yes : (a b : Bool) → a && b ≡ (a && true) && b
    with_yes true b = refl
    with_yes false b = refl

    and_yes : (a : Bool) → a ≡ a && true
    and_yes true = refl
    and_yes false = refl

    go : (n : ℕ)
        → set_formed (record { count = n; first = set.first; second = set.second })
        ≡ (set_named (record { count = n; first = set.first; second = set.second }) && set_clean (record { count = n; first = set.first; second = set.second }))
    go zero = refl
    go (suc zero) = with_yes (is_named set.first) (is_unused set.second)
    go (suc (suc n)) =
        let m = suc (suc n) in
        rw (le-leb 1 m (omega arith), le-leb 2 m (omega arith), le-ltb m 1 (omega arith), le-ltb m 2 (omega arith))
        (and_yes (is_named set.first && is_named set.second))

pub legal_units : (e : Entry) → legal e ≡ units_right e
unfolding units_right top_right sending_right receiving_right idle_right outgoing_right incoming_right
legal_units e = iff (legal e) (units_right e) there back
  where
    set : (set : KeySet) → set_named set ≡ true → set_clean set ≡ true → set_formed set ≡ true
    set k named clean = formed_set k ∙ join named clean

    there : legal e ≡ true → units_right e ≡ true
    there h =
        let r = rules e h in
        let top = join (join r.name_filled r.form_clean) r.top_odd in
        let sending = join (join r.next_right r.idle_right) r.outgoing_right in
        let outgoing = set e.sending.outgoing r.outgoing_named r.outgoing_clean in
        let receiving = join r.expected_right r.incoming_right in
        let incoming = set e.receiving.incoming r.incoming_named r.incoming_clean in
        join (join (join (join (join r.identity_filled top) sending) outgoing) receiving) incoming

    apart : (k : KeySet) → set_formed k ≡ true → (set_named k ≡ true) × (set_clean k ≡ true)
    apart k h = both (set_named k) (set_clean k) (sym (formed_set k) ∙ h)

    back : units_right e ≡ true → legal e ≡ true
    back h =
        let f = both _ (set_formed e.receiving.incoming) h in
        let r = both _ (receiving_right e.receiving.expected e.receiving.incoming.count) f.0 in
        let o = both _ (set_formed e.sending.outgoing) r.0 in
        let s = both _ (sending_right e.sending.next e.sending.phase e.sending.outgoing.count) o.0 in
        let t = both (is_filled e.identity.bytes) (top_right e.top) s.0 in
        let top = both _ (top_odd e.top) t.1 in
        let named = both (is_filled e.top.name.bytes) (form_clean e.top) top.0 in
        let sending = both _ (count_in_phase e.sending.phase e.sending.outgoing.count) s.1 in
        let counted = both (within 1 limit e.sending.next) (idle_at_1 e.sending.phase e.sending.next) sending.0 in
        let expected = both (within 1 limit e.receiving.expected)
        (count_if (ltb 1 e.receiving.expected) e.receiving.incoming.count) r.1 in
        let outgoing = apart e.sending.outgoing o.1 in
        let incoming = apart e.receiving.incoming f.1 in
        whole e (record {
          identity_filled = t.0;
          name_filled = named.0;
          outgoing_named = outgoing.0;
          incoming_named = incoming.0;
          form_clean = named.1;
          outgoing_clean = outgoing.1;
          incoming_clean = incoming.1;
          top_odd = top.1;
          next_right = counted.0;
          expected_right = expected.0;
          idle_right = counted.1;
          outgoing_right = sending.1;
          incoming_right = expected.1;
        })
