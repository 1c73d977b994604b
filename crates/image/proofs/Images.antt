-- A table and its image: an image is decoded exactly where it is what writing a legal table gives.
use Rattle.std.specs.Prelude.{Option, None, Some}
use mathlib.Core.Path.{◌≡◌, refl, sym, ap, ◌∙◌, subst}
use mathlib.Core.Bool.{Bool, true, false, cond, ◌&&◌, true≢false}
use mathlib.Core.List.{◌∷◌, ◌++◌}
use Prim.Native.Nat.{ℕ, ◌≤◌}
use native.Mathlib.Omega.{arith}
use lib.Dec.{eqb, ltb}
use lib.ListN.{length, take, drop, length-append}
use lib.Seq.{take_at, drop_at}
use borrow.Author.Tests.{eqb-true, eq-eqb}
use Rattle.octets.specs.Text.{Text, same}
use Rattle.octets.specs.Part.{all_octets, found}
use Rattle.octets.proofs.Comparing.{both, same_equal, same_self, all_drop}
use Rattle.partner.specs.Legal as rule
use Rattle.partner.proofs.Naming.{filled_length}
use Rattle.partner.specs.Table.{Table, legal, slots_legal, identities, apart, AllHeld}
use Rattle.image.specs.Image.{encode, slots_bytes, slots_in, table_in, decode, front_size, smallest, largest}
use Rattle.image.proofs.Slots.{Stored, slots_back, stored_read, slots_size, row_held}

-- ---- a legal table, rule by rule

pub record Rules (t : Table) : Type 0 where
  pub slots_64 : length t.slots ≡ 64
  pub own_filled : rule.is_filled t.own ≡ true
  pub each_legal : slots_legal t.slots ≡ true
  pub all_apart : apart (t.own ∷ identities t.slots) ≡ true

four : (a b c d : Bool) → a && b && c && d ≡ true
    → (a ≡ true) × ((b ≡ true) × ((c ≡ true) × (d ≡ true)))
four a b c d h =
    let x = both (a && b && c) d h in
    let y = both (a && b) c x.0 in
    let z = both a b y.0 in
    (z.0, (z.1, (y.1, x.1)))

pub rules : (t : Table) → legal t ≡ true → Rules t
unfolding legal
rules t h =
    let f = four (eqb (length t.slots) 64) (rule.is_filled t.own) (slots_legal t.slots)
    (apart (t.own ∷ identities t.slots)) h in
    record {
      slots_64 = eqb-true (length t.slots) 64 f.0;
      own_filled = f.1.0;
      each_legal = f.1.1.0;
      all_apart = f.1.1.1;
    }

pub rules_legal : (t : Table) → Rules t → legal t ≡ true
unfolding legal
rules_legal t r =
    rw (eq-eqb (length t.slots) 64 r.slots_64, r.own_filled, r.each_legal) r.all_apart

-- ---- write, then read

pub table_back : (t : Table) → Rules t → Stored t.slots → table_in (encode t) ≡ t
unfolding table_in encode
table_back t r st =
    let n = filled_length t.own r.own_filled in
    let b = slots_bytes t.slots in
    let o : take 16 (t.own ++ b) ≡ t.own = take_at t.own b 16 n in
    let l : slots_in 64 (drop 16 (t.own ++ b)) ≡ t.slots =
    ap (slots_in 64) (drop_at t.own b 16 n) ∙ ap (λ (k : ℕ). slots_in k b) (sym r.slots_64)
    ∙ slots_back t.slots st in
    λ j. record { own = o j; slots = l j }

pub decode_encode : (t : Table) → legal t ≡ true → Stored t.slots → decode (encode t) ≡ Some t
unfolding decode
decode_encode t h st =
    rw (table_back t (rules t h) st, h, same_self (encode t))

-- ---- read, then write

-- what a decoded image is
pub record Decoded (s : Text) (t : Table) : Type 0 where
  pub text : s ≡ encode t
  pub is_legal : legal t ≡ true
  pub stored : Stored t.slots

read_back : (s : Text) (t : Table) → decode s ≡ Some t → (table_in s ≡ t) × ((legal t ≡ true) × (encode t ≡ s))
unfolding decode
read_back s t h = go (legal (table_in s)) refl (same (encode (table_in s)) s) refl h
  where
    go : (a : Bool) → legal (table_in s) ≡ a → (b : Bool) → same (encode (table_in s)) s ≡ b
        → cond (a && b) (Some (table_in s)) None ≡ Some t
        → (table_in s ≡ t) × ((legal t ≡ true) × (encode t ≡ s))
    go true p true q e =
        let i : table_in s ≡ t = cc in
        (i, (ap legal (sym i) ∙ p, ap encode (sym i) ∙ same_equal (encode (table_in s)) s q))
    go true p false q e = absurd (let z : ◌≡◌ {A = ℕ} 0 1 = cc in omega arith)
    go false p b q e = absurd (let z : ◌≡◌ {A = ℕ} 0 1 = cc in omega arith)

slots_read : (t : Table) → Rules t → table_in (encode t) ≡ t
    → t.slots ≡ slots_in (length t.slots) (slots_bytes t.slots)
unfolding table_in encode
slots_read t r e =
    let n = filled_length t.own r.own_filled in
    let b = slots_bytes t.slots in
    let l : slots_in 64 (drop 16 (t.own ++ b)) ≡ t.slots = ap (λ (u : Table). u.slots) e in
    sym l ∙ ap (slots_in 64) (drop_at t.own b 16 n) ∙ ap (λ (k : ℕ). slots_in k b) (sym r.slots_64)

pub decoded : (s : Text) (t : Table) → decode s ≡ Some t → Decoded s t
decoded s t h =
    let b = read_back s t h in
    let r = rules t b.1.0 in
    let w : table_in (encode t) ≡ t = ap table_in b.1.1 ∙ b.0 in
    record {
      text = sym b.1.1;
      is_legal = b.1.0;
      stored = stored_read t.slots (slots_read t r w) r.each_legal;
    }

-- its slots are those that are read of the image
pub slots_there : (s : Text) (t : Table) → decode s ≡ Some t → t.slots ≡ slots_in 64 (drop front_size s)
unfolding table_in
slots_there s t h = ap (λ (u : Table). u.slots) (sym (read_back s t h).0)

-- ---- sizes

pub image_size : (t : Table) → Rules t → Stored t.slots
    → (smallest ≤ length (encode t)) × (length (encode t) ≤ largest)
unfolding encode
image_size t r st =
    let n = filled_length t.own r.own_filled in
    let l = slots_size t.slots st in
    let k = r.slots_64 in
    let a = length-append t.own (slots_bytes t.slots) in
    (omega arith, omega arith)

-- ---- what is read of octets fits its types

pub held_slots : (s : Text) (t : Table) → all_octets s ≡ true → decode s ≡ Some t → AllHeld t.slots
unfolding table_in
held_slots s t o h =
    subst (λ (u : Table). AllHeld u.slots) (read_back s t h).0
    (row_held 64 (drop front_size s) (all_drop (λ b. ltb b 256) front_size s o))

-- ---- decoded or not

pub table_there : (s : Text) → found (decode s) ≡ true → (t : Table) × (decode s ≡ Some t)
table_there s h = go (decode s) refl h
  where
    go : (o : Option Table) → decode s ≡ o → found o ≡ true → (t : Table) × (decode s ≡ Some t)
    go None e h = absurd (true≢false (sym h))
    go (Some t) e h = (t, e)

pub table_missing : (s : Text) → found (decode s) ≡ false → decode s ≡ None
table_missing s h = go (decode s) refl h
  where
    go : (o : Option Table) → decode s ≡ o → found o ≡ false → decode s ≡ None
    go None e h = e
    go (Some t) e h = absurd (true≢false h)
