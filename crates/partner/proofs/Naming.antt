-- Laws of names: a text filled up, and the name and its 16 bytes.
use mathlib.Core.Path.{◌≡◌, refl, sym, ap, ◌∙◌}
use mathlib.Core.Bool.{Bool, true, false, ◌&&◌, true≢false}
use mathlib.Core.List.{[], ◌∷◌, ◌++◌, append-nil}
use Prim.Native.Nat.{ℕ, zero, suc, ◌+◌, ◌-◌, ◌≤◌}
use Prim.Native.Char.{code}
use native.Mathlib.Omega.{arith}
use lib.Dec.{eqb, leb}
use lib.ListN.{length, take, length-append, length-take}
use lib.Seq.{take_at}
use borrow.Author.Tests.{ne_eqb, leb-true}
use Rattle.octets.specs.Text.{Text, blank, all, free, same, within, run_char, is_name}
use Rattle.octets.specs.Part.{before, bare}
use Rattle.octets.specs.Number.{copies}
use Rattle.octets.proofs.Comparing.{both, same_equal, same_self}
use Rattle.octets.proofs.Parting.{before_first, bare_free}
use Rattle.octets.proofs.Numbers.{length_copies}
use Rattle.octets.proofs.Parts.{take_copies}
use Rattle.partner.specs.declared.Name.{Name}
use Rattle.partner.specs.Entry.{blanks, filled}
use Rattle.partner.specs.Legal.{is_filled}

pub name_as : {v w : Text} → v ≡ w → ◌≡◌ {A = Name} (record { bytes = v }) (record { bytes = w })
name_as e = λ j. record { bytes = e j }

-- ---- a name and its 16 bytes

-- a name has no blank
name_free : (w : Text) → all (run_char (code "Z")) w ≡ true → free blank w ≡ true
name_free [] h = refl
name_free (x ∷ w) h =
    let t = both (run_char (code "Z") x) (all (run_char (code "Z")) w) h in
    let n : eqb x blank ≡ false = ne_eqb x blank (λ e. true≢false (sym t.0 ∙ ap (run_char (code "Z")) e)) in
    rw n (name_free w t.1)

bare_append : (w : Text) (n : ℕ) → free blank w ≡ true → bare (w ++ copies n blank) ≡ w
bare_append w zero h = ap bare (append-nil w) ∙ bare_free w h
bare_append w (suc n) h =
    let b : before blank (w ++ copies (suc n) blank) ≡ length w = before_first blank w (copies n blank) h in
    ap (λ (k : ℕ). take k (w ++ copies (suc n) blank)) b ∙ take_at w (copies (suc n) blank) (length w) refl

pub append_copies : (w : Text) (k j n b : ℕ) → length w + n ≡ k → k ≤ j → take k (w ++ copies j b) ≡ w ++ copies n b
append_copies [] k j n b l h =
    let e : k ≡ n = omega arith in
    take_copies k j b h ∙ ap (λ (m : ℕ). copies m b) e
append_copies (x ∷ w) zero j n b l h = absurd (omega arith)
append_copies (x ∷ w) (suc k) j n b l h =
    ap (λ (t : Text). x ∷ t) (append_copies w k j n b (omega arith) (omega arith))

pub name_parts : (w : Text) → is_name w ≡ true → (free blank w ≡ true) × (length w ≤ 16)
name_parts w h =
    let t = both (all (run_char (code "Z")) w) (within 1 16 (length w)) h in
    let s = both (leb 1 (length w)) (leb (length w) 16) t.1 in
    (name_free w t.0, leb-true (length w) 16 s.1)

pub bare_filled : (w : Text) → is_name w ≡ true → bare (filled w) ≡ w
unfolding filled
bare_filled w h =
    let p = name_parts w h in
    let n = 16 - length w in
    ap bare (append_copies w 16 16 n blank (omega (arith, p.1)) (omega arith)) ∙ bare_append w n p.0

pub filled_filled : (w : Text) → is_name w ≡ true → is_filled (filled w) ≡ true
unfolding is_filled
filled_filled w h =
    let b = bare_filled w h in
    ap (λ (t : Text). is_name t && same (filled w) (filled t)) b
    ∙ ap (λ (x : Bool). x && same (filled w) (filled w)) h ∙ same_self (filled w)

pub filled_bare : (s : Text) → is_filled s ≡ true → filled (bare s) ≡ s
unfolding is_filled
filled_bare s h = sym (same_equal s (filled (bare s)) (both (is_name (bare s)) (same s (filled (bare s))) h).1)

pub length_filled : (w : Text) → length (filled w) ≡ 16
unfolding filled
length_filled w =
    length-take 16 (w ++ copies 16 blank) ∙ omega (arith, length-append w (copies 16 blank), length_copies 16 blank)

-- what is filled is the field of a name, and has 16 bytes
pub filled_name : (s : Text) → is_filled s ≡ true → is_name (bare s) ≡ true
unfolding is_filled
filled_name s h = (both (is_name (bare s)) (same s (filled (bare s))) h).0

pub filled_length : (s : Text) → is_filled s ≡ true → length s ≡ 16
filled_length s h = ap length (sym (filled_bare s h)) ∙ length_filled (bare s)

-- two names with one field are one name, and two fields with one name one field
pub filled_same : (v w : Text) → is_name v ≡ true → is_name w ≡ true → filled v ≡ filled w → v ≡ w
filled_same v w g h e = sym (bare_filled v g) ∙ ap bare e ∙ bare_filled w h

pub blanks_unnamed : is_filled blanks ≡ false
unfolding is_filled
blanks_unnamed = refl
