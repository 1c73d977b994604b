-- A row's records counted and written, slot by slot.
use Rattle.std.proofs.Common.{◌≡◌, sym, ap, ◌∙◌, List, [], ◌∷◌, ◌++◌, ℕ, zero, suc, ◌+◌, ◌<◌, length, take, get_or, append_assoc, append-nil, add-one}
use native.Mathlib.Nat.{le_of_suc-le-suc, not-suc-le-zero}
use Rattle.octets.specs.Text.{Text}
use Rattle.partner.specs.declared.Entry.{Entry}
use Rattle.image.specs.Image.{slot_bytes, slots_bytes}

-- one slot more is written
pub next_written : (ys : List Entry) (i : ℕ) (d : Entry) → i < length ys
    → slots_bytes (take i ys) ++ slot_bytes (get_or ys i d) ≡ slots_bytes (take (i + 1) ys)
next_written ys i d h = go ys i h ∙ rw (add-one i)
  where
    go : (ys : List Entry) (i : ℕ) → i < length ys → slots_bytes (take i ys) ++ slot_bytes (get_or ys i d) ≡ slots_bytes (take (suc i) ys)
    go [] i h = absurd (not-suc-le-zero h)
    go (y ∷ ys) zero h = sym (append-nil (slot_bytes y))
    go (y ∷ ys) (suc i) h =
        append_assoc (slot_bytes y) (slots_bytes (take i ys)) (slot_bytes (get_or ys i d))
        ∙ ap (λ (t : Text). slot_bytes y ++ t) (go ys i (le_of_suc-le-suc h))
