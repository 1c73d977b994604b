-- Behind a text p, what is found in r is found as many bytes further on as p has, under the same number.
use mathlib.Core.Path.{◌≡◌, refl, sym, ap, ◌∙◌}
use mathlib.Core.List.{◌++◌}
use Prim.Native.Nat.{ℕ, zero, suc, ◌+◌}
use native.Mathlib.Nat.{add_assoc}
use lib.ListN.{length, drop, get_or}
use lib.Seq.{get_or-append-add, drop-append-add}
use Rattle.octets.specs.Text.{Text}
use Rattle.image.specs.Image.{record_length}
use Rattle.image.specs.Places.{seek_slot, seek_free, past, entry_at}

module _ (p r : Text) (a : ℕ) (size : length p ≡ a) where
  pub byte_shift : (k : ℕ) → get_or (p ++ r) (a + k) 0 ≡ get_or r k 0
  byte_shift k = ap (λ (i : ℕ). get_or (p ++ r) (i + k) 0) (sym size) ∙ get_or-append-add p r k 0

  pub drop_shift : (k m : ℕ) → drop (a + k + m) (p ++ r) ≡ drop (k + m) r
  drop_shift k m =
      ap (λ (i : ℕ). drop i (p ++ r)) (ap (λ (i : ℕ). i + k + m) (sym size) ∙ add_assoc (length p) k m)
      ∙ drop-append-add p r (k + m)

  pub seek_shift : (n k j : ℕ) (id : Text) → seek_slot n k (a + j) id (p ++ r) ≡ seek_slot n k j id r
  unfolding seek_slot
  seek_shift zero k j id = refl
  seek_shift (suc n) k j id =
      let m = record_length (get_or r j 0) in
      let i : seek_slot n (k + 1) (a + j + m) id (p ++ r) ≡ seek_slot n (k + 1) (j + m) id r =
      ap (λ (x : ℕ). seek_slot n (k + 1) x id (p ++ r)) (add_assoc a j m) ∙ seek_shift n (k + 1) (j + m) id in
      rw (byte_shift j, drop_shift j 1, i)

  pub free_shift : (n k j : ℕ) → seek_free n k (a + j) (p ++ r) ≡ seek_free n k j r
  unfolding seek_free
  free_shift zero k j = refl
  free_shift (suc n) k j =
      let m = record_length (get_or r j 0) in
      let i : seek_free n (k + 1) (a + j + m) (p ++ r) ≡ seek_free n (k + 1) (j + m) r =
      ap (λ (x : ℕ). seek_free n (k + 1) x (p ++ r)) (add_assoc a j m) ∙ free_shift n (k + 1) (j + m) in
      rw (byte_shift j, i)

  pub past_shift : (n j : ℕ) → past n (a + j) (p ++ r) ≡ a + past n j r
  unfolding past
  past_shift zero j = refl
  past_shift (suc n) j =
      let m = record_length (get_or r j 0) in
      rw (byte_shift j) (ap (λ (x : ℕ). past n x (p ++ r)) (add_assoc a j m) ∙ past_shift n (j + m))

  pub entry_shift : (k : ℕ) → entry_at (a + k) (p ++ r) ≡ entry_at k r
  unfolding entry_at
  entry_shift k = rw (drop_shift k 1)
