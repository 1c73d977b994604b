-- A row filled slot by slot from an image.
use Rattle.std.proofs.Common.{◌≡◌, refl, sym, ap, ◌∙◌, Bool, true, false, List, ℕ, eqb, length, drop, get_or, set, ◌+◌, ◌<◌, arith}
use Rattle.std.proofs.Math.Seq.{get_or-set_same, get_or-set_other, ext_get_or}
use borrow.Author.Tests.{eqb-true, eqb-false}
use Rattle.octets.specs.Text.{Text}
use Rattle.partner.specs.declared.Entry.{Entry}
use Rattle.partner.specs.Entry.{empty}
use Rattle.image.specs.Image.{front_size, slots_in}
use Rattle.image.proofs.Passes.{length_row}

module _ (image : Text) where
  abbrev held : List Entry
  held = slots_in 64 (drop front_size image)

  abbrev So : List Entry → ℕ → Type 0
  So zs i = (j : ℕ) → j < i → get_or zs j empty ≡ get_or held j empty

  -- one slot more
  pub next_so : (zs : List Entry) (i : ℕ) → So zs i → i < length zs → (e : Entry) → e ≡ get_or held i empty → So (set zs i e) (i + 1)
  next_so zs i so w e ee j k = go (eqb j i) refl
    where
      go : (b : Bool) → eqb j i ≡ b → get_or (set zs i e) j empty ≡ get_or held j empty
      go true q =
          let p : j ≡ i = eqb-true j i q in
          ap (λ (x : ℕ). get_or (set zs i e) x empty) p ∙ get_or-set_same zs i e empty w ∙ ee
          ∙ ap (λ (x : ℕ). get_or held x empty) (sym p)
      go false q =
          let p : j ≡ i → ⊥ = eqb-false j i q in
          get_or-set_other zs i j e empty p ∙ so j (omega arith)

  -- all are filled
  pub all_filled : (zs : List Entry) → length zs ≡ 64 → So zs 64 → zs ≡ held
  all_filled zs l so = ext_get_or empty zs held (l ∙ sym (length_row 64 (drop front_size image))) (λ j h. so j (omega arith))
