-- `image::slot` meets its contract: by the kind of the record.
use mathlib.Core.Path.{◌≡◌, sym, ap, ◌∙◌}
use Prim.Native.Nat.{ℕ}
use lib.ListN.{get_or, drop}
use Rattle.octets.specs.Text.{Text}
use Rattle.image.specs.Image.{front_size}
use Rattle.image.specs.Places.{slot_place, entry_at}
use Rattle.image.proofs.Standing.{past_64, partner_there, nobody_there}
use Rattle.image.proofs.slot.Goals.{then-slot-lt-SLOTS+else-byte_at-eq-PARTNER, else-slot-lt-SLOTS}
use Rattle.image.proofs.slot.Goals as goal

pub returns-then-byte_at-eq-PARTNER : goal.returns-then-byte_at-eq-PARTNER
returns-then-byte_at-eq-PARTNER c =
    let a = c.args in
    let im : Text = a.image.now in
    let at = c.slot_place-at.ensures.value in
    let k : get_or im (slot_place a.slot im) 0 ≡ 2 =
    ap (λ (p : ℕ). get_or im p 0) (sym at) ∙ sym c.byte_at.ensures ∙ c.if-byte_at-eq-PARTNER.true in
    c.entry_at.ensures ∙ ap (λ (p : ℕ). entry_at p im) at
    ∙ partner_there a.slot im c.if-slot-lt-SLOTS.true k

pub returns : goal.returns
returns c =
    let a = c.args in
    let im : Text = a.image.now in
    c.empty.ensures ∙ elim c.if-slot-lt-SLOTS.branch [
      | then-slot-lt-SLOTS+else-byte_at-eq-PARTNER w ↦
          let at = w.slot_place-at.ensures.value in
          nobody_there a.slot im w.if-slot-lt-SLOTS.true (λ z.
          w.if-byte_at-eq-PARTNER.false (w.byte_at.ensures ∙ ap (λ (p : ℕ). get_or im p 0) at ∙ z))
      | else-slot-lt-SLOTS w ↦ past_64 a.slot (drop front_size im) w.if-slot-lt-SLOTS.false
    ]
