-- `writer::kd::put_kd` meets its contract: tag and digits, subfields, blank, one after the other. Assumes nothing.
use mathlib.Core.Path.{◌≡◌}
use mathlib.Core.List.{[], ◌∷◌, ◌++◌, append_assoc}
use Rattle.octets.specs.Text.{Text, ascii, blank}
use Rattle.octets.proofs.Writing.{wrote_rest, wrote_as}
use Rattle.csm.specs.Fields.{hex_text, subfields, nonempty}
use Rattle.writer.proofs.kd.put_kd.Goals as goal

-- the tag, the digits, the subfields and the blank, grouped as the format has them
grouped : (t h s b : Text) → ((t ++ h) ++ s) ++ b ≡ t ++ ((h ++ s) ++ b)
grouped t h s b = simp append_assoc

pub returns : goal.returns
returns c =
    let key = c.args.key.now in
    let h = hex_text 16 key.sealed in
    let idk1 = c.bare-idk1.ensures in
    let idk2 = c.bare-idk2.ensures in
    wrote_as
    (λ i. grouped (ascii "KD/") h (subfields key.p (nonempty (idk1 i)) (nonempty (idk2 i))) (blank ∷ []) i)
    (search wrote_rest)
