-- `writer::digits::put_vector` meets its contract: the text and the digits, then a blank. Assumes nothing.
use mathlib.Core.List.{[], ◌∷◌, append_assoc}
use Rattle.octets.specs.Text.{blank}
use Rattle.csm.specs.Fields.{hex_text}
use Rattle.octets.proofs.Writing.{wrote_rest, wrote_as}
use Rattle.writer.proofs.digits.put_vector.Goals as goal

pub returns : goal.returns
returns c =
    let a = c.args in
    wrote_as (append_assoc a.front.now (hex_text 16 a.x) (blank ∷ [])) (search wrote_rest)
