-- Start and image reading, which fill a row: of it they ask only that it has 64 slots (document 01, "Answers"). Image
-- writing, which asks for the image's size.
use Rattle.std.specs.Prelude.{not, List, [], ◌∷◌, ℕ, ◌+◌, eqb, length}
use Rattle.octets.specs.Text.{Text, is_name}
use Rattle.octets.specs.First.{first}
use Rattle.octets.specs.Part.{found}
use Rattle.partner.specs.declared.Entry.{Entry}
use Rattle.image.specs.Image.{front_size, decode, slots_bytes}

-- start: 13, 10
unfoldable pub start_answer : Text → ℕ → ℕ
start_answer own slots = first ((not (eqb slots 64), 13) ∷ (not (is_name own), 10) ∷ [])

-- image reading: 13
unfoldable pub read_answer : Text → ℕ → ℕ
read_answer image slots = first ((not (eqb slots 64), 13) ∷ (not (found (decode image)), 13) ∷ [])

-- the size of an image: our identity's record and the slots'
abbrev pub size : List Entry → ℕ
size slots = front_size + length (slots_bytes slots)
