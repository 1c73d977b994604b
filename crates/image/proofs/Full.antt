-- The largest and the smallest image: 64 partners with different identities, and none; by computation.
use Rattle.std.specs.Prelude.{Some}
use mathlib.Core.Path.{◌≡◌, refl}
use mathlib.Core.List.{List, [], ◌∷◌, ◌++◌}
use Prim.Native.Nat.{ℕ, zero, suc, ◌+◌, ◌-◌, ◌/◌, ◌%◌}
use lib.ListN.{length}
use Rattle.octets.specs.Text.{ascii}
use Rattle.partner.specs.declared.Name.{Name}
use Rattle.partner.specs.declared.Entry.{Entry}
use Rattle.partner.specs.Examples.{entry, top, L, no_set}
use Rattle.partner.specs.Table.{Table}
use Rattle.image.specs.Image.{encode, decode, smallest, largest}
use Rattle.image.specs.Examples.{harbor, vacants}
use Rattle.image.proofs.Examples.{computes}

-- partner n, named by two digits
digits : ℕ → Name
digits n = record { bytes = (48 + n / 10) ∷ (48 + n % 10) ∷ ascii "              " }

-- n partners
partners : ℕ → List Entry
partners zero = []
partners (suc n) = entry (digits n) top 1 L 0 1 1 0 no_set no_set ∷ partners n

-- n partners and empty slots
unfoldable pub full : ℕ → Table
unfolding partners digits
full n = harbor (partners n ++ vacants (64 - n))

pub full_read : decode (encode (full 64)) ≡ Some (full 64)
unfolding computes full
full_read = refl

pub full_length : length (encode (full 64)) ≡ largest
unfolding computes full
full_length = refl

pub bare_read : decode (encode (full 0)) ≡ Some (full 0)
unfolding computes full
bare_read = refl

pub bare_length : length (encode (full 0)) ≡ smallest
unfolding computes full
bare_length = refl
