-- An entry of the partner table in units: its top key with name and form, what it sends, what it receives (document 01,
-- "Partner table").
use Rattle.std.specs.Prelude.{cond, List, [], ◌∷◌, ◌++◌, ℕ, ◌+◌, eqb, ltb, take}
use Rattle.octets.specs.Text.{Text, blank}
use Rattle.octets.specs.Number.{copies}
use Rattle.keying.specs.declared.Top.{Top}
use Rattle.keying.specs.declared.Top.TheVariants.{Single, Pair}
use Rattle.partner.specs.declared.Name.{Name}
use Rattle.partner.specs.declared.DataKey.{DataKey}
use Rattle.partner.specs.declared.KeySet.{KeySet}
use Rattle.partner.specs.declared.TopKey.{TopKey}
use Rattle.partner.specs.declared.Entry.{Entry}

-- ---- names: 1 to 16 characters, filled with blanks; a missing one is 16 blanks

abbrev pub blanks : Text
blanks = copies 16 blank

-- a text filled with blanks to 16 bytes
unfoldable pub filled : Text → Text
filled w = take 16 (w ++ blanks)

abbrev pub name_of : Text → Name
name_of w = record { bytes = filled w }

-- ---- counts end here

abbrev pub limit : ℕ
limit = 99_999_999

-- one more, and no further than that
unfoldable pub risen : ℕ → ℕ
risen n = cond (ltb n limit) (n + 1) limit

-- ---- phases

abbrev pub idle : ℕ
idle = 0

abbrev pub waiting : ℕ
waiting = 1

abbrev pub confirmed : ℕ
confirmed = 2

abbrev pub broken : ℕ
broken = 3

-- ---- key forms

abbrev pub single : ℕ
single = 1

abbrev pub pair : ℕ
pair = 2

-- ---- keys

-- the top key, single or pair
unfoldable pub top_of : TopKey → Top
top_of k = cond (eqb k.form pair) (Pair k.left k.right) (Single k.left)

-- the data keys of a set with their names, and the keys alone
unfoldable pub places : KeySet → List DataKey
places set = take set.count (set.first ∷ set.second ∷ [])

abbrev pub keys_of : List DataKey → List ℕ
keys_of [] = []
keys_of (k ∷ ks) = k.key ∷ keys_of ks

unfoldable pub keys_in : KeySet → List ℕ
keys_in set = keys_of (places set)

-- an unused key place is zero, and so is an empty slot
abbrev pub zero_name : Name
zero_name = record { bytes = copies 16 0 }

abbrev pub unused : DataKey
unused = record { key = 0; name = zero_name }

abbrev pub no_keys : KeySet
no_keys = record { count = 0; first = unused; second = unused }

abbrev pub one_key : DataKey → KeySet
one_key k = record { count = 1; first = k; second = unused }

abbrev pub two_keys : DataKey → DataKey → KeySet
two_keys k l = record { count = 2; first = k; second = l }

unfoldable pub empty : Entry
empty = record {
  identity = zero_name;
  top = record { name = zero_name; form = 0; left = 0; right = 0 };
  sending = record { next = 0; phase = 0; outgoing = no_keys };
  receiving = record { expected = 0; incoming = no_keys };
}
