-- Worked examples of a table and its image: a small image byte by byte, what is not legal, and one partner's slot found,
-- given new contents, filled and emptied (document 01, "Partner table" and "Stored image"). Proved as `examples` in
-- proofs/Examples.antt.
use Rattle.std.specs.Prelude.{◌≡◌, true, false, List, [], ◌∷◌, ◌++◌, ℕ, zero, suc, length, None, Some}
use Prim.Native.String.{String}
use Rattle.octets.specs.Text.{Text, ascii}
use Rattle.octets.specs.Number.{copies}
use Rattle.partner.specs.declared.Entry.{Entry}
use Rattle.partner.specs.Examples.{name, entry, top, L, no_set, zeros, whole, whole_bytes, slight}
use Rattle.partner.specs.Table.{Table, legal, find, put, into_free_slot, take_out, started}
use Rattle.image.specs.Image.{encode, decode}

-- a slot of zeros, and n of them
abbrev pub vacant : Entry
vacant = entry zeros zeros 0 0 0 0 0 0 no_set no_set

abbrev pub vacants : ℕ → List Entry
vacants zero = []
vacants (suc n) = vacant ∷ vacants n

-- HARBOR's table with these slots
abbrev pub harbor : List Entry → Table
harbor slots = record { own = ascii "HARBOR          "; slots = slots }

-- a partner as it is loaded
abbrev pub partner : String → Entry
partner id = entry (name id) top 1 L 0 1 1 0 no_set no_set

abbrev pub quay : Entry
quay = partner "QUAY            "

-- HARBOR's image with MILL in the second slot, and its table
abbrev pub small : Table
small = harbor (vacant ∷ whole ∷ vacants 62)

abbrev pub small_image : Text
small_image = 1 ∷ [] ++ ascii "HARBOR          " ++ 0 ∷ [] ++ 2 ∷ [] ++ whole_bytes ++ copies 62 0

pub record Examples : Type 0 where
  -- kind 1 and our identity, kind 0, kind 2 and MILL's record, 62 times kind 0
  pub small_written : encode small ≡ small_image
  pub small_read : decode small_image ≡ Some small
  pub small_length : length small_image ≡ 237
  -- a byte too many or too few, or another kind, is no image
  pub byte_too_many : decode (small_image ++ 0 ∷ []) ≡ None
  pub byte_too_few : decode (1 ∷ [] ++ ascii "HARBOR          " ++ 0 ∷ [] ++ 2 ∷ [] ++ whole_bytes ++ copies 61 0) ≡ None
  pub kind_3 : decode (1 ∷ [] ++ ascii "HARBOR          " ++ 3 ∷ copies 63 0) ≡ None
  pub front_of_kind_2 : decode (2 ∷ [] ++ ascii "HARBOR          " ++ copies 64 0) ≡ None
  pub no_bytes : decode [] ≡ None
  -- a started card has 64 empty slots
  pub started_empty : started (name "HARBOR          ") ≡ harbor (vacants 64)
  -- 64 slots, empty ones all zero, identities that differ from each other and from the card's own
  pub sixty_three_slots : legal (harbor (vacants 63)) ≡ false
  pub sixty_five_slots : legal (harbor (vacants 65)) ≡ false
  pub own_malformed : legal (record { own = ascii "Harbor          "; slots = vacants 64 }) ≡ false
  pub empty_with_a_byte : legal (harbor (entry zeros zeros 0 0 0 0 0 1 no_set no_set ∷ vacants 63)) ≡ false
  pub entry_not_legal : legal (harbor (vacant ∷ partner "Mill            " ∷ vacants 62)) ≡ false
  pub own_among_partners : legal (harbor (whole ∷ partner "HARBOR          " ∷ vacants 62)) ≡ false
  pub two_alike : legal (harbor (slight ∷ quay ∷ whole ∷ vacants 61)) ≡ false
  pub two_that_differ : legal (harbor (quay ∷ vacant ∷ whole ∷ vacants 61)) ≡ true
  -- a partner's slot
  pub found_behind_others : find (ascii "MILL            ") (quay ∷ vacant ∷ whole ∷ []) ≡ Some whole
  pub found_nowhere : find (ascii "MILLS           ") (quay ∷ vacant ∷ whole ∷ []) ≡ None
  pub given_new_contents : put (ascii "MILL            ") slight (quay ∷ vacant ∷ whole ∷ [])
      ≡ quay ∷ vacant ∷ slight ∷ []
  pub emptied : take_out (ascii "QUAY            ") (quay ∷ vacant ∷ whole ∷ []) ≡ vacant ∷ vacant ∷ whole ∷ []
  -- load takes the lowest free slot
  pub lowest_taken : into_free_slot quay (whole ∷ vacant ∷ vacant ∷ []) ≡ Some (whole ∷ quay ∷ vacant ∷ [])
  pub none_free : into_free_slot quay (whole ∷ whole ∷ []) ≡ None
