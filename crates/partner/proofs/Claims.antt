-- The claims hold.
use mathlib.Core.Path.{◌≡◌, refl}
use Prim.Native.Nat.{ℕ, max}
use native.Mathlib.Omega.{arith}
use Rattle.keying.specs.declared.Top.{Top}
use Rattle.keying.specs.declared.Top.TheVariants.{Single, Pair}
use Rattle.partner.specs.declared.Name.{Name}
use Rattle.partner.specs.declared.Sending.{Sending}
use Rattle.partner.specs.Entry.{top_of}
use Rattle.partner.specs.Changes.{loaded, accepted, issued, settled, given_up, failed}
use Rattle.partner.specs.Claims.{Loads, Breaks}
use Rattle.partner.specs.Claims.{Claims}
use Rattle.partner.proofs.Naming.{bare_filled, filled_filled, filled_bare, blanks_unnamed}
use Rattle.partner.proofs.Ruling.{broken_first, legal_passed}
use Rattle.partner.proofs.Keeping.{loaded_legal, accepted_legal, issued_legal, settled_legal, given_up_legal}
use Rattle.partner.proofs.Keeping.{failed_legal, risen_below, one_formed, two_formed}
use Rattle.partner.proofs.Tabling as tables
use Rattle.partner.proofs.Storing.{length_entry, octets_entry, entry_back, entry_held, read_written}

-- ---- each change, field by field

loads : (identity name : Name) (top : Top) → Loads identity name top (loaded identity name top)
unfolding loaded top_of
loads identity name (Single k) = record {
  identity = refl;
  name = refl;
  top = refl;
  next = refl;
  expected = refl;
  phase = refl;
  outgoing = refl;
  incoming = refl;
}
loads identity name (Pair l r) = record {
  identity = refl;
  name = refl;
  top = refl;
  next = refl;
  expected = refl;
  phase = refl;
  outgoing = refl;
  incoming = refl;
}

breaks : (s : Sending) (n x : ℕ) → max s.next x ≡ n → Breaks n (failed s x)
unfolding failed
breaks s n x h = record { next = h; phase = refl; outgoing = refl }

pub claims : Claims
unfolding accepted issued settled given_up
claims = record {
  loaded_so = loads;
  accepted_so = λ n keys h. record { expected = risen_below n h; incoming = refl };
  issued_so = λ s keys h. record { next = risen_below s.next h; phase = refl; outgoing = refl };
  settled_so = λ s. record { next = refl; phase = refl; outgoing = refl };
  given_up_so = λ s. record { next = refl; phase = refl; outgoing = refl };
  failed_below = λ s x h. breaks s s.next x (omega arith);
  failed_above = λ s x h. breaks s x x (omega arith);
  broken_exactly = broken_first;
  legal_exactly = legal_passed;
  table_broken_exactly = tables.broken_first;
  table_legal_exactly = tables.legal_passed;
  loaded_is_legal = loaded_legal;
  accepted_is_legal = accepted_legal;
  issued_is_legal = issued_legal;
  settled_is_legal = settled_legal;
  given_up_is_legal = given_up_legal;
  failed_is_legal = failed_legal;
  rises_by_one = risen_below;
  written_then_read = entry_back;
  read_then_written = read_written;
  record_has_156_bytes = length_entry;
  record_is_octets = octets_entry;
  read_is_held = entry_held;
  bare_after_filled = bare_filled;
  filled_is_filled = filled_filled;
  filled_after_bare = filled_bare;
  blanks_are_no_name = blanks_unnamed;
  one_key_is_formed = one_formed;
  two_keys_are_formed = two_formed;
}
