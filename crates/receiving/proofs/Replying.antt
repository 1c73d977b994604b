-- The replies: what is legal is written, and it is the reply of the steps.
use Rattle.std.specs.Prelude.{Option, None, Some, unwrap_or}
use mathlib.Core.Path.{◌≡◌, refl, ap, ◌∙◌}
use mathlib.Core.Bool.{true}
use mathlib.Core.List.{◌++◌}
use Prim.Native.Nat.{ℕ, ◌≤◌}
use lib.ListN.{length, drop}
use borrow.Author.Tests.{le-leb}
use Rattle.octets.specs.Text.{Text, is_name}
use Rattle.octets.specs.Part.{bare}
use Rattle.octets.proofs.Comparing.{both}
use Rattle.keying.specs.Mac.{mac_key, mac}
use Rattle.keying.proofs.Laws.{mac_lt}
use Rattle.csm.specs.Message.{Reading, Body, legal, legal_body, print}
use Rattle.csm.specs.Covered.{covered_part}
use Rattle.csm.proofs.LengthLaws.{known, known_legal}
use Rattle.messages.specs.declared.Counts.{Counts}
use Rattle.messages.specs.Readings.{rsm_reading, esm_reading}
use Rattle.messages.specs.Answers.{writes, answer, buffer}
use Rattle.partner.specs.declared.KeySet.{KeySet}
use Rattle.partner.specs.declared.Entry.{Entry}
use Rattle.partner.specs.Entry.{keys_in}
use Rattle.partner.specs.Legal as partner
use Rattle.partner.proofs.Naming.{filled_name}
use Rattle.partner.proofs.Keeping.{rules}
use Rattle.calls.specs.Receive.{to_partner, esm_body, rsm_body, rsm_text}
use Rattle.calls.proofs.Readings.{rsm_legal}
use Rattle.outcome.specs.Acts.{sound}
use Rattle.receiving.specs.Stages.{counts_in, Replies}

-- our name, and a legal entry
pub sound_parts : (own : Text) (e : Entry) → sound own e ≡ true → (is_name own ≡ true) × (partner.legal e ≡ true)
unfolding sound
sound_parts own e h = both (is_name own) (partner.legal e) h

-- what is written of a reading: this text
pub record Writes (r : Reading) (l w : Text) : Type 0 where
  pub count : answer r l ≡ Some (length w)
  pub text : buffer r l ≡ w ++ drop (length w) l

-- in code, the length or zero
pub replies : (r : Reading) {l new w : Text} {o : Option ℕ} {n : ℕ} → Writes r l w → o ≡ answer r l → new ≡ buffer r l
    → n ≡ unwrap_or o 0 → Replies w l new n
replies r w a b k = record { count = k ∙ ap (λ (o : Option ℕ). unwrap_or o 0) (a ∙ w.count); text = b ∙ w.text }

-- a legal reading is written where there is room
written : (r : Reading) (l : Text) → 256 ≤ length l → legal r ≡ true → Writes r l (print r)
unfolding answer buffer writes
written r l h k = record { count = rw (le-leb 256 (length l) h, k); text = rw (le-leb 256 (length l) h, k) }

module _ (own : Text) (e : Entry) (ours : sound own e ≡ true) (l : Text) (roomy : 256 ≤ length l) where
  -- a legal body to the partner
  to_partner_written : (b : Body) → known b ≡ true → legal_body b ≡ true
      → Writes (to_partner own e b) l (print (to_partner own e b))
  to_partner_written b k lawful =
      let s = sound_parts own e ours in
      let theirs = filled_name e.identity.bytes (rules e s.1).identity_filled in
      written (to_partner own e b) l roomy (known_legal _ k (rw (theirs, s.0) lawful))

  -- an ESM
  pub esm_written : (letters : ℕ) (counts : Option Counts) → legal_body (esm_body letters (counts_in counts)) ≡ true
      → Writes (esm_reading (bare e.identity.bytes) own letters counts) l
      (print (to_partner own e (esm_body letters (counts_in counts))))
  unfolding esm_reading
  esm_written letters None h = to_partner_written _ refl h
  esm_written letters (Some c) h = to_partner_written _ refl h

  -- an RSM under these keys
  pub rsm_written : (set : KeySet)
      → Writes (rsm_reading (bare e.identity.bytes) own (mac_key (keys_in set))) l (rsm_text own e set)
  unfolding rsm_reading rsm_text
  rsm_written set =
      let m = mac (mac_key (keys_in set)) (covered_part (to_partner own e (rsm_body 0))) in
      to_partner_written (rsm_body m) refl (rsm_legal m (mac_lt _ _))
