-- A row is surveyed slot by slot.
use Rattle.std.proofs.Common.{◌≡◌, refl, ap, ◌∙◌, Bool, true, false, cond, not, ◌&&◌, ◌||◌, List, [], ◌∷◌, ℕ, ◌+◌, ◌-◌, ◌<◌, length, take, drop, get_or, length-drop, arith}
use Rattle.std.proofs.lemmas.List.{get_or_default}
use Rattle.std.proofs.Math.Seq.{take_all}
use Rattle.std.specs.List.{list_all}
use Rattle.octets.specs.Text.{same}
use Rattle.partner.specs.declared.Entry.{Entry}
use Rattle.partner.specs.Entry.{empty}
use Rattle.partner.specs.Table.{is_empty, identities, differs}
use Rattle.sight.specs.declared.aims.Aim.{Aim}
use Rattle.sight.specs.declared.Sight.{Sight}
use Rattle.sight.specs.Sight.{differ, see, pass}
use Rattle.sight.proofs.Seeing.{next_seen}

-- none of these partners has its identity
pub all_apart : (e : Entry) (later : List Entry) → list_all (differ e) later ≡ differs e.identity.bytes (identities later)
unfolding differ
all_apart e [] = refl
all_apart e (l ∷ later) = go (is_empty l) (all_apart e later)
  where
    go : (p : Bool) → list_all (differ e) later ≡ differs e.identity.bytes (identities later)
        → (p || not (same l.identity.bytes e.identity.bytes)) && list_all (differ e) later
        ≡ differs e.identity.bytes (cond p (identities later) (l.identity.bytes ∷ identities later))
    go true h = h
    go false h = ap (λ (b : Bool). not (same l.identity.bytes e.identity.bytes) && b) h

-- one slot more; what is behind it is lent as a part of the row
pub next_surveyed : (a : Aim) (ys : List Entry) (i : ℕ) → i < length ys → (s : Sight) (d : Entry) (t : Bool) (r : Sight)
    → r ≡ see a s i (get_or ys i d) t
    → t ≡ differs (get_or ys i d).identity.bytes (identities (take (length ys - (i + 1)) (drop (i + 1) ys)))
    → pass a s i (drop i ys) ≡ pass a r (i + 1) (drop (i + 1) ys)
next_surveyed a ys i h s d t r er et =
    let l : take (length ys - (i + 1)) (drop (i + 1) ys) ≡ drop (i + 1) ys =
    take_all (length ys - (i + 1)) (drop (i + 1) ys) (omega (arith, length-drop (i + 1) ys)) in
    next_seen a ys i h s (get_or ys i d) (get_or_default ys i d empty h) t
    (et ∙ ap (λ (x : List Entry). differs (get_or ys i d).identity.bytes (identities x)) l) r er
