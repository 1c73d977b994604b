-- The pass over a row, as a loop makes it.
use Rattle.std.proofs.Common.{◌≡◌, ◌∙◌, Bool, List, ◌∷◌, length, get_or, drop, ℕ, ◌+◌, ◌<◌, ◌≤◌, arith, add-one}
use Rattle.std.proofs.Math.ListN.{drop_of_length-le}
use Rattle.std.proofs.Math.Seq.{drop-cons}
use Rattle.partner.specs.declared.Entry.{Entry}
use Rattle.partner.specs.Entry.{empty}
use Rattle.partner.specs.Table.{identities, differs}
use Rattle.sight.specs.declared.aims.Aim.{Aim}
use Rattle.sight.specs.declared.Sight.{Sight}
use Rattle.sight.specs.Sight.{unseen, see, pass, concluded, survey}

-- at the end all is seen
pub all_seen : (a : Aim) (ys : List Entry) (s : Sight) (i : ℕ) → i ≤ length ys → length ys ≤ i → pass a unseen 0 ys ≡ pass a s i (drop i ys)
    → concluded a s i ≡ survey a ys
unfolding survey pass
all_seen a ys s i le over so =
    let m : i ≡ length ys = omega arith in
    let p : pass a unseen 0 ys ≡ s = so ∙ rw (drop_of_length-le ys over) in
    rw (m, p)

-- one slot more
pub next_seen : (a : Aim) (ys : List Entry) (i : ℕ) → i < length ys → (s : Sight) (e : Entry) → e ≡ get_or ys i empty → (t : Bool)
    → t ≡ differs e.identity.bytes (identities (drop (i + 1) ys))
    → (r : Sight) → r ≡ see a s i e t → pass a s i (drop i ys) ≡ pass a r (i + 1) (drop (i + 1) ys)
unfolding pass
next_seen a ys i h s e ee t et r er =
    let d : drop i ys ≡ e ∷ drop (i + 1) ys = drop-cons ys i empty h ∙ rw (ee, add-one) in
    rw (d, er, et)
