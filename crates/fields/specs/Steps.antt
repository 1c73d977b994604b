-- What private functions answer on the way: no public contract cites it.
use Rattle.std.specs.Prelude.{◌≡◌, cond, List, [], ◌∷◌, ℕ, ◌+◌, length, get_or, Option, None, Some, option_map}
use Rattle.octets.specs.Text.{Text, ascii, blank, same}
use Rattle.csm.specs.Format.{bind, after, until}
use Rattle.csm.specs.Fields.{split, nonempty}
use Rattle.csm.proofs.KdTest.{is_subs}
use Rattle.fields.specs.Seen.{name_at}
use Rattle.fields.specs.declared.Field.{Field}
use Rattle.fields.specs.declared.keys.Subfields.{Subfields}

-- behind a tag at the front of s: what stands before the first blank, and what follows it
unfoldable pub piece : Text → Text → Option (Text × Text)
piece tag s = bind (after tag s) (until blank)

-- a text at its place
abbrev pub placed : ℕ → Text → ℕ × Text
placed at w = (at, w)

-- a field with that tag at `at`, whose contents w are shown as o, if as anything
abbrev pub shown_as : {A : Type 0} → ℕ → Text → Text → Option A → Field A
shown_as at tag w None = record { contents = None; next = at }
shown_as at tag w (Some a) = record { contents = Some a; next = at + length tag + length w + 1 }

-- what a closure, of which `gives` says what it gives of a piece, makes of what stands before the first blank
abbrev pub ReadAs : {P A : Type 0} → (P → ℕ × Text) → (P → Option A → Type 0) → ℕ → Text → Option Text → Field A → Type 0
ReadAs told gives at tag None r = r ≡ record { contents = None; next = at }
ReadAs told gives at tag (Some w) r =
    (p : _) × (o : _) × (told p ≡ placed (at + length tag) w) × gives p o × (r ≡ shown_as at tag w o)

-- a piece up to the first dot, and what stands behind that dot, each with its place
abbrev pub behind : Option (ℕ × Text) → List Text
behind None = []
behind (Some r) = split r.1

pub record Parted (p q : ℕ × Text) (r : Option (ℕ × Text)) : Type 0 where
  pub text : split p.1 ≡ q.1 ∷ behind r
  pub at : q.0 ≡ p.0
  pub next : option_map (λ s. s.0) r ≡ option_map (λ s. p.0 + length q.1 + 1) r

-- the subfields of a KD from the pieces behind its key, which start at `at`: the mark, and the names
unfoldable pub subfields_seen : ℕ → List Text → Option Subfields
subfields_seen at l =
    let mark = get_or l 0 [] in
    let first = get_or l 1 [] in
    let i = at + length mark + 1 in
    cond (is_subs l)
    (Some (record {
      p = same mark (ascii "P");
      idk1 = option_map (name_at i) (nonempty first);
      idk2 = option_map (name_at (i + length first + 1)) (nonempty (get_or l 2 []));
    }))
    None
