-- Before the first dot and behind it.
use Rattle.std.proofs.Common.{◌≡◌, sym, ap, ◌∙◌, ℕ, ◌+◌, ◌-◌, arith, ◌∷◌, length, take, drop, length-drop, take_all, refl, Some}
use Rattle.octets.specs.Text.{Text, dot}
use Rattle.csm.specs.Fields.{split}
use Rattle.fields.proofs.PieceLaws.{before_length, split_at_dot, split_dotless}
use Rattle.fields.proofs.pieces.Piece.parted.Goals as goal

pub returns-in-Some : goal.returns-in-Some
returns-in-Some c =
    let w = c.args.self.w.now in
    let n = c.in-Some.n in
    let e = sym c.find.ensures ∙ c.in-Some.is in
    let v = drop (n + 1) w in
    record {
      text = split_at_dot w n e
          ∙ ap (λ (t : Text). take n w ∷ split t) (sym (take_all (length w - (n + 1)) v (omega (arith, length-drop (n + 1) w))));
      at = refl;
      next = let l : n ≡ length (take n w) = sym (before_length dot w n e) in ap (λ (i : ℕ). Some (c.args.self.at + i + 1)) l;
    }

pub returns-in-None : goal.returns-in-None
returns-in-None c = record { text = split_dotless _ (sym c.find.ensures ∙ c.in-None.is); at = refl; next = refl }
