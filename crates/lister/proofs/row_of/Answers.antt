-- The length, if it is no more than 512.
use Rattle.std.proofs.Common.{◌≡◌, ◌∙◌, Bool, true, false, cond, Some, None, ℕ, leb, length, refl}
use Rattle.std.specs.Bool.{then_some}
use Rattle.lister.specs.Listing.{row_of}
use Rattle.lister.proofs.row_of.Goals as goal

when_some : (b : Bool) (n : ℕ) → then_some b n ≡ cond b (Some n) None
when_some true n = refl
when_some false n = refl

pub returns : goal.returns
unfolding row_of
returns c =
    let n = length c.args.line.now in
    λ x. record { class = c.class_of.ensures x; bytes = (c.then_some.ensures ∙ when_some (leb n 512) n) x }
