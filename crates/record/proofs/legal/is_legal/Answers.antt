-- Unit by unit, which is the list of the rules.
use mathlib.Core.Path.{◌≡◌, sym, ap, ◌∙◌}
use mathlib.Core.Bool.{Bool, true, ◌&&◌}
use lib.Dec.{leb}
use lib.ListN.{length}
use borrow.Author.Tests.{le-leb}
use Rattle.partner.specs.Record.{entry_in}
use Rattle.partner.specs.Legal.{legal}
use Rattle.partner.specs.Units.{sending_right, receiving_right, units_right}
use Rattle.partner.proofs.Units.{legal_units}
use Rattle.record.proofs.legal.is_legal.Goals as goal

pub returns-then-s-ge-SIZE : goal.returns-then-s-ge-SIZE
unfolding entry_in units_right
returns-then-s-ge-SIZE c =
    let s = c.args.s.now in
    let next = c.count_in.ensures in
    let phase = c.byte_in.ensures in
    let many = c.byte_in-then-s-ge-SIZE.ensures in
    let sending = c.sending_right.ensures ∙ λ j. sending_right (next j) (phase j) (many j) in
    let expected = c.count_in-then-s-ge-SIZE.ensures in
    let count = c.byte_in-then-s-ge-SIZE-2.ensures in
    let receiving = c.receiving_right.ensures ∙ λ j. receiving_right (expected j) (count j) in
    let outgoing = c.set_formed.ensures in
    let incoming = c.set_formed-then-s-ge-SIZE.ensures in
    let units : ◌≡◌ {A = Bool} _ (units_right (entry_in s)) =
    λ j. (((c.front_right.ensures j && sending j) && outgoing j) && receiving j) && incoming j in
    let whole : leb 156 (length s) ≡ true = le-leb 156 (length s) c.if-s-ge-SIZE.true in
    units ∙ sym (legal_units (entry_in s)) ∙ sym (ap (λ (b : Bool). b && legal (entry_in s)) whole)
