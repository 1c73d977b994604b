-- What is read of MCL is what is read of its contents.
use Rattle.std.proofs.Common.{sym, ap, ◌∙◌, ℕ, ◌+◌, drop, option_map}
use Rattle.octets.specs.Text.{Text}
use Rattle.csm.specs.Format.{value, bind}
use Rattle.csm.specs.Fields.{mcl, tag, MCL}
use Rattle.fields.specs.Seen.{class_of}
use Rattle.fields.specs.Steps.{placed}
use Rattle.fields.specs.declared.pieces.Piece.{Piece}
use Rattle.fields.proofs.PieceLaws.{piece_none, piece_some, field_taken}
use Rattle.fields.proofs.class_field.Goals as goal

abbrev told : Piece → ℕ × Text
told p = placed p.at p.w.now

pub returns-in_err-mcl : goal.returns-in_err-mcl
returns-in_err-mcl c =
    let s = drop c.args.at c.args.text.now in
    rw (c.from_residual.ensures, field_taken mcl (tag MCL) s, piece_none told (c.args.at + 4) _ c.in_err-mcl.ensures)

pub returns : goal.returns
returns c =
    let s = drop c.args.at c.args.text.now in
    let h = piece_some told (c.args.at + 4) _ c.in_ok-mcl.mcl c.in_ok-mcl.ensures in
    c.class.ensures ∙ ap (λ (p : ℕ × Text). option_map class_of (value mcl p.1)) h.2
    ∙ ap (λ o. option_map class_of (bind o (value mcl))) (sym h.1)
    ∙ ap (option_map class_of) (sym (field_taken mcl (tag MCL) s))
