-- `row::stored::slot_length` meets its contract: an entry's record has its size. Assumes nothing.
use Rattle.std.proofs.Common.{◌≡◌, sym, ap, ◌∙◌, length, arith}
use Rattle.partner.specs.Record.{entry_size, entry_bytes}
use Rattle.partner.proofs.Storing.{names_size}
use Rattle.image.proofs.Numbered.{full_bytes}
use Rattle.row.proofs.stored.slot_length.Goals as goal

pub returns-else-is_empty-clause-value : goal.returns-else-is_empty-clause-value
returns-else-is_empty-clause-value c =
    let fields = c.well_formed.0.1.1 in
    let outgoing = fields.1.1.0.1.1.1.1.0.1.1 in
    let incoming = fields.1.1.1.0.1.1.1.0.1.1 in
    let s : length (entry_bytes c.args.e) ≡ entry_size =
    names_size c.args.e fields.0.1.1.0.1.0.1 fields.1.0.1.1.0.1.1.0.1.0.1
    outgoing.1.0.1.1.1.0.1.1.0.1.0.1 outgoing.1.1.0.1.1.1.0.1.1.0.1.0.1
    incoming.1.0.1.1.1.0.1.1.0.1.0.1 incoming.1.1.0.1.1.1.0.1.1.0.1.0.1 in
    sym (ap length (full_bytes c.args.e (sym c.is_empty.ensures ∙ c.if-is_empty.false)) ∙ omega (arith, s))
