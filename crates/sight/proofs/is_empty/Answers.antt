-- `sight::is_empty` meets its contract: the record fills its bytes. Assumes nothing.
use Rattle.std.proofs.Common.{ap, ◌∙◌, append-nil}
use Rattle.std.specs.Str.{bytes_eq}
use Rattle.octets.specs.Text.{Text}
use Rattle.octets.specs.Number.{copies}
use Rattle.partner.specs.Table.{is_empty}
use Rattle.partner.specs.Record.{put_entry, entry_size, entry_bytes}
use Rattle.sight.proofs.is_empty.Goals as goal

pub returns : goal.returns
unfolding is_empty put_entry
returns c =
    let e = c.args.e.now in
    c.eq.ensures
    ∙ ap (λ (w : Text). bytes_eq w (copies entry_size 0)) (c.put_entry.ensures.rest_after ∙ append-nil (entry_bytes e))
