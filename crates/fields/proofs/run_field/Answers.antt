-- A run is read of the contents.
use Rattle.std.proofs.Common.{rules, ◌≡◌, sym, ap, ◌∙◌, Bool, true, false, cond, option_map, Some, None, refl}
use Rattle.std.specs.Bool.{then_some}
use Rattle.octets.specs.Text.{Text, is_run}
use Rattle.octets.specs.declared.Span.{Span}
use Rattle.csm.specs.Format.{plain}
use Rattle.csm.proofs.WordTests.{plain_value}
use Rattle.fields.specs.Seen.{as_part, name_at}
use Rattle.fields.proofs.PieceLaws.{read_as}
use Rattle.fields.proofs.run_field.Goals as goal

shown_run : (b : Bool) (s : Span) (w : Text) → then_some b s ≡ option_map (as_part s) (cond b (Some w) None)
shown_run true s w = refl
shown_run false s w = refl

pub returns : goal.returns
returns c =
    let f = is_run c.args.top c.args.low c.args.high in
    read_as (plain f) c.args.tag.now as_part _ _ c.args.text.now c.args.at _ c.read_field.ensures
    (λ p o g.
    let e : o ≡ then_some (f p.w.now) (name_at p.at p.w.now) = search rules in
    let v = plain_value f p.w.now in
    e ∙ shown_run (f p.w.now) _ p.w.now ∙ ap (option_map (as_part (name_at p.at p.w.now))) (sym v))
