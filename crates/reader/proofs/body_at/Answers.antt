-- An option, or the class's own fields.
use Rattle.std.proofs.Common.{sym, ◌∙◌}
use Rattle.reader.proofs.BodyLaws.{body_option, body_known}
use Rattle.reader.proofs.body_at.Goals as goal

pub returns-then-is_option : goal.returns-then-is_option
returns-then-is_option c =
    c.rest_at.ensures ∙ sym (body_option c.args.head c.args.at _ c.args.class (sym c.is_option.ensures ∙ c.if-is_option.true))

pub returns-in-Rsi : goal.returns-in-Rsi
returns-in-Rsi c =
    rw (body_known c.args.head c.args.at _ c.args.class (sym c.is_option.ensures ∙ c.if-is_option.false), c.in-Rsi.is) c.rsi_at.ensures

pub returns-in-Ksm : goal.returns-in-Ksm
returns-in-Ksm c =
    rw (body_known c.args.head c.args.at _ c.args.class (sym c.is_option.ensures ∙ c.if-is_option.false), c.in-Ksm.is) c.ksm_at.ensures

pub returns-in-Rsm : goal.returns-in-Rsm
returns-in-Rsm c =
    rw (body_known c.args.head c.args.at _ c.args.class (sym c.is_option.ensures ∙ c.if-is_option.false), c.in-Rsm.is) c.rsm_at.ensures

pub returns-in-Esm : goal.returns-in-Esm
returns-in-Esm c =
    rw (body_known c.args.head c.args.at _ c.args.class (sym c.is_option.ensures ∙ c.if-is_option.false), c.in-Esm.is) c.esm_at.ensures
