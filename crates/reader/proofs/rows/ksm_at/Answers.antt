-- NOS or not, KDs, IV, EDK, CTP and MAC, then the end.
use Rattle.std.proofs.Common.{◌∙◌}
use lib.ListN.{drop}
use Rattle.reader.proofs.StageLaws.{empty_run, ksm_step}
use Rattle.reader.proofs.rows.ksm_at.Goals as goal

pub returns-in_err-first : goal.returns-in_err-first
returns-in_err-first c =
    let a = c.args in
    rw (
      c.from_residual.ensures,
      ksm_step a.head a.text.now a.at (c.run_field-nos.ensures ∙ empty_run a.at (drop a.at a.text.now))
          c.key_field-one.ensures c.key_field-two.ensures c.run_field-iv.ensures c.run_field-edk.ensures c.count_field-count.ensures
          c.check_field-check.ensures,
      c.in_err-first.was,
    )

pub returns-in_err-ctp : goal.returns-in_err-ctp
returns-in_err-ctp c =
    let a = c.args in
    rw (
      c.from_residual-in_err-ctp.ensures,
      ksm_step a.head a.text.now a.at (c.run_field-nos.ensures ∙ empty_run a.at (drop a.at a.text.now))
          c.key_field-one.ensures c.key_field-two.ensures c.run_field-iv.ensures c.run_field-edk.ensures c.count_field-count.ensures
          c.check_field-check.ensures,
      c.in_ok-first.was,
      c.in_err-ctp.was,
    )

pub returns-in_err-mac : goal.returns-in_err-mac
returns-in_err-mac c =
    let a = c.args in
    rw (
      c.from_residual-in_err-mac.ensures,
      ksm_step a.head a.text.now a.at (c.run_field-nos.ensures ∙ empty_run a.at (drop a.at a.text.now))
          c.key_field-one.ensures c.key_field-two.ensures c.run_field-iv.ensures c.run_field-edk.ensures c.count_field-count.ensures
          c.check_field-check.ensures,
      c.in_ok-first.was,
      c.in_ok-ctp.was,
      c.in_err-mac.was,
    )

pub returns : goal.returns
returns c =
    let a = c.args in
    rw (
      ksm_step a.head a.text.now a.at (c.run_field-nos.ensures ∙ empty_run a.at (drop a.at a.text.now))
          c.key_field-one.ensures c.key_field-two.ensures c.run_field-iv.ensures c.run_field-edk.ensures c.count_field-count.ensures
          c.check_field-check.ensures,
      c.in_ok-first.was,
      c.in_ok-ctp.was,
      c.in_ok-mac.was,
      ← c.closing.ensures,
    ) (cc)
