-- `card::build_ksm` meets its contract: a KSM is built. Assumes nothing.
use Rattle.sight.specs.declared.aims.Act.TheVariants.{BuildKsm}
use Rattle.sight.specs.Asked.{call_of}
use Rattle.card.proofs.Calling.{called}
use Rattle.card.proofs.build_ksm.Goals as goal

pub returns : goal.returns
unfolding call_of
returns c =
    let a = c.args in
    called BuildKsm _ a.partner.now _ _ _ _ c.report_of.ensures _ _ tt c.change.ensures
