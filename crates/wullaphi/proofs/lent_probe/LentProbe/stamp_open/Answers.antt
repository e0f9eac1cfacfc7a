use Rattle.std.proofs.Common.{sym, ap, ◌∙◌}
use Rattle.wcp_model.specs.ProbeLog.{Sent}
use Rattle.wullaphi.proofs.LentProbes.{called}
use Rattle.wullaphi.proofs.lent_probe.LentProbe.stamp_open.Goals as goal

pub invariant_of-self : goal.invariant_of-self
invariant_of-self g c =
    called c.self.invariant Sent _ c.stamp_open.result c.stamp_open.ensures.accepted c.stamp_open.ensures.same
    c.stamp_open.ensures.kept c.stamp_open.ensures.refused

pub returns-clause-same : goal.returns-clause-same
returns-clause-same g c = rw (← c.self.view_is) ((invariant_of-self g c).of_process ∙ sym c.self.invariant.of_process)

pub returns-clause-id : goal.returns-clause-id
returns-clause-id g c = ap (λ made. made.process) (returns-clause-same g c)
