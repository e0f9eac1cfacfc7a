use Rattle.std.proofs.Common.{sym, ◌∙◌}
use Rattle.wcp_model.specs.ProbeLog.{Sent}
use Rattle.wullaphi.proofs.LentProbes.{called}
use Rattle.wullaphi.proofs.lent_probe.LentProbe.stamp.Goals as goal

pub invariant_of-self : goal.invariant_of-self
invariant_of-self g c = called c.self.invariant Sent _ c.stamp-stamped.result c.stamp-stamped.ensures.accepted c.stamp-stamped.ensures.same
    c.stamp-stamped.ensures.kept c.stamp-stamped.ensures.refused

pub returns-clause-same : goal.returns-clause-same
returns-clause-same g c = rw (← c.self.view_is) ((invariant_of-self g c).of_process ∙ sym c.self.invariant.of_process)
