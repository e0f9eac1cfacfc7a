use Rattle.std.proofs.Common.{sym, ◌∙◌}
use Rattle.wcp_model.specs.ProbeLog.{Received}
use Rattle.wullaphi.proofs.LentProbes.{taken}
use Rattle.wullaphi.proofs.lent_probe.LentProbe.take_open.Goals as goal

pub invariant_of-self : goal.invariant_of-self
invariant_of-self g c =
    taken c.self.invariant (Received c.args.message.now.clock) c.take_open.result c.take_open.ensures.accepted
    c.take_open.ensures.own c.take_open.ensures.same c.take_open.ensures.kept c.take_open.ensures.refused

pub returns-clause-same : goal.returns-clause-same
returns-clause-same g c = rw (← c.self.view_is) ((invariant_of-self g c).of_process ∙ sym c.self.invariant.of_process)
