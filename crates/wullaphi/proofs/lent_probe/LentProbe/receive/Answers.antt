use Rattle.std.proofs.Common.{sym, ◌∙◌}
use Rattle.wcp_model.specs.ProbeLog.{Received}
use Rattle.wcp_probe.specs.Seal.{seal_of}
use Rattle.wullaphi.proofs.LentProbes.{called}
use Rattle.wullaphi.proofs.lent_probe.LentProbe.receive.Goals as goal

pub invariant_of-self : goal.invariant_of-self
invariant_of-self g c =
    called c.self.invariant (Received (seal_of c.args.message).clock) _ c.receive-received.result c.receive-received.ensures.accepted
    c.receive-received.ensures.same c.receive-received.ensures.kept c.receive-received.ensures.refused

pub returns-clause-same : goal.returns-clause-same
returns-clause-same g c = rw (← c.self.view_is) ((invariant_of-self g c).of_process ∙ sym c.self.invariant.of_process)
