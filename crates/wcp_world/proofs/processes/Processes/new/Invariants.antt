use Rattle.wcp_world.proofs.Probes.{AreFirstCores}
use Rattle.wcp_world.proofs.processes.Processes.new.Given as goal

abbrev pub invariant-loop-id : goal.invariant-loop-id
invariant-loop-id l = AreFirstCores l.plan.n l.plan.watched l.plan.flag l.id l.probes.items
