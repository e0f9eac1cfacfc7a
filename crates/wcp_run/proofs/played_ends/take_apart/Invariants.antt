use Rattle.wcp_run.specs.PlayedEnds.{AreOfWorkers}
use Rattle.wcp_run.proofs.played_ends.take_apart.Given as goal

abbrev pub invariant-loop-worker : goal.invariant-loop-worker
invariant-loop-worker l = AreOfWorkers l.yielded (record { probes = l.probes; mailboxes = l.mailboxes })
