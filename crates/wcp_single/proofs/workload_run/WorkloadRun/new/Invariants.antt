use Rattle.wcp_single.proofs.Words.{◌≡◌, [], replicate}
use Rattle.wcp_single.proofs.StartedRun.{AreNew}
use Rattle.wcp_single.proofs.workload_run.WorkloadRun.new.Given as goal

abbrev pub invariant-loop-id : goal.invariant-loop-id
invariant-loop-id l = AreNew l.plan.n l.plan.watched l.plan.flag l.id l.processes.items

abbrev pub invariant-loop : goal.invariant-loop
invariant-loop l = AreNew l.fn.plan.n l.fn.plan.watched l.fn.plan.flag l.fn.plan.n l.processes.items
    × (l.in_transit.items ≡ replicate l.counter [])
