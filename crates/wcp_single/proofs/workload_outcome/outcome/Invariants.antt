use Rattle.wcp_single.proofs.Words.{take, HasDone, IsEnding}
use Rattle.wcp_single.proofs.workload_outcome.outcome.Given as goal

abbrev pub invariant-loop-task : goal.invariant-loop-task
invariant-loop-task l = HasDone l.plan.n l.plan.watched l.plan.flag
    (take l.task-index l.order) l.run.processes.items l.run.in_transit.items l.run.checker

abbrev pub invariant-loop-p : goal.invariant-loop-p
invariant-loop-p l = IsEnding l.plan.n l.plan.watched l.plan.flag l.order l.p l.run.processes.items l.run.checker
