use Rattle.wcp_order.proofs.Words.{take, IsDone}
use Rattle.wcp_order.proofs.listing.follows.Given as goal

abbrev pub invariant-loop-task : goal.invariant-loop-task
invariant-loop-task l = IsDone l.n (take l.task-index l.tasks) l.in_transit
