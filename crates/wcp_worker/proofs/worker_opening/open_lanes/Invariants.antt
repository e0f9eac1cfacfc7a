use Rattle.wcp_worker.specs.Opening.{HaveLanes}
use Rattle.wcp_worker.proofs.worker_opening.open_lanes.Given as goal

abbrev pub invariant-loop-p : goal.invariant-loop-p
invariant-loop-p l = HaveLanes l.p l.initial.workers.items l.workers.items
