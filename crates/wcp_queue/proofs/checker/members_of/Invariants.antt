use Rattle.wcp_queue.proofs.WatchedRows.{AreListed}
use Rattle.wcp_queue.proofs.checker.members_of.Given as goal

abbrev pub invariant-loop-p : goal.invariant-loop-p
invariant-loop-p l = AreListed l.members l.count l.p l.watched
