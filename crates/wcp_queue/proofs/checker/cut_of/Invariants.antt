use Rattle.wcp_queue.proofs.WatchedRows.{AreEntries}
use Rattle.wcp_queue.proofs.checker.cut_of.Given as goal

abbrev pub invariant-loop-p : goal.invariant-loop-p
invariant-loop-p l = AreEntries l.cut l.p l.members l.intervals
