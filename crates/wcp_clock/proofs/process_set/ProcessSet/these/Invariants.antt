use Rattle.wcp_clock.proofs.Marks.{AreFirst}
use Rattle.wcp_clock.proofs.process_set.ProcessSet.these.Given as goal

abbrev pub invariant-loop-p : goal.invariant-loop-p
invariant-loop-p l = AreFirst l.numbers l.p-index l.these
