use Rattle.std.proofs.Common.{arith}
use Rattle.wcp_clock.proofs.Marks.{set_of-set}
use Rattle.wcp_clock.proofs.process_set.ProcessSet.with.Goals as goal

pub returns-then-p-lt-MAX_PROCS-clause-more : goal.returns-then-p-lt-MAX_PROCS-clause-more
returns-then-p-lt-MAX_PROCS-clause-more c =
    λ _. rw (← c.more.view_is) (set_of-set c.more.inside.has c.args.p (omega (arith, c.more.invariant)))
