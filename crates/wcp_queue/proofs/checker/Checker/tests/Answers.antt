use Rattle.wcp_queue.proofs.Words.{count_by, is_snapshot, checker_state}
use Rattle.wcp_queue.proofs.SoundCheckers.{few_tests}
use Rattle.wcp_queue.proofs.checker.Checker.tests.Goals as goal

pub returns-clause-bound : goal.returns-clause-bound
returns-clause-bound c = rw (← c.self.view_is, c.tests.ensures) (λ items stands.
    few_tests (checker_state c.self.inside) c.self.invariant (count_by is_snapshot items) stands.snapshots)
