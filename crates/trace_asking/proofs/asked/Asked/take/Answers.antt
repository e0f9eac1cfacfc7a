use Rattle.trace_log.specs.Turns.{seen_logged}
use Rattle.trace_asking.specs.Seeking.{IsSeeking}
use Rattle.trace_asking.proofs.Questions.{knows_first}
use Rattle.trace_asking.proofs.asked.Asked.take.Goals as goal

pub returns-then-branch-clause-takes : goal.returns-then-branch-clause-takes
returns-then-branch-clause-takes c question before waiting follows =
    let seeking : IsSeeking question before c.args.self.now.seeker = rw c.in-Open.is at waiting in
    knows_first question before (seen_logged c.args.logged.now) c.args.self.now.seeker c.take.new.self seeking
    (rw c.if-branch.true at (c.in_ok-take.ensures question before seeking follows))

pub returns-else-branch-clause-takes : goal.returns-else-branch-clause-takes
returns-else-branch-clause-takes c question before waiting follows =
    let seeking : IsSeeking question before c.args.self.now.seeker = rw c.in-Open.is at waiting in
    rw c.in-Open.is (rw c.if-branch.false at (c.in_ok-take.ensures question before seeking follows))
