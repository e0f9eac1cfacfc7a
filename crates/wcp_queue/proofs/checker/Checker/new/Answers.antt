use Rattle.wcp_queue.proofs.Words.{arith}
use Rattle.wcp_queue.proofs.SoundCheckers.{IsSoundChecker-fresh}
use Rattle.wcp_queue.proofs.StandingForItems.{StandsForItems-fresh}
use Rattle.wcp_queue.proofs.checker.Checker.new.Goals as goal

pub invariant_of-result : goal.invariant_of-result
invariant_of-result c =
    let members = c.members_of-members.result in
    rw (c.in_ok-queues.ensures, c.len.ensures.value, c.new-2.ensures)
    (IsSoundChecker-fresh c.args.n c.args.watched members c.requires.few c.requires.watched
    c.members_of-members.ensures)

pub returns-clause-empty : goal.returns-clause-empty
returns-clause-empty c =
    let members = c.members_of-members.result in
    rw (c.in_ok-queues.ensures, c.len.ensures.value, c.new-2.ensures)
    (StandsForItems-fresh c.args.n c.args.watched members c.requires.few (omega (arith, c.len.ensures.value)))
