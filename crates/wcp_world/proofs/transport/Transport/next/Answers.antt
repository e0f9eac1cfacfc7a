use Rattle.wcp_world.proofs.Words.{arith, get_or_read, Root, InboxOf}
use Rattle.wcp_world.proofs.Places.{number_within}
use Rattle.wcp_world.proofs.AnsweredMoves.{number_same, next_reads}
use Rattle.wcp_world.proofs.transport.Transport.next.Goals as goal

pub returns-clause-reads : goal.returns-clause-reads
returns-clause-reads c =
    let inbox = rw (← c.self.view_is) at c.inbox.ensures in
    rw (← c.self.view_is) (λ plan steps put taken stands.
    let root = number_same c.self.inside.plan plan stands.same_plan (InboxOf Root) in
    let within = number_within plan (InboxOf Root) tt in
    next_reads plan steps put taken _ stands c.front.result (grind (arith, get_or_read)))
