use Rattle.wcp_queue.proofs.Words.{drop, sym, refl, queue_of, length-set}
use Rattle.wcp_queue.proofs.LeftQueues.{LeavesQueue-set}
use Rattle.wcp_queue.proofs.elimination.compare_next.Goals as goal

pub returns-clause-left : goal.returns-clause-left
returns-clause-left c = λ rows.
    let queue = drop 1 (queue_of c.args.queues.now c.args.p) in
    rw c.pop-clock.ensures.rest (rw (
      c.pop-clock.ensures.rest,
      length-set c.args.queues.now c.args.p queue,
    ) at c.compare.ensures.left rows c.args.queues.now
    (LeavesQueue-set _ c.args.p c.pop-clock.result c.args.queues.now _ queue c.requires.within
    (sym c.pop-clock.ensures.value) refl))
