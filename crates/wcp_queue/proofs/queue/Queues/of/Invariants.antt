use Rattle.wcp_queue.proofs.Words.{◌≡◌, take, map, waiting_in}
use Rattle.wcp_queue.proofs.queue.Queues.of.Given as goal

abbrev pub invariant-loop-row : goal.invariant-loop-row
invariant-loop-row l = record {
  queues : l.queues.items ≡ map (λ row. row.items) (take l.row-index l.rows);
  waiting : l.waiting ≡ waiting_in l.queues.items;
}
