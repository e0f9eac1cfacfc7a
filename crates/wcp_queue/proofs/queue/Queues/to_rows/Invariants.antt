use Rattle.wcp_queue.proofs.Words.{◌≡◌, take, map}
use Rattle.wcp_queue.proofs.queue.Queues.to_rows.Given as goal

abbrev pub invariant-loop-queue : goal.invariant-loop-queue
invariant-loop-queue l = map (λ row. row.items) l.rows.items ≡ take l.queue-index l.self
