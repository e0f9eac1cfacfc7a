use Rattle.std.proofs.Common.{◌≡◌, [], replicate}
use Rattle.wcp_queue.proofs.queue.Queues.new.Given as goal

abbrev pub invariant-loop : goal.invariant-loop
invariant-loop l = l.queues.items ≡ replicate l.counter []
