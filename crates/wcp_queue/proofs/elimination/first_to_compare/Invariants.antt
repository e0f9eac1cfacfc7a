use Rattle.wcp_queue.proofs.Words.{◌≡◌, ℕ, ◌<◌, false, length, has_head, queue_of}
use Rattle.wcp_queue.proofs.elimination.first_to_compare.Given as goal

abbrev pub invariant-loop-p : goal.invariant-loop-p
invariant-loop-p l = (k : ℕ) → k < l.p → has_head l.floor k ≡ false → length (queue_of l.queues k) ≡ 0
