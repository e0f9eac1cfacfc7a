use Rattle.wcp_queue.proofs.Words.{ℕ, ◌<◌, ◌≢◌, slice_index}
use Rattle.wcp_queue.proofs.checker.find_row.Given as goal

abbrev pub invariant-loop-row : goal.invariant-loop-row
invariant-loop-row l = (k : ℕ) → k < l.row → slice_index l.members k ≢ l.p
