use Rattle.wcp_order.proofs.Words.{◌-◌, length, IsSoundProgress, history_at}
use Rattle.wcp_order.proofs.order.search.Given as goal

abbrev pub invariant-loop-progress : goal.invariant-loop-progress
invariant-loop-progress l = IsSoundProgress l.n (history_at l.histories.items) l.progress

abbrev pub decreases-loop-progress : goal.decreases-loop-progress
decreases-loop-progress l = length l.tasks - length l.progress.order.items
