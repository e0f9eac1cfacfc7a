use Rattle.wcp_order.proofs.Words.{◌≡◌, ◌<◌, ℕ, [], length, map, take, filter, replicate, is_task_of, history_at}
use Rattle.wcp_order.proofs.order.histories.Given as goal

abbrev pub invariant-loop : goal.invariant-loop
invariant-loop l = map (λ history. history.items) l.histories.items ≡ replicate l.counter []

abbrev pub invariant-loop-task : goal.invariant-loop-task
invariant-loop-task l = record {
  processes : length l.histories.items ≡ l.fn.n;
  tasks : (p : ℕ) → p < l.fn.n → history_at l.histories.items p ≡ filter (is_task_of p) (take l.task-index l.tasks);
}
