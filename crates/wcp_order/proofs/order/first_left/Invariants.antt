use Rattle.wcp_order.proofs.Words.{◌≡◌, ◌+◌, ◌<◌, ℕ, length, take, count_by, slice_index, is_task_of}
use Rattle.wcp_order.proofs.order.first_left.Given as goal

abbrev pub invariant-loop-place : goal.invariant-loop-place
invariant-loop-place l = record {
  processes : length l.done ≡ length l.initial.done;
  counted : (p : ℕ) → p < length l.done →
      slice_index l.done p + count_by (is_task_of p) (take l.place l.tasks) ≡ slice_index l.initial.done p;
}
