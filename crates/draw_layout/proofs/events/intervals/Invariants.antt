use Rattle.draw_layout.proofs.Words.{◌≡◌, ℕ, ◌<◌, length, slice_get, slice_index, take, count_by, Some, Task}
use Rattle.draw_layout.specs.Events.{is_event_of}
use Rattle.draw_layout.proofs.events.intervals.Given as goal

abbrev pub invariant-loop-task : goal.invariant-loop-task
invariant-loop-task l = record {
  processes : length l.events ≡ 16;
  counted : (p : ℕ) → p < 16 → slice_index l.events p ≡ count_by (is_event_of p) (take l.task-index l.order);
  so_far : length l.intervals.items ≡ l.task-index;
  each : (k : ℕ) (task : Task) → k < l.task-index → slice_get l.order k ≡ Some task →
      slice_index l.intervals.items k ≡ count_by (is_event_of task.p) (take k l.order);
}
