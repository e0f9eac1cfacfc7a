use Rattle.wcp_worker.proofs.Words.{◌≡◌, ℕ, ◌<◌, length, take, slice_index_or, Worker, HasTasks}
use Rattle.wcp_worker.proofs.worker_opening.give_tasks.Given as goal

abbrev pub invariant-loop-task : goal.invariant-loop-task
invariant-loop-task l =
    record {
      count : length l.workers.items ≡ length l.initial.workers.items;
      each : (p : ℕ) (d : Worker) → p < length l.initial.workers.items
          → HasTasks p (take l.task-index l.tasks)
          (slice_index_or l.initial.workers.items p d) (slice_index_or l.workers.items p d);
    }
