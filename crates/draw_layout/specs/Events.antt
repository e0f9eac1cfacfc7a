use Rattle.std.specs.Prelude.{◌≡◌, ℕ, ◌&&◌, Bool, true, false, List, length, slice_get, slice_index, Some}
use Rattle.wcp_model.specs.declared.workload.Action.{Action}
use Rattle.wcp_model.specs.declared.workload.Action.TheVariants as action
use Rattle.wcp_model.specs.declared.workload.Task.{Task}
use Rattle.wcp_model.specs.Computation.{interval_at}
use Rattle.wcp_model.specs.WorkloadComputation.{is_task_of, computation_of}

-- An action that sends or receives.
abbrev pub is_event : Action → Bool
is_event (action.Observe holds) = false
is_event (action.Send to) = true
is_event (action.Recv from) = true

-- The communication events of a process are its tasks that send or receive.
abbrev pub is_event_of : ℕ → Task → Bool
is_event_of p task = is_task_of p task && is_event task.action

-- A communication event of process p stands at a place of the order.
pub record IsEventAt (order : List Task) (p place : ℕ) : Type 0 where
  pub task : Task
  pub at : slice_get order place ≡ Some task
  pub own : is_event_of p task ≡ true

-- For each task of a fit order of n processes, the interval that its process is in: the communication event k of a
-- process ends its interval k.
pub record AreIntervals (n : ℕ) (order : List Task) (intervals : List ℕ) : Type 0 where
  pub tasks : length intervals ≡ length order
  pub each : (place : ℕ) (task : Task) → slice_get order place ≡ Some task →
      slice_index intervals place ≡ interval_at (computation_of n order) task.p place
