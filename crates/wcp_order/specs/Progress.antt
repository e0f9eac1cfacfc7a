use Rattle.std.specs.Prelude.{◌≡◌, ℕ, ◌+◌, ◌-◌, ◌*◌, ◌<◌, List, [], length, map, take, count_by, filter, All, Some}
use Rattle.std.specs.List.{slice_get, slice_set, slice_index, slice_index_or}
use Rattle.std.specs.declared.vec.Vec.{Vec}
use Rattle.wcp_model.specs.declared.workload.Action.{Action}
use Rattle.wcp_model.specs.declared.workload.Action.TheVariants as action
use Rattle.wcp_model.specs.declared.workload.Task.{Task}
use Rattle.wcp_model.specs.WorkloadComputation.{IsFitOrder, IsWithin, is_task_of, sends, receives}
use Rattle.wcp_order.specs.declared.order.Progress.{Progress}

-- The tasks of process p, where those of each process are listed apart.
abbrev pub history_at : {A : Type 0} → List (Vec Task A) → ℕ → List Task
history_at histories p = slice_index_or (map (λ history. history.items) histories) p []

-- These are tasks of process p, of n, with partners among the n.
abbrev pub IsHistory : ℕ → ℕ → List Task → Type 0
IsHistory n p history = All (λ task. (task.p ≡ p) × IsWithin n task) history

-- Process p, of n, can do the action now: what it receives is in transit.
abbrev pub IsReady : ℕ → List ℕ → ℕ → Action → Type 0
IsReady n in_transit p (action.Observe holds) = Unit {0}
IsReady n in_transit p (action.Send to) = Unit {0}
IsReady n in_transit p (action.Recv from) = 0 < slice_index in_transit (from * n + p)

-- How many messages are in transit on each channel after an action of process p, of n.
abbrev pub in_transit_after : ℕ → List ℕ → ℕ → Action → List ℕ
in_transit_after n in_transit p (action.Observe holds) = in_transit
in_transit_after n in_transit p (action.Send to) =
    slice_set in_transit (p * n + to) (slice_index in_transit (p * n + to) + 1)
in_transit_after n in_transit p (action.Recv from) =
    slice_set in_transit (from * n + p) (slice_index in_transit (from * n + p) - 1)

-- These tasks were done in a fit order, and so many messages are in transit on each channel then.
pub record IsDone (n : ℕ) (order : List Task) (in_transit : List ℕ) : Type 0 where
  pub channels : length in_transit ≡ n * n
  pub within : All (IsWithin n) order
  pub fit : IsFitOrder order order
  pub counted : (p q : ℕ) → p < n → q < n →
      count_by (receives p q) order + slice_index in_transit (p * n + q) ≡ count_by (sends p q) order

-- So many of the first tasks of each process are done, in this order.
pub record IsProgress (n : ℕ) (history : ℕ → List Task) (order : List Task) (done in_transit : List ℕ) : Type 0 where
  pub is_done : IsDone n order in_transit
  pub processes : length done ≡ n
  pub counts : (p : ℕ) → p < n → slice_index done p ≡ count_by (is_task_of p) order
  pub first : (p : ℕ) → p < n → filter (is_task_of p) order ≡ take (count_by (is_task_of p) order) (history p)

-- Process p can't go on: its first task that is left is a receive of a message that isn't in transit.
abbrev pub IsBlocked : ℕ → List Task → List ℕ → List ℕ → ℕ → Type 0
IsBlocked n history done in_transit p =
    (task : Task) → slice_get history (slice_index done p) ≡ Some task → IsReady n in_transit p task.action → ⊥

-- The tasks are put in order as far as this progress says.
abbrev pub IsSoundProgress : ℕ → (ℕ → List Task) → Progress → Type 0
IsSoundProgress n history progress =
    IsProgress n history progress.order.items progress.done.items progress.in_transit.items

-- A process with this history can't go on.
abbrev pub IsStuck : ℕ → List Task → Progress → ℕ → Type 0
IsStuck n history progress p = IsBlocked n history progress.done.items progress.in_transit.items p

-- More tasks are done.
abbrev pub HasGrown : Progress → Progress → Type 0
HasGrown before after = length before.order.items < length after.order.items

-- The first of the tasks that is not among the first `done` ones of its process stands at this place.
pub record IsFirstLeft (tasks : List Task) (done : List ℕ) (place : ℕ) : Type 0 where
  pub inside : place < length tasks
  pub left : (task : Task) → slice_get tasks place ≡ Some task →
      slice_index done task.p ≡ count_by (is_task_of task.p) (take place tasks)
  pub before : (i : ℕ) (task : Task) → slice_get tasks i ≡ Some task → i < place →
      count_by (is_task_of task.p) (take i tasks) < slice_index done task.p
