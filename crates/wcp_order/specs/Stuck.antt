use Rattle.std.specs.Prelude.{◌≡◌, ℕ, ◌<◌, Bool, List, length, take, count_by, slice_get, Some}
use Rattle.wcp_model.specs.declared.workload.Action.{Action}
use Rattle.wcp_model.specs.declared.workload.Action.TheVariants as action
use Rattle.wcp_model.specs.declared.workload.Task.{Task}
use Rattle.wcp_model.specs.WorkloadComputation.{sends, receives, IsFitOrder}
use Rattle.wcp_order.specs.declared.order.FitOrder.{FitOrder}
use Rattle.wcp_order.specs.declared.order.FitOrder.TheVariants as found

-- The task at one place sends the message that the task at another place receives: the m-th receive of a process from
-- another takes the m-th message sent to it from there (Lamport 1978: channels in order).
pub record AreSendAndReceive (tasks : List Task) (sent received : ℕ) : Type 0 where
  pub from : ℕ
  pub to : ℕ
  pub send : slice_get tasks sent ≡ Some (record { p = from; action = action.Send to })
  pub receive : slice_get tasks received ≡ Some (record { p = to; action = action.Recv from })
  pub same_number : count_by (receives from to) (take received tasks) ≡ count_by (sends from to) (take sent tasks)

-- An earlier task of the process p stands at place j, before place i.
pub record IsEarlier (tasks : List Task) (p j i : ℕ) : Type 0 where
  pub before : j < i
  pub act : Action
  pub same_process : slice_get tasks j ≡ Some (record { p = p; action = act })

-- The task at a place can be done: all earlier tasks of its process can, and, if it receives, so can the task that
-- sends its message (the least set that is closed under Lamport's order of events, 1978).
pub data CanBeDone (tasks : List Task) : ℕ → Type 0 where
  Observing : (i p : ℕ) (holds : Bool) → slice_get tasks i ≡ Some (record { p = p; action = action.Observe holds }) →
      ((j : ℕ) → IsEarlier tasks p j i → CanBeDone tasks j) → CanBeDone tasks i
  Sending : (i p to : ℕ) → slice_get tasks i ≡ Some (record { p = p; action = action.Send to }) →
      ((j : ℕ) → IsEarlier tasks p j i → CanBeDone tasks j) → CanBeDone tasks i
  Receiving : (i sent : ℕ) (message : AreSendAndReceive tasks sent i) → CanBeDone tasks sent →
      ((j : ℕ) → IsEarlier tasks message.to j i → CanBeDone tasks j) → CanBeDone tasks i

-- The task at place i is the first one that can never be done.
pub record IsFirstStuck (tasks : List Task) (i : ℕ) : Type 0 where
  pub inside : i < length tasks
  pub stuck : CanBeDone tasks i → ⊥
  pub before : (j : ℕ) → j < i → CanBeDone tasks j

-- Where a fit order of tasks was found, which may be that in which they are listed, P holds of it.
abbrev pub IfOrder : List Task → FitOrder → (List Task → Type 0) → Type 0
IfOrder tasks found.AsListed P = P tasks
IfOrder tasks (found.Order order) P = P order.items
IfOrder tasks (found.Stuck place) P = Unit {0}

-- The order that was found is that in which the tasks are listed.
abbrev pub IsAsListed : FitOrder → Type 0
IsAsListed found.AsListed = Unit {0}
IsAsListed (found.Order order) = ⊥
IsAsListed (found.Stuck place) = ⊥

-- Where a stuck task was found, P holds of its place.
abbrev pub IfStuck : FitOrder → (ℕ → Type 0) → Type 0
IfStuck found.AsListed P = Unit {0}
IfStuck (found.Order order) P = Unit {0}
IfStuck (found.Stuck place) P = P place

-- A workload is stuck at a place if it has no fit order, and the task there is the first that can never be done.
pub record IsStuckAt (tasks : List Task) (place : ℕ) : Type 0 where
  pub no_order : (order : List Task) → IsFitOrder tasks order → ⊥
  pub first : IsFirstStuck tasks place
