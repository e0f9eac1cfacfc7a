use Rattle.std.specs.Prelude.{◌≡◌, ◌==◌, ◌&&◌, ◌≢◌, ℕ, ◌+◌, ◌-◌, ◌<◌, ◌≤◌, ◌↔◌, Bool, true, false, List, [], ◌∷◌, ◌++◌}
use Rattle.std.specs.Prelude.{length, take, count_by, filter, map, All, if◌then◌else◌}
use Rattle.std.specs.List.{range_with_len}
use Rattle.wcp_clock.specs.Limits.{most_processes, most_steps}
use Rattle.wcp_model.specs.declared.step.Step.{Step}
use Rattle.wcp_model.specs.declared.step.Step.TheVariants as step
use Rattle.wcp_model.specs.declared.workload.Action.{Action}
use Rattle.wcp_model.specs.declared.workload.Action.TheVariants as action
use Rattle.wcp_model.specs.declared.workload.Task.{Task}
use Rattle.wcp_model.specs.declared.state.State.{State}
use Rattle.wcp_model.specs.Computation.{Computation, communications, IsTrueState}
use Rattle.wcp_model.specs.Order.{HappenedBefore}

abbrev pub is_task_of : ℕ → Task → Bool
is_task_of p task = task.p == p

abbrev pub is_send_to : ℕ → Action → Bool
is_send_to q (action.Send to) = to == q
is_send_to q _ = false

abbrev pub is_receive_from : ℕ → Action → Bool
is_receive_from q (action.Recv from) = from == q
is_receive_from q _ = false

abbrev pub is_any_send : Action → Bool
is_any_send (action.Send to) = true
is_any_send _ = false

-- The tasks by which process p sends to process q, and those by which q receives from p.
abbrev pub sends : ℕ → ℕ → Task → Bool
sends p q task = is_task_of p task && is_send_to q task.action

abbrev pub receives : ℕ → ℕ → Task → Bool
receives p q task = is_task_of q task && is_receive_from p task.action

-- An order of all tasks is fit if it keeps the order of each process, and if no prefix of it has more receives by q
-- from p than sends by p to q: the m-th receive stands after the m-th send (Lamport 1978: an order that
-- happened-before allows).
pub record IsFitOrder (tasks order : List Task) : Type 0 where
  pub same_tasks : (p : ℕ) → filter (is_task_of p) order ≡ filter (is_task_of p) tasks
  pub sent_first : (place p q : ℕ) →
      count_by (receives p q) (take place order) ≤ count_by (sends p q) (take place order)

-- The partner of a send or a receive by process p is one of the n processes, and another than p.
abbrev pub HasPartner : ℕ → ℕ → Action → Type 0
HasPartner n p (action.Observe holds) = Unit {0}
HasPartner n p (action.Send to) = (to < n) × (to ≢ p)
HasPartner n p (action.Recv from) = (from < n) × (from ≢ p)

-- The task of a process below n has such a partner, if it is a send or a receive.
abbrev pub IsWithin : ℕ → Task → Type 0
IsWithin n task = (task.p < n) × HasPartner n task.p task.action

-- A workload of n processes could be read: its numbers are within the limits, and its tasks have a fit order.
pub record CouldBeRead (n : ℕ) (tasks : List Task) : Type 0 where
  pub some : 1 ≤ n
  pub few_processes : n ≤ most_processes
  pub few_tasks : length tasks ≤ most_steps
  pub within : All (IsWithin n) tasks
  pub order : List Task
  pub fit : IsFitOrder tasks order

-- The place of the element that passes the test after `earlier` others that do.
abbrev pub place_after : (Task → Bool) → ℕ → List Task → ℕ
place_after test earlier [] = 0
place_after test earlier (task ∷ tasks) =
    if test task then (if earlier == 0 then 0 else 1 + place_after test (earlier - 1) tasks)
    else 1 + place_after test earlier tasks

-- The number of the message that p sends to q after `earlier` others to q: its place among all sends of the order.
abbrev pub message_number : List Task → ℕ → ℕ → ℕ → ℕ
message_number order p q earlier = place_after (sends p q) earlier (filter (λ task. is_any_send task.action) order)

-- The step that an action of process p stands for, after these earlier tasks of the order.
abbrev pub step_of : List Task → List Task → ℕ → Action → Step
step_of order earlier p (action.Observe holds) = step.Observe p holds
step_of order earlier p (action.Send to) = step.Send p to
step_of order earlier p (action.Recv from) =
    step.Recv p (message_number order from p (count_by (receives from p) earlier))

abbrev pub steps_from : List Task → List Task → List Task → Computation
steps_from order earlier [] = []
steps_from order earlier (task ∷ tasks) =
    step_of order earlier task.p task.action ∷ steps_from order (earlier ++ task ∷ []) tasks

-- The computation of a fit order of n processes: the step of each task, in order, and then each process closes.
abbrev pub computation_of : ℕ → List Task → Computation
computation_of n order = steps_from order [] order ++ map step.Close (range_with_len 0 n)

-- Two computations have the same states, order and truths.
pub record AreAlike (c d : Computation) : Type 0 where
  pub states : (p : ℕ) → communications c p ≡ communications d p
  pub order : (s t : State) → HappenedBefore c s t ↔ HappenedBefore d s t
  pub truths : (s : State) → IsTrueState c s ↔ IsTrueState d s

-- The fit-order law: all fit orders of a workload give the same states, order and truths.
abbrev pub FitOrderLaw : Type 0
FitOrderLaw =
    (n : ℕ) (tasks one other : List Task) → IsFitOrder tasks one → IsFitOrder tasks other →
    AreAlike (computation_of n one) (computation_of n other)
