use Rattle.std.specs.Prelude.{◌≡◌, ℕ, ◌<◌, Bool, List, [], ◌∷◌, ◌++◌, count_by, filter, map, All}
use Rattle.std.specs.List.{scan, zip}
use Rattle.wcp_clock.specs.ProcessNumbers.{NumberSet}
use Rattle.wcp_model.specs.declared.workload.Action.{Action}
use Rattle.wcp_model.specs.declared.workload.Action.TheVariants as action
use Rattle.wcp_model.specs.declared.workload.Task.{Task}
use Rattle.wcp_model.specs.declared.flag.Flag.{Flag}
use Rattle.wcp_model.specs.declared.probe_setup.ProbeSetup.{ProbeSetup}
use Rattle.wcp_model.specs.ProbeLog.{Call, Observed, Sent, Received, Closed, setup, after_call, state_of_log, IsLogOf}
use Rattle.wcp_model.specs.WorkloadComputation.{is_task_of, is_send_to, is_receive_from, sends, computation_of}
use Rattle.wcp_model.specs.WorkloadComputation.{IsWithin, IsFitOrder}

-- What process p does among these tasks, in order.
abbrev pub actions_of : ℕ → List Task → List Action
actions_of p tasks = map (λ task. task.action) (filter (is_task_of p) tasks)

-- The call that an action makes of a probe: an observation or a send itself, a receive with whatever clock the stamp
-- of its message carried.
abbrev pub IsCallFor : Action → Call → Type 0
IsCallFor (action.Observe holds) (Observed seen) = holds ≡ seen
IsCallFor (action.Send to) Sent = Unit {0}
IsCallFor (action.Recv from) (Received stamp) = Unit {0}
IsCallFor _ _ = ⊥

-- A log follows actions if it has a call for each of them, in order.
abbrev pub FollowsActions : List Action → List Call → Type 0
FollowsActions [] [] = Unit {0}
FollowsActions (act ∷ actions) (call ∷ calls) = IsCallFor act call × FollowsActions actions calls
FollowsActions [] (call ∷ calls) = ⊥
FollowsActions (act ∷ actions) [] = ⊥

-- What stands beside the actions that pass the test.
abbrev pub beside : {X : Type 0} → (Action → Bool) → List Action → List X → List X
beside test actions xs = map (λ pair. pair.1) (filter (λ pair. test pair.0) (zip actions xs))

-- The clock of a probe after each call of its log.
abbrev pub clocks_after : ProbeSetup → List Call → List (List ℕ)
clocks_after made log =
    scan (after_call made) (λ s call. (after_call made s call).clock) (state_of_log made []) log

-- The clock that the stamp of a received message carried.
abbrev pub stamp_of : Call → List ℕ
stamp_of (Received stamp) = stamp
stamp_of _ = []

-- The stamps that a process sends to q: after each send to q, the clock of its probe (Fidge 1988; Mattern 1989).
abbrev pub stamps_sent : ProbeSetup → ℕ → List Action → List Call → List (List ℕ)
stamps_sent made q actions log = beside (is_send_to q) actions (clocks_after made log)

-- The stamps that a process receives from p, in order.
abbrev pub stamps_got : ℕ → List Action → List Call → List (List ℕ)
stamps_got p actions log = beside (is_receive_from p) actions (map stamp_of log)

-- Logs are of tasks if each follows what its process does, and for each two processes of which the tasks send from one
-- to the other, the stamps that this gets are a prefix of those that the first sends.
pub record AreLogsOfTasks (n : ℕ) (watched : NumberSet) (flag : Flag) (tasks : List Task) (logs : ℕ → List Call)
    : Type 0 where
  pub follows : (p : ℕ) → p < n → FollowsActions (actions_of p tasks) (logs p)
  pub in_order : (p q : ℕ) → p < n → q < n → 0 < count_by (sends p q) tasks →
      (in_transit : List (List ℕ)) × (stamps_got p (actions_of q tasks) (logs q) ++ in_transit
      ≡ stamps_sent (setup n watched flag p) q (actions_of p tasks) (logs p))

-- The task log law: each log of tasks, with its close, is the log of its process in the computation of any fit order of
-- these tasks.
abbrev pub TaskLogLaw : Type 0
TaskLogLaw =
    (n : ℕ) (watched : NumberSet) (flag : Flag) (tasks order : List Task) (logs : ℕ → List Call) →
    All (IsWithin n) tasks → IsFitOrder tasks order → AreLogsOfTasks n watched flag tasks logs → (p : ℕ) → p < n →
    IsLogOf n (computation_of n order) p (logs p ++ Closed ∷ [])
