use Rattle.std.specs.Prelude.{◌≡◌, ℕ, ◌+◌, ◌*◌, ◌<◌, ◌≤◌, List, [], ◌∷◌, ◌++◌, length, map, All}
use Rattle.std.specs.List.{slice_index_or}
use Rattle.wcp_clock.specs.Limits.{most_events}
use Rattle.wcp_clock.specs.ProcessNumbers.{NumberSet}
use Rattle.wcp_model.specs.declared.flag.Flag.{Flag}
use Rattle.wcp_clock.specs.declared.note.Item.{Item}
use Rattle.wcp_clock.specs.declared.note.Note.{Note}
use Rattle.wcp_model.specs.declared.workload.Task.{Task}
use Rattle.wcp_model.specs.ProbeLog.{Call, Closed, setup, state_of_log}
use Rattle.wcp_model.specs.Report.{notes_taken, snapshot_clocks}
use Rattle.wcp_model.specs.TaskLog.{actions_of, FollowsActions, stamps_sent, stamps_got, AreLogsOfTasks}
use Rattle.wcp_model.specs.WorkloadComputation.{IsWithin, IsFitOrder}
use Rattle.wcp_probe.specs.Seal.{Seal}
use Rattle.wcp_queue.specs.Checker.{CheckerState}
use Rattle.wcp_single.specs.declared.workload_process.WorkloadProcess.{WorkloadProcess}
use Rattle.wcp_single.specs.WorkloadProcess.{IsRunning, HasTaken}

-- The seals of the messages in transit on the channel of this number.
abbrev pub queue_at : List (List Seal) → ℕ → List Seal
queue_at queues channel = slice_index_or queues channel []

-- These are the seals of the messages from p to q that q has not received: each is of a message to q, and their stamps
-- are those that p has sent it behind those that it has got.
pub record IsChannel (n : ℕ) (watched : NumberSet) (flag : Flag) (done : List Task) (logs : ℕ → List Call) (p q : ℕ)
    (seals : List Seal) : Type 0 where
  pub addressed : All (λ seal. (seal.watch ≡ 0) × (seal.to ≡ q)) seals
  pub in_order : stamps_got p (actions_of q done) (logs q) ++ map (λ seal. seal.clock) seals
      ≡ stamps_sent (setup n watched flag p) q (actions_of p done) (logs p)

-- These tasks are done: each process runs by a log that follows what it does in them, the checker has taken what they
-- emitted, and each channel has its messages.
pub record HasDone (n : ℕ) (watched : NumberSet) (flag : Flag) (done : List Task) (processes : List WorkloadProcess)
    (queues : List (List Seal)) (checker : CheckerState) : Type 0 where
  pub processes_are : length processes ≡ n
  pub channels_are : length queues ≡ n * n
  pub logs : ℕ → List Call
  pub follows : (p : ℕ) → p < n → FollowsActions (actions_of p done) (logs p)
  pub running : (p : ℕ) (process : WorkloadProcess) → p < n →
      IsRunning (setup n watched flag p) (logs p) (slice_index_or processes p process)
  pub items : List Item
  pub has_taken : HasTaken n watched items checker
  pub all_taken : (p : ℕ) → p < n → notes_taken p items ≡ (state_of_log (setup n watched flag p) (logs p)).notes
  pub channels : (p q : ℕ) → p < n → q < n → IsChannel n watched flag done logs p q (queue_at queues (p * n + q))

-- The task may be done after these: they are a fit order with it.
pub record IsNextTask (n : ℕ) (done : List Task) (task : Task) : Type 0 where
  pub few_tasks : length done < most_events
  pub within : All (IsWithin n) (done ++ task ∷ [])
  pub fit : IsFitOrder (done ++ task ∷ []) (done ++ task ∷ [])

-- The task may be done next in the run that has come to these.
pub record MayDoNext (n : ℕ) (task : Task) (processes : List WorkloadProcess) (queues : List (List Seal))
    (checker : CheckerState) : Type 0 where
  pub done : List Task
  pub next : IsNextTask n done task
  pub watched : NumberSet
  pub flag : Flag
  pub run : HasDone n watched flag done processes queues checker

-- Process p ran by this log and closed: these notes are all that it emits.
pub record HasClosed (n : ℕ) (watched : NumberSet) (flag : Flag) (p : ℕ) (log : List Call) (notes : List Note)
    (process : WorkloadProcess) : Type 0 where
  pub all_taken : notes ≡ (state_of_log (setup n watched flag p) (log ++ Closed ∷ [])).notes
  pub counted : process.probe.emitted ≡ length (snapshot_clocks notes)

-- The run of these tasks ends: so many processes have closed, the others have only done their tasks, and the checker
-- has taken what they emitted.
pub record IsEnding (n : ℕ) (watched : NumberSet) (flag : Flag) (tasks : List Task) (ended : ℕ)
    (processes : List WorkloadProcess) (checker : CheckerState) : Type 0 where
  pub processes_are : length processes ≡ n
  pub logs : ℕ → List Call
  pub are : AreLogsOfTasks n watched flag tasks logs
  pub running : (p : ℕ) (process : WorkloadProcess) → ended ≤ p → p < n →
      IsRunning (setup n watched flag p) (logs p) (slice_index_or processes p process)
  pub items : List Item
  pub has_taken : HasTaken n watched items checker
  pub all_taken : (p : ℕ) → ended ≤ p → p < n →
      notes_taken p items ≡ (state_of_log (setup n watched flag p) (logs p)).notes
  pub has_closed : (p : ℕ) (process : WorkloadProcess) → p < ended →
      HasClosed n watched flag p (logs p) (notes_taken p items) (slice_index_or processes p process)
