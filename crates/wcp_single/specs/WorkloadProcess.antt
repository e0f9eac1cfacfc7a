use Rattle.std.specs.Prelude.{◌≡◌, ◌≢◌, ℕ, ◌<◌, ◌≤◌, List, [], ◌∷◌, ◌++◌, length, slice_index, None, false}
use Rattle.wcp_clock.specs.Limits.{most_events}
use Rattle.wcp_clock.specs.ProcessNumbers.{NumberSet}
use Rattle.wcp_model.specs.declared.flag.Flag.{Flag}
use Rattle.wcp_clock.specs.declared.note.Item.{Item}
use Rattle.wcp_model.specs.ProbeLog.{Call, setup, state_of_log}
use Rattle.wcp_model.specs.Report.{notes_taken}
use Rattle.wcp_model.specs.declared.probe_setup.ProbeSetup.{ProbeSetup}
use Rattle.wcp_probe.specs.Core.{StandsForLog, setup_of}
use Rattle.wcp_probe.specs.Seal.{Seal}
use Rattle.wcp_queue.specs.Checker.{CheckerState, processes, StandsForItems}
use Rattle.wcp_single.specs.declared.workload_process.WorkloadProcess.{WorkloadProcess}

-- A process whose probe is made with this runs by this log: its probe is open and stands for it, and nothing is
-- pending.
pub record IsRunning (made : ProbeSetup) (log : List Call) (process : WorkloadProcess) : Type 0 where
  pub number : process.id ≡ made.process
  pub watch : process.probe.watch ≡ 0
  pub limit : process.probe.limit ≡ most_events
  pub made_with : setup_of process.probe ≡ made
  pub stands : StandsForLog process.probe log
  pub not_closed : process.probe.closed ≡ false
  pub none_pending : process.probe.pending ≡ None

-- The process makes a call of its probe: whatever log it ran by, it now runs by that log with the call at its end.
abbrev pub MakesCall : WorkloadProcess → Call → WorkloadProcess → Type 0
MakesCall old call new = (made : ProbeSetup) (log : List Call) → IsRunning made log old →
    IsRunning made (log ++ call ∷ []) new

-- The process may make a communication event: its probe is open with nothing pending, and its clock has room.
pub record MayCommunicate (process : WorkloadProcess) : Type 0 where
  pub not_closed : process.probe.closed ≡ false
  pub none_pending : process.probe.pending ≡ None
  pub room : slice_index process.probe.clock process.probe.id < process.probe.limit

-- The process may receive a message with this seal.
pub record MayReceive (process : WorkloadProcess) (seal : Seal) : Type 0 where
  pub communicate : MayCommunicate process
  pub watch : seal.watch ≡ process.probe.watch
  pub components : length seal.clock ≡ length process.probe.clock
  pub addressed : seal.to ≡ process.probe.id
  pub not_ahead : slice_index seal.clock process.probe.id ≤ slice_index process.probe.clock process.probe.id

-- A checker of n processes has taken these items, and wasn't starved.
pub record HasTaken (n : ℕ) (watched : NumberSet) (items : List Item) (checker : CheckerState) : Type 0 where
  pub processes_are : processes checker ≡ n
  pub watched_are : checker.watched ≡ watched
  pub stands : StandsForItems checker items
  pub not_starved : checker.starved ≡ false

-- A checker of n processes has taken these items, and with them all that process p emits by this log.
pub record IsFed (n : ℕ) (watched : NumberSet) (flag : Flag) (p : ℕ) (log : List Call) (items : List Item)
    (checker : CheckerState) : Type 0 where
  pub within : p < n
  pub has_taken : HasTaken n watched items checker
  pub all : notes_taken p items ≡ (state_of_log (setup n watched flag p) log).notes

-- The checker has taken all that the process has emitted.
pub record IsCaughtUp (process : WorkloadProcess) (checker : CheckerState) : Type 0 where
  pub n : ℕ
  pub watched : NumberSet
  pub flag : Flag
  pub log : List Call
  pub items : List Item
  pub running : IsRunning (setup n watched flag process.id) log process
  pub fed : IsFed n watched flag process.id log items checker

-- After these items, the checker has taken all else that process p emits by this log, and nothing of another process.
pub record IsFedMore (n : ℕ) (watched : NumberSet) (flag : Flag) (p : ℕ) (log : List Call) (items : List Item)
    (checker : CheckerState) : Type 0 where
  pub more : List Item
  pub fed : IsFed n watched flag p log more checker
  pub others : (q : ℕ) → q ≢ p → notes_taken q more ≡ notes_taken q items

-- The checker takes what the probe of a process emits by a call, and nothing else.
abbrev pub Feeds : WorkloadProcess → Call → CheckerState → CheckerState → Type 0
Feeds process call old new = (n : ℕ) (watched : NumberSet) (flag : Flag) (p : ℕ) (log : List Call) (items : List Item) →
    IsRunning (setup n watched flag p) log process → IsFed n watched flag p log items old →
    IsFedMore n watched flag p (log ++ call ∷ []) items new
