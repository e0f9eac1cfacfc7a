-- A workload that runs in threads: its parts, and their ends.
use Rattle.std.specs.Prelude.{◌≡◌, ℕ, List, [], ◌∷◌, All}
use Rattle.wcp_model.specs.PlanFault.{IsCheckedPlan}
use Rattle.wcp_model.specs.WorkloadComputation.{IsWithin}
use Rattle.wcp_model.specs.declared.plan.Plan.{Plan}
use Rattle.wcp_model.specs.declared.workload.Task.{Task}
use Rattle.wcp_relay.specs.declared.parts.Watch.{Watch}
use Rattle.wcp_relay.specs.Watches.{IsWired}
use Rattle.wcp_queue.specs.Panel.{watched_by}
use Rattle.wcp_worker.specs.declared.worker.Worker.{Worker}
use Rattle.wcp_worker.specs.declared.worker_end.WorkerEnd.{WorkerEnd}
use Rattle.wcp_worker.specs.Played.{IsEndOfWorker}
use Rattle.wcp_worker.specs.Workers.{AreWorkersOf}
use Rattle.wcp_watch.specs.declared.running.Parts.{Parts}
use Rattle.wcp_watch.specs.declared.running.Ends.{Ends}
use Rattle.wcp_watch.specs.CheckerEnds.{IsFreshFor}
use Rattle.wcp_watch.specs.RunParts.{HaveEnded}

-- The parts of a watch that was wired as a plan says: a worker for each process, which has its probe and does what the
-- tasks say, the relays, and a fresh panel of one question, for the conditions of those that are watched.
pub record ArePartsOf (plan : Plan) (tasks : List Task) (parts : Parts Worker) : Type 0 where
  pub number : ℕ
  pub watch : Watch
  pub wired : IsWired plan number watch
  pub workers : AreWorkersOf tasks watch.probes.items parts.workers.items
  pub relays : parts.relays.items ≡ watch.relays.items
  pub inbox : parts.checking.inbox ≡ watch.inbox
  pub watched : watched_by parts.checking.panel ≡ plan.watched ∷ []
  pub fresh : IsFreshFor parts.checking.inbox parts.checking.panel

-- These are the ends of such parts, of tasks under a checked plan.
pub record AreEndsOfRun (plan : Plan) (tasks : List Task) (ends : Ends WorkerEnd) : Type 0 where
  pub checked : IsCheckedPlan plan
  pub within : All (IsWithin plan.n) tasks
  pub parts : Parts Worker
  pub are : ArePartsOf plan tasks parts
  pub ended : HaveEnded IsEndOfWorker parts ends
