-- The workers of a workload before any of them runs.
use Rattle.std.specs.Prelude.{◌≡◌, ℕ, Some, List, length, count_by, slice_get}
use Rattle.wcp_model.specs.declared.workload.Task.{Task}
use Rattle.wcp_model.specs.TaskLog.{actions_of}
use Rattle.wcp_model.specs.WorkloadComputation.{is_send_to}
use Rattle.wcp_relay.specs.LiveProbe.{LiveSide}
use Rattle.wcp_worker.specs.declared.worker.Worker.{Worker}
use Rattle.wcp_worker.specs.Lanes.{IsLaneFor}
use Rattle.wcp_worker.specs.Mailboxes.{outbox_to, inbox_from}
use Rattle.wcp_worker.specs.Played.{IsFreshPlayer}

-- The worker of process p has its probe, and what the tasks say that it does; it has done nothing.
pub record IsWorkerOf (tasks : List Task) (probes : List LiveSide) (p : ℕ) (worker : Worker) : Type 0 where
  pub probe : slice_get probes p ≡ Some worker.player.probe
  pub actions : worker.actions.items ≡ actions_of p tasks
  pub fresh : IsFreshPlayer worker.player

-- A worker for each process, and between each two a lane for what the one sends to the other.
pub record AreWorkersOf (tasks : List Task) (probes : List LiveSide) (workers : List Worker) : Type 0 where
  pub count : length workers ≡ length probes
  pub each : (p : ℕ) (worker : Worker) → slice_get workers p ≡ Some worker → IsWorkerOf tasks probes p worker
  pub lanes : (p q : ℕ) (from to : Worker) → slice_get workers p ≡ Some from → slice_get workers q ≡ Some to
      → IsLaneFor p (count_by (is_send_to q) from.actions.items)
      (outbox_to from.player.mailbox q) (inbox_from to.player.mailbox p)
