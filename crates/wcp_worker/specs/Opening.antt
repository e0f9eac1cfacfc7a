-- Workers as their tasks and their lanes are given to them.
use Rattle.std.specs.Prelude.{◌≡◌, ℕ, ◌<◌, Option, None, List, [], ◌∷◌, ◌++◌, length, count_by, slice_index_or}
use Rattle.wcp_model.specs.declared.workload.Action.{Action}
use Rattle.wcp_model.specs.declared.workload.Task.{Task}
use Rattle.wcp_model.specs.TaskLog.{actions_of}
use Rattle.wcp_model.specs.WorkloadComputation.{is_send_to}
use Rattle.wcp_worker.specs.declared.lane_ends.Outbox.{Outbox}
use Rattle.wcp_worker.specs.declared.lane_ends.Inbox.{Inbox}
use Rattle.wcp_worker.specs.declared.worker.Worker.{Worker}
use Rattle.wcp_worker.specs.Lanes.{IsLaneFor}
use Rattle.wcp_worker.specs.Mailboxes.{outbox_to, inbox_from}

-- A worker with nothing to do and no lanes.
pub record IsIdle (worker : Worker) : Type 0 where
  pub actions : worker.actions.items ≡ []
  pub outboxes : worker.player.mailbox.outboxes.items ≡ []
  pub inboxes : worker.player.mailbox.inboxes.items ≡ []

-- The worker of process p was given what it does in these tasks.
pub record HasTasks (p : ℕ) (tasks : List Task) (old new : Worker) : Type 0 where
  pub player : new.player ≡ old.player
  pub actions : new.actions.items ≡ old.actions.items ++ actions_of p tasks

-- A worker keeps all but the ends by which messages come.
pub record IsSameButInboxes (old new : Worker) : Type 0 where
  pub probe : new.player.probe ≡ old.player.probe
  pub actions : new.actions ≡ old.actions
  pub outboxes : new.player.mailbox.outboxes ≡ old.player.mailbox.outboxes

-- The worker of process q was given the end by which the messages of a process p come, where this has these ends to
-- send by, and does these actions.
pub record HasRow (p : ℕ) (actions : List Action) (row : List (Option Outbox)) (q : ℕ) (old new : Worker) : Type 0 where
  pub same : IsSameButInboxes old new
  pub inbox : Option Inbox
  pub inboxes : new.player.mailbox.inboxes.items ≡ old.player.mailbox.inboxes.items ++ inbox ∷ []
  pub lane : IsLaneFor p (count_by (is_send_to q) actions) (slice_index_or row q None) inbox

-- The first k of these workers were given their ends to send by, and all were given the ends by which the messages of
-- these come.
pub record HaveLanes (k : ℕ) (olds news : List Worker) : Type 0 where
  pub count : length news ≡ length olds
  pub probe : (q : ℕ) (d : Worker) → q < length olds
      → (slice_index_or news q d).player.probe ≡ (slice_index_or olds q d).player.probe
  pub actions : (q : ℕ) (d : Worker) → q < length olds
      → (slice_index_or news q d).actions ≡ (slice_index_or olds q d).actions
  pub rows : (q : ℕ) (d : Worker) → q < k
      → length (slice_index_or news q d).player.mailbox.outboxes.items ≡ length olds
  pub columns : (q : ℕ) (d : Worker) → q < length olds
      → length (slice_index_or news q d).player.mailbox.inboxes.items ≡ k
  pub lanes : (p q : ℕ) (d : Worker) → p < k → q < length olds
      → IsLaneFor p (count_by (is_send_to q) (slice_index_or news p d).actions.items)
      (outbox_to (slice_index_or news p d).player.mailbox q) (inbox_from (slice_index_or news q d).player.mailbox p)
