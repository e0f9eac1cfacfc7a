-- What a worker does: the calls that its actions make of its probe, and what goes over its lanes.
use Rattle.std.specs.Prelude.{◌≡◌, ℕ, IfSome, IsSome, List, [], ◌∷◌, ◌++◌, if◌then◌else◌}
use mathlib.Core.List.{IsPrefix}
use Rattle.wcp_model.specs.declared.workload.Action.{Action}
use Rattle.wcp_model.specs.ProbeLog.{Call}
use Rattle.wcp_model.specs.TaskLog.{IsCallFor, FollowsActions, stamp_of, stamps_sent, stamps_got}
use Rattle.wcp_model.specs.WorkloadComputation.{is_send_to, is_receive_from}
use Rattle.wcp_probe.specs.Core.{setup_of}
use Rattle.wcp_relay.specs.LiveProbe.{ClosedSide, HasEmitted, IsEndOfProbe, IsSameLive, LiveFor, LiveAccepts}
use Rattle.wcp_worker.specs.declared.mailbox.Mailbox.{Mailbox}
use Rattle.wcp_worker.specs.declared.player.Player.{Player}
use Rattle.wcp_worker.specs.declared.worker.Worker.{Worker}
use Rattle.wcp_worker.specs.declared.worker_end.WorkerEnd.{WorkerEnd}
use Rattle.wcp_worker.specs.declared.worker_end.WorkerEnd.TheVariants.{Whole, GaveUp}
use Rattle.wcp_worker.specs.Mailboxes.{IsMailboxOf, HasSameLanes, clocks_sent_to, clocks_taken_from}

-- A player makes the call of an action: what it sends to q has the clock of its probe after the send, and what it
-- receives from q is what it took from there.
pub record DoesAction (old : Player) (act : Action) (call : Call) (new : Player) : Type 0 where
  pub is_call : IsCallFor act call
  pub accepted : LiveAccepts old.probe call new.probe
  pub lanes : HasSameLanes old.mailbox new.mailbox
  pub own : IsMailboxOf new.probe.core.id new.mailbox
  pub sent : (q : ℕ) → clocks_sent_to new.probe.core.id new.mailbox q ≡ clocks_sent_to new.probe.core.id old.mailbox q
      ++ (if is_send_to q act then new.probe.core.clock ∷ [] else [])
  pub taken : (q : ℕ) → clocks_taken_from new.mailbox q ≡ clocks_taken_from old.mailbox q
      ++ (if is_receive_from q act then stamp_of call ∷ [] else [])

-- A player that began so has done these actions by these calls: its probe stands for them, what it put on its lane to
-- q are the stamps sent to q, and what it took from there are the stamps got.
pub record HasDoneActions (start : Player) (actions : List Action) (log : List Call) (now : Player) : Type 0 where
  pub follows : FollowsActions actions log
  pub stands : LiveFor now.probe log
  pub probe : IsSameLive start.probe now.probe
  pub lanes : HasSameLanes start.mailbox now.mailbox
  pub own : IsMailboxOf now.probe.core.id now.mailbox
  pub sent : (q : ℕ) →
      clocks_sent_to now.probe.core.id now.mailbox q ≡ stamps_sent (setup_of now.probe.core) q actions log
  pub taken : (q : ℕ) → clocks_taken_from now.mailbox q ≡ stamps_got q actions log

-- A player before its first action: nothing was observed, sent or taken.
abbrev pub IsFreshPlayer : Player → Type 0
IsFreshPlayer player = HasDoneActions player [] [] player

-- What a worker leaves that did all its actions by these calls: its probe put the emissions of these and of the close,
-- what it put on its lane to q are the stamps sent to q, and the stamps got from q are the first that it took of those
-- that came from there.
pub record HasPlayed (worker : Worker) (log : List Call) (probe : ClosedSide) (mailbox : Mailbox) : Type 0 where
  pub follows : FollowsActions worker.actions.items log
  pub closed : IsEndOfProbe worker.player.probe probe
  pub emitted : HasEmitted worker.player.probe log probe
  pub lanes : HasSameLanes worker.player.mailbox mailbox
  pub sent : (q : ℕ) → clocks_sent_to worker.player.probe.core.id mailbox q
      ≡ stamps_sent (setup_of worker.player.probe.core) q worker.actions.items log
  pub taken : (q : ℕ) → IsPrefix (stamps_got q worker.actions.items log) (clocks_taken_from mailbox q)

-- What a worker leaves: all that its actions stand for, or, where it gave up, its closed probe alone.
abbrev pub IsEndOfWorker : Worker → WorkerEnd → Type 0
IsEndOfWorker worker (Whole probe mailbox) = (log : List Call) × HasPlayed worker log probe mailbox
IsEndOfWorker worker (GaveUp fault probe) = IfSome probe (IsEndOfProbe worker.player.probe) × IsSome probe
