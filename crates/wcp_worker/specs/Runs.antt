-- The workers of a workload that ran, and what a checker took of their processes.
use Rattle.wcp_clock.specs.ProcessNumbers.{NumberSet}
use Rattle.wcp_model.specs.declared.flag.Flag.{Flag}
use Rattle.std.specs.Prelude.{◌≡◌, ℕ, ◌<◌, true, Option, Some, None, List, length, slice_get}
use Rattle.std.specs.FinSet as set
use Rattle.wcp_clock.specs.declared.note.Item.{Item}
use Rattle.wcp_model.specs.declared.workload.Task.{Task}
use Rattle.wcp_model.specs.ProbeLog.{Call, setup}
use Rattle.wcp_model.specs.Report.{notes_taken}
use Rattle.wcp_model.specs.TaskLog.{actions_of}
use Rattle.wcp_probe.specs.Core.{setup_of}
use Rattle.wcp_relay.specs.LiveProbe.{ClosedSide}
use Rattle.wcp_worker.specs.declared.lane_ends.Inbox.{Inbox}
use Rattle.wcp_worker.specs.declared.lane_ends.Outbox.{Outbox}
use Rattle.wcp_worker.specs.declared.mailbox.Mailbox.{Mailbox}
use Rattle.wcp_worker.specs.declared.worker.Worker.{Worker}
use Rattle.wcp_worker.specs.Lanes.{IfBoth, messages_put, messages_taken, clocks_from}
use Rattle.wcp_worker.specs.Mailboxes.{outbox_to, inbox_from, clocks_sent_to, clocks_taken_from}
use Rattle.wcp_worker.specs.Played.{HasPlayed}

-- Process p ran by this log and left this mailbox: its worker, with a probe of process p of n, did all that the process
-- does in the tasks, and what was taken of p among the items is all that its probe put.
pub record HasRun (n : ℕ) (watched : NumberSet) (flag : Flag) (tasks : List Task) (items : List Item) (p : ℕ)
    (log : List Call) (mailbox : Mailbox) : Type 0 where
  pub worker : Worker
  pub probe : ClosedSide
  pub made : setup_of worker.player.probe.core ≡ setup n watched flag p
  pub actions : worker.actions.items ≡ actions_of p tasks
  pub played : HasPlayed worker log probe mailbox
  pub taken : notes_taken p items ≡ probe.link.put

-- The ends of the lane from p to q, among the mailboxes of all processes.
abbrev pub outbox_of : Option Mailbox → ℕ → Option Outbox
outbox_of (Some mailbox) q = outbox_to mailbox q
outbox_of None q = None

abbrev pub inbox_of : Option Mailbox → ℕ → Option Inbox
inbox_of (Some mailbox) p = inbox_from mailbox p
inbox_of None p = None

abbrev pub ends_between : List Mailbox → ℕ → ℕ → Option Outbox × Option Inbox
ends_between mailboxes p q = (outbox_of (slice_get mailboxes p) q, inbox_of (slice_get mailboxes q) p)

-- They are of one lane, by which process p sends.
pub record IsLaneOf (p : ℕ) (outbox : Outbox) (inbox : Inbox) : Type 0 where
  pub one_lane : outbox.putter.lane ≡ inbox.taker.lane
  pub own : set.contains outbox.putter.members p ≡ true

abbrev pub AreOfLane : ℕ → Option Outbox × Option Inbox → Type 0
AreOfLane p ends = IfBoth (IsLaneOf p) ends.0 ends.1

-- By this end process p sends, if it is there.
abbrev pub SendsFor : ℕ → Option Outbox → Type 0
SendsFor p (Some outbox) = set.contains outbox.putter.members p ≡ true
SendsFor p None = ⊥

-- What was put on it was all taken.
abbrev pub IsAllTaken : Option Outbox × Option Inbox → Type 0
IsAllTaken ends = (p : ℕ) → SendsFor p ends.0 →
    clocks_from p (messages_taken ends.1) ≡ clocks_from p (messages_put ends.0)

-- What was put on the lane between each two of these was all taken.
abbrev pub AreAllTaken : List Mailbox → Type 0
AreAllTaken mailboxes =
    (p q : ℕ) → p < length mailboxes → q < length mailboxes → IsAllTaken (ends_between mailboxes p q)

-- All messages between these were taken: what was taken of p from its lane to q is what p put on it.
abbrev pub AreMatched : List Mailbox → Type 0
AreMatched mailboxes = (p q : ℕ) (from to : Mailbox) → slice_get mailboxes p ≡ Some from →
    slice_get mailboxes q ≡ Some to → clocks_taken_from to p ≡ clocks_sent_to p from q

-- All n processes ran, each by a log of its own, and all messages between them were taken.
pub record HaveRun (n : ℕ) (watched : NumberSet) (flag : Flag) (tasks : List Task) (items : List Item)
    (mailboxes : List Mailbox) : Type 0 where
  pub count : length mailboxes ≡ n
  pub each : (p : ℕ) (mailbox : Mailbox) → slice_get mailboxes p ≡ Some mailbox →
      (log : List Call) × HasRun n watched flag tasks items p log mailbox
  pub matched : AreMatched mailboxes
