-- What the workers of a run left, taken apart.
use Rattle.std.specs.Prelude.{◌≡◌, Option, Some, None, List, map}
use Rattle.wcp_relay.specs.LiveProbe.{ClosedSide}
use Rattle.wcp_worker.specs.declared.mailbox.Mailbox.{Mailbox}
use Rattle.wcp_worker.specs.declared.worker_end.WorkerEnd.{WorkerEnd}
use Rattle.wcp_worker.specs.declared.worker_end.WorkerEnd.TheVariants.{Whole, GaveUp}
use Rattle.wcp_run.specs.declared.played_ends.PlayedEnds.{PlayedEnds}

-- The closed probe and the mailbox of a worker that played to its end.
abbrev pub probe_left : WorkerEnd → Option ClosedSide
probe_left (Whole probe mailbox) = Some probe
probe_left (GaveUp fault probe) = None

abbrev pub mailbox_left : WorkerEnd → Option Mailbox
mailbox_left (Whole probe mailbox) = Some mailbox
mailbox_left (GaveUp fault probe) = None

-- All these workers played to their end, and these are what they left.
pub record AreOfWorkers (workers : List WorkerEnd) (played : PlayedEnds) : Type 0 where
  pub probes : map probe_left workers ≡ map Some played.probes.items
  pub mailboxes : map mailbox_left workers ≡ map Some played.mailboxes.items
