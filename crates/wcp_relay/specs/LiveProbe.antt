-- What a live probe has, and the log of calls that it stands for.
use Rattle.std.specs.Prelude.{◌≡◌, ℕ, false, Option, Some, None, List, [], ◌∷◌, ◌++◌, count_by, length, replicate}
use Rattle.std.specs.Prelude.{slice_get}
use Rattle.wcp_clock.specs.Limits.{most_events}
use Rattle.wcp_clock.specs.declared.note.Note.{Note}
use Rattle.wcp_clock.specs.ProcessNumbers.{NumberSet}
use Rattle.wcp_model.specs.declared.flag.Flag.{Flag}
use Rattle.wcp_model.specs.declared.probe_setup.ProbeSetup.{ProbeSetup}
use Rattle.wcp_model.specs.ProbeLog.{Call, Closed, setup, state_of_log}
use Rattle.wcp_model.specs.ReportByClocks.{AreRising}
use Rattle.wcp_model.specs.Report.{snapshot_clocks}
use Rattle.wcp_probe.specs.Core.{Core, StandsForLog, IsSameProbe, setup_of}
use Rattle.wcp_ring.specs.Ends.{PutSide, EndedSide}
use Rattle.wcp_clock.specs.Notes.{is_snapshot}

-- A live probe has a core, and the end of its ring that puts.
pub record LiveSide : Type 0 where
  pub core : Core
  pub link : PutSide

-- What is left of a closed one: its watch, its process, and its end of the ring.
pub record ClosedSide : Type 0 where
  pub watch : ℕ
  pub id : ℕ
  pub link : EndedSide

-- The core of a probe before any call.
abbrev pub fresh_core : ℕ → ProbeSetup → Core
fresh_core watch made = record {
  watch = watch;
  id = made.process;
  watched = made.watched;
  flag = made.flag;
  limit = most_events;
  clock = replicate made.processes 0;
  flag_up = false;
  closed = false;
  emitted = 0;
  pending = None;
}

-- The probes of n processes before any call, by the numbers of the processes.
pub record AreFreshProbes (n : ℕ) (watched : NumberSet) (flag : Flag) (probes : List LiveSide) : Type 0 where
  pub count : length probes ≡ n
  pub each : (p : ℕ) (probe : LiveSide) → slice_get probes p ≡ Some probe
      → (probe.core ≡ fresh_core probe.core.watch (setup n watched flag p)) × (probe.link.put ≡ [])

-- The note that is pending, if there is one.
abbrev pub pending_notes : Option Note → List Note
pending_notes (Some note) = note ∷ []
pending_notes None = []

-- What a live probe has emitted: what its end of the ring has put, followed by what is pending.
abbrev pub emitted_by : LiveSide → List Note
emitted_by probe = probe.link.put ++ pending_notes probe.core.pending

-- How many of these notes are snapshots.
abbrev pub snapshots_in : List Note → ℕ
snapshots_in notes = count_by is_snapshot notes

-- The emissions of a log, for the process and the number of processes of a core.
abbrev pub emissions_of : Core → List Call → List Note
emissions_of core log = (state_of_log (setup_of core) log).notes

-- A live probe stands for a log where its core does, and what it has emitted is the emissions of the log.
pub record LiveFor (probe : LiveSide) (log : List Call) : Type 0 where
  pub core : StandsForLog probe.core log
  pub emissions : emitted_by probe ≡ emissions_of probe.core log

-- A live probe stands for the log of some calls.
abbrev pub HasLog : LiveSide → Type 0
HasLog probe = ∥ ((log : List Call) × LiveFor probe log) ∥₁

-- The clocks of the snapshots among these notes of process p never fall in a component, and rise in its own.
abbrev pub NotesRise : ℕ → List Note → Type 0
NotesRise p notes = AreRising p (snapshot_clocks notes)

-- A live probe after a call that was accepted: of whatever log it stood for, it now stands for that log with the call
-- at its end.
abbrev pub LiveAccepts : LiveSide → Call → LiveSide → Type 0
LiveAccepts old call new = (log : List Call) → LiveFor old log → LiveFor new (log ++ call ∷ [])

-- A probe keeps its core's numbers and its ring.
abbrev pub IsSameLive : LiveSide → LiveSide → Type 0
IsSameLive old new = IsSameProbe old.core new.core × (new.link.ring ≡ old.link.ring)

-- A closed probe is what became of a live one.
pub record IsEndOfProbe (probe : LiveSide) (end : ClosedSide) : Type 0 where
  pub watch : end.watch ≡ probe.core.watch
  pub id : end.id ≡ probe.core.id
  pub ring : end.link.ring ≡ probe.link.ring

-- A closed probe has put the emissions of the calls of a log and of the close.
abbrev pub HasEmitted : LiveSide → List Call → ClosedSide → Type 0
HasEmitted probe log end = end.link.put ≡ emissions_of probe.core (log ++ Closed ∷ [])
