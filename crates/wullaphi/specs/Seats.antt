-- Processes with their probes, before they run and as they have run.
use Rattle.std.specs.Prelude.{◌≡◌, ℕ, Bool, None, IfNone, IfSome, List, [], is_some, map}
use Rattle.wcp_clock.specs.ProcessNumbers.{NumberSet}
use Rattle.wcp_model.specs.declared.plan.Plan.{Plan}
use Rattle.wcp_probe.specs.Core.{setup_of}
use Rattle.wcp_queue.specs.Panel.{watched_by}
use Rattle.wcp_relay.specs.LiveProbe.{IsEndOfProbe, LiveFor, LiveSide}
use Rattle.wcp_relay.specs.Watches.{IsWired}
use Rattle.wcp_relay.specs.declared.parts.Watch.{Watch}
use Rattle.wcp_watch.specs.CheckerEnds.{IsFreshFor}
use Rattle.wcp_watch.specs.declared.running.Parts.{Parts}
use Rattle.wullaphi.specs.Lent.{HasLeft, HasRun}
use Rattle.wullaphi.specs.declared.seat.Seat.{Seat}
use Rattle.wullaphi.specs.declared.seat.SeatEnd.{SeatEnd}

-- The probe of a seat has made no call.
pub record IsNewSeat {P : Type 0} (seat : Seat P) : Type 0 where
  pub fresh : LiveFor seat.probe []
  pub put : seat.probe.core.pending ≡ None

-- What is left of a process that has run: its answer, and the end of its probe, which was closed just where the part of
-- the process is done.
pub record IsEndOfSeat {P A : Type 0} (Leaves : P → LiveSide → A → Type 0) (done : A → Bool)
    (seat : Seat P) (end : SeatEnd A) : Type 0 where
  pub done_is : is_some end.probe ≡ done end.answer
  pub closed : IfSome end.probe (λ probe. IsEndOfProbe seat.probe probe)
  pub ran : IfSome end.probe (λ probe.
      HasRun Leaves seat.probe.core.watch (setup_of seat.probe.core) seat.process end.answer probe.link.put)
  pub lost : IfNone end.probe
      (HasLeft Leaves seat.probe.core.watch (setup_of seat.probe.core) seat.process end.answer)

-- The parts of a watch of this number that was wired as a plan says: a seat for each process, which has its probe, the
-- relays, and a fresh panel of these questions.
pub record ArePartsOf {P : Type 0} (plan : Plan) (number : ℕ) (questions : List NumberSet) (processes : List P)
    (parts : Parts (Seat P)) : Type 0 where
  pub watch : Watch
  pub wired : IsWired plan number watch
  pub probes : map (λ seat. seat.probe) parts.workers.items ≡ watch.probes.items
  pub processes_are : map (λ seat. seat.process) parts.workers.items ≡ processes
  pub relays : parts.relays.items ≡ watch.relays.items
  pub inbox : parts.checking.inbox ≡ watch.inbox
  pub watched : watched_by parts.checking.panel ≡ questions
  pub fresh : IsFreshFor parts.checking.inbox parts.checking.panel
