-- The parts of a run, and what they leave.
use Rattle.std.specs.Prelude.{◌≡◌, [], map, All}
use Rattle.wcp_threads.specs.Threads.{AreEndsOf}
use Rattle.wcp_queue.specs.Panel.{watched_by}
use Rattle.wcp_relay.specs.RelayEnds.{IsEndOfRelay}
use Rattle.wcp_watch.specs.declared.running.Parts.{Parts}
use Rattle.wcp_watch.specs.declared.running.Ends.{Ends}
use Rattle.wcp_watch.specs.declared.running.Rooms.{Rooms}
use Rattle.wcp_watch.specs.declared.running.Running.{Running}
use Rattle.wcp_watch.specs.CheckerEnds.{IsFreshFor, IsEndOfLoop}

-- The parts of a run may run.
pub record AreReady {W : Type 0} (IsReady : W → Type 0) (parts : Parts W) : Type 0 where
  pub workers : All IsReady parts.workers.items
  pub checking : IsFreshFor parts.checking.inbox parts.checking.panel

-- The parts of a run have ended: each left an end at its place.
pub record HaveEnded {W E : Type 0} (IsEnd : W → E → Type 0) (parts : Parts W) (ends : Ends E) : Type 0 where
  pub workers : AreEndsOf IsEnd parts.workers.items ends.workers.items
  pub relays : AreEndsOf IsEndOfRelay parts.relays.items ends.relays.items
  pub checker : IsEndOfLoop parts.checking.inbox (watched_by parts.checking.panel) ends.checker

-- The threads of a run are those of its parts.
pub record AreThreadsOf {W E : Type 0} (parts : Parts W) (threads : Running W E) : Type 0 where
  pub workers : map (λ thread. thread.promise.0.value) threads.workers.items ≡ parts.workers.items
  pub relays : map (λ thread. thread.promise.0.value) threads.relays.items ≡ parts.relays.items
  pub checking : threads.checking.promise.0.value ≡ parts.checking

-- There is nothing in these rooms yet.
pub record AreEmptyRooms {W E : Type 0} (rooms : Rooms W E) : Type 0 where
  pub worker_threads : rooms.worker_threads.items ≡ []
  pub relay_threads : rooms.relay_threads.items ≡ []
  pub worker_ends : rooms.worker_ends.items ≡ []
  pub relay_ends : rooms.relay_ends.items ≡ []
