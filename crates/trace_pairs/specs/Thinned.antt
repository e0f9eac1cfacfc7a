-- What can be left out of what was taken: no moment changes, nor what may follow.
use Rattle.std.specs.Prelude.{◌≡◌, ℕ, ◌<◌, ◌≤◌, true, List, length, take, Contains, slice_index_or}
use Rattle.trace_log.specs.Event.{Event}
use Rattle.trace_log.specs.Log.{Logged}
use Rattle.trace_log.specs.Order.{last_clock}
use Rattle.trace_moment.specs.Moment.{Taken, own, events_of, IsLater, MayFollow}
use Rattle.trace_moment.specs.Elimination.{LastKnowsAll}
use Rattle.trace_condition.specs.Asked.{Text}

-- A later event that is kept ends the state of an event no later than this one does.
pub record EndsBy (kept : List Taken) (event : Event) (other : Taken) : Type 0 where
  pub ending : Taken
  pub later : IsLater kept event ending
  pub by : own ending.logged.event ≤ own other.logged.event

-- Of what was taken, each event is kept at which the condition holds, one that ends its state as early as any does, and
-- the last clock of each host.
pub record Thins (kept full : List Taken) : Type 0 where
  pub among : (one : Taken) → Contains kept one → Contains full one
  pub held : (logged : Logged) → Contains full (record { logged = logged; holds = true }) →
      Contains kept (record { logged = logged; holds = true })
  pub ends : (logged : Logged) → Contains kept (record { logged = logged; holds = true }) → (other : Taken) →
      IsLater full logged.event other → EndsBy kept logged.event other
  pub last : (host : Text) → last_clock host (events_of kept) ≡ last_clock host (events_of full)
  pub knows_all : LastKnowsAll full

-- Each one may follow those before it.
abbrev pub AreInTurn : List Taken → Type 0
AreInTurn taken = (p : ℕ) (one : Taken) → p < length taken →
    MayFollow (take p taken) (slice_index_or taken p one).logged.event
