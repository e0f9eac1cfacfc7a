-- The events of a log, as those of its watched hosts.
use Rattle.std.specs.Prelude.{◌≡◌, ◌==◌, ◌↔◌, ℕ, ◌+◌, ◌<◌, Bool, false, nat_le, nat_lt, List, [], length, filter}
use Rattle.std.specs.Prelude.{count_by, slice_index_or, if◌then◌else◌, Option, Some, None, IfSome}
use Rattle.std.specs.Str.{bytes_eq}
use Rattle.trace_log.specs.Clock.{number_of}
use Rattle.trace_log.specs.Event.{Event}
use Rattle.trace_log.specs.Log.{Logged}
use Rattle.trace_moment.specs.declared.watched.Lasting.TheVariants.{While}
use Rattle.trace_moment.specs.Moment.{HappenedBefore, HostWatch, IsMoment, Taken, own, watch_at}
use Rattle.trace_definitely.specs.Events.{AreOrdered, Events}
use Rattle.trace_definitely.specs.Definitely.{Definitely, IsRun, Possibly}

-- The events of the watched host at a place, in their order.
abbrev pub is_of : List HostWatch → ℕ → Taken → Bool
is_of watched p one = bytes_eq one.logged.event.host (watch_at watched p).host

abbrev pub row : List HostWatch → List Taken → ℕ → List Taken
row watched taken p = filter (is_of watched p) taken

abbrev pub no_event : Taken
no_event = record { logged = record { line = 0; event = record { host = []; clock = []; text = [] } }; holds = false }

-- The one of this number among them.
abbrev pub event_at : List HostWatch → List Taken → ℕ → ℕ → Taken
event_at watched taken p k = slice_index_or (row watched taken p) k no_event

-- An event of a watched host is counted by the clock of another one.
abbrev pub is_counted : List HostWatch → ℕ → Event → Taken → Bool
is_counted watched q event one = nat_le (own one.logged.event) (number_of (watch_at watched q).host event.clock)

-- What a log says of its watched hosts: an event knows those that its clock counts.
abbrev pub events_in : List HostWatch → List Taken → Events
events_in watched taken = record {
  hosts = length watched;
  count = λ p. length (row watched taken p);
  holds = λ p k. (event_at watched taken p k).holds;
  knows = λ p k q. if q == p then k + 1
      else count_by (is_counted watched q (event_at watched taken p k).logged.event) (row watched taken q);
}

-- The states of all hosts last until their next events.
abbrev pub AllLast : List HostWatch → Type 0
AllLast watched = (p : ℕ) → p < length watched → (watch_at watched p).lasting ≡ While

-- The numbers of a host's events rise.
abbrev pub OwnRise : List HostWatch → List Taken → Type 0
OwnRise watched taken = (p i j : ℕ) → p < length watched → i < j → j < length (row watched taken p) →
    own (event_at watched taken p i).logged.event < own (event_at watched taken p j).logged.event

-- The conditions could have held at once exactly if the log has a moment.
abbrev pub LogPossiblyLaw : Type 0
LogPossiblyLaw = (watched : List HostWatch) (taken : List Taken) → AllLast watched → OwnRise watched taken →
    AreOrdered (events_in watched taken) →
    Possibly (events_in watched taken) ↔ ((moment : ℕ → Logged) × IsMoment watched taken moment)

-- A run of a host by its events: the first one, and the one at which it is over, if there is one.
pub record LogRun : Type 0 where
  pub begin : Logged
  pub over : Option Logged

pub record IsLogRun (watched : List HostWatch) (taken : List Taken) (p : ℕ) (run : LogRun) : Type 0 where
  pub from : ℕ
  pub until : ℕ
  pub is : IsRun (events_in watched taken) p from until
  pub begins : run.begin ≡ (event_at watched taken p from).logged
  pub ends : run.over ≡ (if nat_lt until (length (row watched taken p))
      then Some (event_at watched taken p until).logged else None)

-- A run of each watched host, of which each begins before any other one is over.
pub record AreOverlappingIn (watched : List HostWatch) (taken : List Taken) (runs : ℕ → LogRun) : Type 0 where
  pub are : (p : ℕ) → p < length watched → IsLogRun watched taken p (runs p)
  pub meet : (p q : ℕ) → p < length watched → q < length watched → (p ≡ q → ⊥) →
      IfSome (runs q).over (λ over. HappenedBefore (runs p).begin.event over.event)

-- The conditions must have held at once exactly if the log has such runs.
abbrev pub LogDefinitelyLaw : Type 0
LogDefinitelyLaw = (watched : List HostWatch) (taken : List Taken) → OwnRise watched taken →
    AreOrdered (events_in watched taken) →
    Definitely (events_in watched taken) ↔ ((runs : ℕ → LogRun) × AreOverlappingIn watched taken runs)
