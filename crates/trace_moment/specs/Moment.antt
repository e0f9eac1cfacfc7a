-- What a search takes, and the earliest moment of it.
use Rattle.std.specs.Prelude.{◌≡◌, ◌≢◌, ℕ, ◌<◌, ◌≤◌, Bool, true, List, [], ◌∷◌, ◌++◌, length, map, Contains}
use Rattle.std.specs.Prelude.{slice_index_or, Ok}
use Rattle.trace_log.specs.Clock.{number_of}
use Rattle.trace_log.specs.Event.{Event}
use Rattle.trace_log.specs.Order.{last_clock, follows}
use Rattle.trace_log.specs.Log.{Logged}
use Rattle.trace_moment.specs.declared.watched.Lasting.{Lasting}
use Rattle.trace_moment.specs.declared.watched.Lasting.TheVariants.{While, At}

-- A watched host, and how long its states last.
pub record HostWatch : Type 0 where
  pub host : List ℕ
  pub lasting : Lasting

-- An event that was taken, and whether the condition of its host holds at it.
pub record Taken : Type 0 where
  pub logged : Logged
  pub holds : Bool

-- The watched host at a place.
abbrev pub watch_at : List HostWatch → ℕ → HostWatch
watch_at watched p = slice_index_or watched p (record { host = []; lasting = While })

-- No host stands at two places.
abbrev pub HaveDistinctHosts : List HostWatch → Type 0
HaveDistinctHosts watched = (p q : ℕ) → p < length watched → q < length watched →
    (watch_at watched p).host ≡ (watch_at watched q).host → p ≡ q

-- The number of an event among those of its host, whether or not all of them are in the log: its clock's own number
-- (Fidge 1988; Mattern 1989).
abbrev pub own : Event → ℕ
own event = number_of event.host event.clock

-- An event happened before one of another host if that one's clock counts it (Fidge 1988; Mattern 1989).
abbrev pub HappenedBefore : Event → Event → Type 0
HappenedBefore e f = own e ≤ number_of e.host f.clock

-- A later event of the same host was taken: own numbers rise along a host.
pub record IsLater (taken : List Taken) (event : Event) (later : Taken) : Type 0 where
  pub was_taken : Contains taken later
  pub host : later.logged.event.host ≡ event.host
  pub after : own event < own later.logged.event

-- The state that begins with e is over at f where what ends it happened before f: a later event of its host, or under
-- `At` the event e itself.
abbrev pub IsOver : Lasting → List Taken → Event → Event → Type 0
IsOver While taken e f = (later : Taken) × IsLater taken e later × HappenedBefore later.logged.event f
IsOver At taken e f = HappenedBefore e f

-- A moment names an event of each watched host: at each the host's condition holds, and no state is over where another
-- begins (Chandy and Lamport 1985; Garg and Waldecker 1994).
pub record IsMoment (watched : List HostWatch) (taken : List Taken) (moment : ℕ → Logged) : Type 0 where
  pub held : (p : ℕ) → p < length watched → Contains taken (record { logged = moment p; holds = true })
  pub host : (p : ℕ) → p < length watched → (moment p).event.host ≡ (watch_at watched p).host
  pub together : (p q : ℕ) → p < length watched → q < length watched → p ≢ q →
      IsOver (watch_at watched p).lasting taken (moment p).event (moment q).event → ⊥

-- The earliest one lies at or below each of them, at each host.
pub record IsEarliest (watched : List HostWatch) (taken : List Taken) (moment : ℕ → Logged) : Type 0 where
  pub one : IsMoment watched taken moment
  pub below : (other : ℕ → Logged) → IsMoment watched taken other → (p : ℕ) → p < length watched →
      own (moment p).event ≤ own (other p).event

-- The events that were taken.
abbrev pub events_of : List Taken → List Event
events_of taken = map (λ one. one.logged.event) taken

-- An event may be taken next: its clock follows that of its host's event before.
abbrev pub MayFollow : List Taken → Event → Type 0
MayFollow taken event = follows event.host (last_clock event.host (events_of taken)) event.clock ≡ Ok tt

-- An event is the next one of the watched host at a place.
pub record IsNextAt (watched : List HostWatch) (place : ℕ) (taken : List Taken) (logged : Logged) : Type 0 where
  pub host : logged.event.host ≡ (watch_at watched place).host
  pub follows : MayFollow taken logged.event

-- More may be taken after these, one after another.
abbrev pub Follow : List Taken → List Taken → Type 0
Follow taken [] = Unit {0}
Follow taken (next ∷ more) = MayFollow taken next.logged.event × Follow (taken ++ next ∷ []) more

-- A moment is known: it is the earliest, and stays it whatever follows.
abbrev pub IsKnown : List HostWatch → List Taken → (ℕ → Logged) → Type 0
IsKnown watched taken moment = (more : List Taken) → Follow taken more → IsEarliest watched (taken ++ more) moment
