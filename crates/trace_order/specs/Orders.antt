-- The events of a log that were given on, and what is kept of them.
use Rattle.std.specs.Prelude.{◌≡◌, ℕ, ◌<◌, ◌≤◌, ◌⊎◌, ◌↔◌, ◌++◌, List, [], ◌∷◌, map, Option, Some, None, Contains}
use Rattle.std.specs.Prelude.{slice_index, slice_index_or, nat_eq, filter, AllPairs}
use Rattle.trace_order.specs.Clocks.{most_number}
use Rattle.trace_order.specs.Messages.{MessageEvent, Sends, Receives, HappensBefore}

-- An event that was given on, and its clock.
pub record Ordered : Type 0 where
  pub event : MessageEvent
  pub clock : List ℕ

abbrev pub events_of : List Ordered → List MessageEvent
events_of given = map (λ (one : Ordered). one.event) given

-- The events of one host.
abbrev pub of_host : ℕ → List MessageEvent → List MessageEvent
of_host host events = filter (λ event. nat_eq event.host host) events

-- The number of an event among those of its host: its clock's own number.
abbrev pub own : Ordered → ℕ
own one = slice_index one.clock one.event.host

-- One event is another, or happened before it.
abbrev pub IsUpTo : List MessageEvent → MessageEvent → MessageEvent → Type 0
IsUpTo log e f = (e ≡ f) ⊎ HappensBefore log e f

-- The clocks are happened-before: the clock of one event counts another exactly where that one is it, or happened
-- before it.
abbrev pub SaysBefore : List MessageEvent → List Ordered → Type 0
SaysBefore log given = (e f : Ordered) → Contains given e → Contains given f →
    ((own e ≤ slice_index f.clock e.event.host) ↔ IsUpTo log e.event f.event)

-- The lines of the events rise, and no two events send one id.
pub record IsLog (log : List MessageEvent) : Type 0 where
  pub rises : AllPairs (λ e f. e.line < f.line) log
  pub once : (e f : MessageEvent) (id : List ℕ) → Contains log e → Contains log f → Sends e id → Sends f id → e ≡ f

-- An id was sent by an event that was given on.
pub record IsSent (given : List Ordered) (id : List ℕ) : Type 0 where
  pub sender : Ordered
  pub was_given : Contains given sender
  pub sends : Sends sender.event id

-- All that an event receives was sent.
abbrev pub IsReady : List Ordered → MessageEvent → Type 0
IsReady given event = (id : List ℕ) → Receives event id → IsSent given id

-- Of each host the events were given on in their order, each once, and the others wait. What was received had been
-- sent.
pub record IsOrder (log : List MessageEvent) (given : List Ordered) (waits : ℕ → List MessageEvent) : Type 0 where
  pub along : (host : ℕ) → of_host host log ≡ of_host host (events_of given) ++ waits host
  pub received : (one : Ordered) → Contains given one → IsReady given one.event

-- The last event of a host that was given on has this clock.
pub record IsLast (given : List Ordered) (host : ℕ) (clock : List ℕ) : Type 0 where
  pub last : Ordered
  pub was_given : Contains given last
  pub host_is : last.event.host ≡ host
  pub clock_is : last.clock ≡ clock
  pub behind : (one : Ordered) → Contains given one → one.event.host ≡ host →
      (one.event ≡ last.event) ⊎ (one.event.line < last.event.line)

-- No event of a host was given on, and its clock counts nothing.
pub record IsUnbegun (given : List Ordered) (host : ℕ) (clock : List ℕ) : Type 0 where
  pub none : (one : Ordered) → Contains given one → one.event.host ≡ host → ⊥
  pub clock_is : clock ≡ []

-- The clock of the event that sent an id, where it was given on.
abbrev pub KeepsSent : List Ordered → List ℕ → Option (List ℕ) → Type 0
KeepsSent given id None = IsSent given id → ⊥
KeepsSent given id (Some clock) = (sent : IsSent given id) × (sent.sender.clock ≡ clock)

-- Of the events that were given on the last clock of each host is kept, and the clock of each id that was sent. Their
-- clocks are happened-before.
pub record Keeps (log : List MessageEvent) (given : List Ordered) (clocks : ℕ → List ℕ)
    (sent : List ℕ → Option (List ℕ)) : Type 0 where
  pub lasts : (host : ℕ) → IsLast given host (clocks host) ⊎ IsUnbegun given host (clocks host)
  pub sends : (id : List ℕ) → KeepsSent given id (sent id)
  pub counts : (one : Ordered) → Contains given one → 0 < own one
  pub most : (one : Ordered) → Contains given one → own one ≤ most_number
  pub bounds : (one : Ordered) (host : ℕ) → Contains given one →
      slice_index one.clock host ≤ slice_index (clocks host) host
  pub says : SaysBefore log given

-- A host: its name, the clock of its last event that was given on, and its events that wait.
pub record HostState : Type 0 where
  pub name : List ℕ
  pub clock : List ℕ
  pub waits : List MessageEvent

-- The host with a number.
abbrev pub host_at : List HostState → ℕ → HostState
host_at hosts host = slice_index_or hosts host (record { name = []; clock = []; waits = [] })

-- The first of the events that wait.
abbrev pub first_waiting : List MessageEvent → Option MessageEvent
first_waiting [] = None
first_waiting (event ∷ events) = Some event

-- The ids that it sends.
abbrev pub first_sends : List MessageEvent → List (List ℕ)
first_sends [] = []
first_sends (event ∷ events) = event.sends
