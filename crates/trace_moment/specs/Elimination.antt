-- What elimination leaves of the states of all watched hosts.
use Rattle.std.specs.Prelude.{◌≡◌, ◌≢◌, ℕ, ◌+◌, ◌<◌, ◌≤◌, max, true, false, Some, List, [], ◌∷◌, ◌++◌, length}
use Rattle.std.specs.Prelude.{slice_index, All, AllPairs, Contains, ◌⊎◌}
use Rattle.trace_log.specs.Clock.{Member, number_of}
use Rattle.trace_log.specs.Event.{Event}
use Rattle.trace_log.specs.Order.{last_clock}
use Rattle.trace_log.specs.Log.{Logged}
use Rattle.trace_moment.specs.declared.watched.Lasting.{Lasting}
use Rattle.trace_moment.specs.declared.watched.Lasting.TheVariants.{While, At}
use Rattle.trace_moment.specs.Moment.{Taken, own, events_of, IsLater, IsMoment, Follow}
use Rattle.trace_moment.specs.Queues.{Candidate, EventQueue, queue_at, watched_by, waiting, prefix_clock, is_passed}
use Rattle.trace_moment.specs.Queues.{stands}

-- One clock knows no more than another.
abbrev pub KnowsNoMore : List Member → List Member → Type 0
KnowsNoMore earlier later = (name : List ℕ) → number_of name earlier ≤ number_of name later

-- An event comes before another one of its host.
pub record ComesBefore (earlier later : Event) : Type 0 where
  pub own_rises : own earlier < own later
  pub knows : KnowsNoMore earlier.clock later.clock

-- The clock of a host's last event knows what those of its events know.
abbrev pub LastKnowsAll : List Taken → Type 0
LastKnowsAll taken = (one : Taken) → Contains taken one →
    KnowsNoMore one.logged.event.clock (last_clock one.logged.event.host (events_of taken))

-- A candidate begins with an event that was taken, at which the condition holds.
pub record IsCandidate (taken : List Taken) (host : List ℕ) (logged : Logged) : Type 0 where
  pub was_taken : Contains taken (record { logged = logged; holds = true })
  pub of_host : logged.event.host ≡ host

-- A state has ended: it lasts up to the number before that of the first later event, or of its own one.
abbrev pub HasEnded : Lasting → List Taken → Candidate → Type 0
HasEnded While taken one = (next : Taken) × IsLater taken one.logged.event next
    × (own next.logged.event ≡ one.lasts_to + 1)
    × ((other : Taken) → IsLater taken one.logged.event other → one.lasts_to < own other.logged.event)
HasEnded At taken one = own one.logged.event ≡ one.lasts_to + 1

-- A state goes on: the event that it begins with is the last one of its host.
pub record GoesOn (lasting : Lasting) (taken : List Taken) (one : Candidate) : Type 0 where
  pub lasts : lasting ≡ While
  pub lasts_to : one.lasts_to ≡ own one.logged.event
  pub last : last_clock one.logged.event.host (events_of taken) ≡ one.logged.event.clock

-- A queue has candidates of its host, in their order.
pub record IsQueueOf (taken : List Taken) (queue : EventQueue) : Type 0 where
  pub candidates : All (IsCandidate taken queue.host) (waiting queue)
  pub in_order : AllPairs (λ one other. ComesBefore one.event other.event) (waiting queue)
  pub ended : All (HasEnded queue.lasting taken) queue.ended
  pub ongoing : (one : Candidate) → queue.ongoing ≡ Some one → GoesOn queue.lasting taken one
  pub latest : KnowsNoMore queue.latest (last_clock queue.host (events_of taken))

-- An event of a moment at another host knows of this many events of this one.
abbrev pub IsKnownElsewhere : List EventQueue → (ℕ → Logged) → ℕ → ℕ → Type 0
IsKnownElsewhere queues moment q floor = (p : ℕ) × (p < length queues) × (p ≢ q)
    × (floor ≤ number_of (queue_at queues q).host (moment p).event.clock)

-- A moment has candidates or events that come later, and knows as much as the floors say.
pub record IsAmong (queues : List EventQueue) (floors : List ℕ) (more : List Taken) (moment : ℕ → Logged) : Type 0 where
  pub waits : (p : ℕ) → p < length queues → Contains (waiting (queue_at queues p)) (moment p)
      ⊎ Contains more (record { logged = moment p; holds = true })
  pub knows : (q : ℕ) → q < length queues → 0 < slice_index floors q →
      IsKnownElsewhere queues moment q (slice_index floors q)

-- Elimination leaves these candidates: each moment of what was taken, or of more, is among them and what comes later
-- (Garg and Waldecker 1994).
pub record AreLeft (taken : List Taken) (queues : List EventQueue) (floors : List ℕ) : Type 0 where
  pub each : (p : ℕ) → p < length queues → IsQueueOf taken (queue_at queues p)
  pub moments : (more : List Taken) → Follow taken more → (moment : ℕ → Logged) →
      IsMoment (watched_by queues) (taken ++ more) moment → IsAmong queues floors more moment

-- The floors are no lower than what the head of p knows of the other hosts.
abbrev pub IsUnderFloors : List EventQueue → List ℕ → ℕ → Type 0
IsUnderFloors queues floors p = (q : ℕ) → q < length queues → q ≢ p →
    number_of (queue_at queues q).host (prefix_clock (queue_at queues p)) ≤ slice_index floors q

abbrev pub AreUnderFloors : List EventQueue → List ℕ → Type 0
AreUnderFloors queues floors = (p : ℕ) → p < length queues → IsUnderFloors queues floors p

-- No first candidate is over.
abbrev pub ArePassedByNone : List EventQueue → List ℕ → Type 0
ArePassedByNone queues floors = (p : ℕ) → p < length queues →
    is_passed (queue_at queues p) (slice_index floors p) ≡ false

-- The floors of the other hosts rise to what the head of p knows of them.
pub record RiseTo (queues : List EventQueue) (p : ℕ) (old new : List ℕ) : Type 0 where
  pub itself : slice_index new p ≡ slice_index old p
  pub others : (q : ℕ) → q < length queues → q ≢ p → slice_index new q
      ≡ max (number_of (queue_at queues q).host (prefix_clock (queue_at queues p))) (slice_index old q)

-- Each host has a first candidate that lasts up to its floor, or one has none.
abbrev pub AllStand : List EventQueue → List ℕ → Type 0
AllStand queues floors = (p : ℕ) → p < length queues → stands (queue_at queues p) (slice_index floors p) ≡ true

abbrev pub OneDoesNotStand : List EventQueue → List ℕ → Type 0
OneDoesNotStand queues floors = (p : ℕ) × (p < length queues)
    × (stands (queue_at queues p) (slice_index floors p) ≡ false)

-- An event of p was added: elimination leaves of what was taken and this event the new queues under the new floors.
pub record AddsEvent (taken : List Taken) (next : Taken) (queues new_queues : List EventQueue)
    (floors new_floors : List ℕ) : Type 0 where
  pub left : AreLeft taken queues floors → AreLeft (taken ++ next ∷ []) new_queues new_floors
  pub under : AreLeft taken queues floors → AreUnderFloors queues floors → AreUnderFloors new_queues new_floors
