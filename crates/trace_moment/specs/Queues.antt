-- The states of a watched host that can still be in the moment.
use Rattle.std.specs.Prelude.{◌≡◌, ◌<◌, ℕ, ◌-◌, Bool, true, false, List, [], ◌∷◌, ◌++◌, length, map, slice_index_or}
use Rattle.std.specs.Prelude.{nat_lt, nat_le, Option, Some, None, is_some, drop, if◌then◌else◌}
use Rattle.std.specs.Option.{option_to_list}
use Rattle.trace_log.specs.Clock.{Member, number_of}
use Rattle.trace_log.specs.Log.{Logged}
use Rattle.trace_moment.specs.declared.watched.Lasting.{Lasting}
use Rattle.trace_moment.specs.declared.watched.Lasting.TheVariants.{While, At}
use Rattle.trace_moment.specs.Moment.{HostWatch}

-- A state that can still be in the moment: the event that it begins with, and the host's number up to which it
-- lasts.
pub record Candidate : Type 0 where
  pub logged : Logged
  pub lasts_to : ℕ

-- The candidates of a watched host: those whose end was read, the oldest first, and the one that still goes on; and
-- the clock of the host's last event at which its condition didn't hold.
pub record EventQueue : Type 0 where
  pub host : List ℕ
  pub lasting : Lasting
  pub ended : List Candidate
  pub ongoing : Option Candidate
  pub latest : List Member

-- No event was taken of a host.
abbrev pub empty_queue : List ℕ → Lasting → EventQueue
empty_queue host lasting = record { host = host; lasting = lasting; ended = []; ongoing = None; latest = [] }

-- The queue of the watched host at a place, and the hosts.
abbrev pub queue_at : List EventQueue → ℕ → EventQueue
queue_at queues p = slice_index_or queues p (empty_queue [] While)

abbrev pub watched_by : List EventQueue → List HostWatch
watched_by queues = map (λ queue. record { host = queue.host; lasting = queue.lasting }) queues

-- The first candidate.
abbrev pub first_among : {C : Type 0} → List C → Option C → Option C
first_among [] ongoing = ongoing
first_among (first ∷ others) ongoing = Some first

abbrev pub first_of : EventQueue → Option Candidate
first_of queue = first_among queue.ended queue.ongoing

-- The events that candidates begin with.
abbrev pub begin_with : List Candidate → List Logged
begin_with candidates = map (λ one. one.logged) candidates

abbrev pub waiting : EventQueue → List Logged
waiting queue = begin_with (queue.ended ++ option_to_list queue.ongoing)

-- Each event of the host that can still be in the moment, or comes later, knows what this clock knows.
abbrev pub clock_of : Option Candidate → List Member → List Member
clock_of None latest = latest
clock_of (Some first) latest = first.logged.event.clock

abbrev pub prefix_clock : EventQueue → List Member
prefix_clock queue = clock_of (first_of queue) queue.latest

-- The first candidate has ended, and is over where the host's number is the floor.
abbrev pub is_passed_among : ℕ → List Candidate → Bool
is_passed_among floor [] = false
is_passed_among floor (first ∷ others) = nat_lt first.lasts_to floor

abbrev pub is_passed : EventQueue → ℕ → Bool
is_passed queue floor = is_passed_among floor queue.ended

-- There is a first candidate, and it lasts up to the floor.
abbrev pub lasts_to_floor : ℕ → Option Candidate → Bool
lasts_to_floor floor None = false
lasts_to_floor floor (Some first) = nat_le floor first.lasts_to

abbrev pub stands : EventQueue → ℕ → Bool
stands queue floor = lasts_to_floor floor (first_of queue)

-- The candidate that begins with an event, and lasts at least as long as the event is its host's last one.
abbrev pub begun : ℕ → Logged → Bool → Option Candidate
begun number logged holds = if holds then Some (record { logged = logged; lasts_to = number }) else None

-- A candidate that the event with this number ends.
abbrev pub ended_by : ℕ → Candidate → Candidate
ended_by number one = record { logged = one.logged; lasts_to = number - 1 }

-- An event ends its host's candidate before, or under `At` its own one.
abbrev pub ending : {C : Type 0} → Lasting → Option C → Option C → Option C
ending While before now = before
ending At before now = now

-- What goes on after it.
abbrev pub going_on : {C : Type 0} → Lasting → Option C → Option C
going_on While now = now
going_on At now = None

abbrev pub with_candidate : EventQueue → ℕ → Option Candidate → List Member → EventQueue
with_candidate queue number now latest = record {
  host = queue.host;
  lasting = queue.lasting;
  ended = queue.ended ++ map (ended_by number) (option_to_list (ending queue.lasting queue.ongoing now));
  ongoing = going_on queue.lasting now;
  latest = latest;
}

-- The queue with the host's next event, at which its condition holds or not.
abbrev pub with_event : EventQueue → Logged → Bool → EventQueue
with_event queue logged holds =
    let number = number_of queue.host logged.event.clock in
    with_candidate queue number (begun number logged holds) (if holds then queue.latest else logged.event.clock)

-- Each queue has a first candidate, or one has none.
abbrev pub HaveFirsts : List EventQueue → Type 0
HaveFirsts queues = (p : ℕ) → p < length queues → is_some (first_of (queue_at queues p)) ≡ true

abbrev pub OneHasNone : List EventQueue → Type 0
OneHasNone queues = (p : ℕ) × (p < length queues) × (is_some (first_of (queue_at queues p)) ≡ false)

-- The queue without its first candidate: without the one that goes on, where none waits before it.
abbrev pub goes_on_behind : {C : Type 0} → List C → Option C → Option C
goes_on_behind [] ongoing = None
goes_on_behind (first ∷ others) ongoing = ongoing

abbrev pub without_first : EventQueue → EventQueue
without_first queue = record queue {
  ended = drop 1 queue.ended;
  ongoing = goes_on_behind queue.ended queue.ongoing;
}
