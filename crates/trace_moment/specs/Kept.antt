-- What a search keeps of the states of the watched hosts: of an event its line and its text, and of its clock the
-- numbers of the watched hosts alone.
use Rattle.std.specs.Prelude.{◌≡◌, ◌≢◌, ◌<◌, ℕ, ◌-◌, Bool, true, false, List, [], ◌∷◌, ◌++◌, length, map, slice_index}
use Rattle.std.specs.Prelude.{slice_index_or, max, nat_lt, nat_le, Option, Some, None, is_some, option_map, unwrap_or}
use Rattle.std.specs.Prelude.{drop, if◌then◌else◌}
use Rattle.std.specs.Option.{option_to_list}
use Rattle.trace_log.specs.Clock.{Member, number_of}
use Rattle.trace_log.specs.Log.{Logged}
use Rattle.trace_moment.specs.declared.watched.Lasting.{Lasting}
use Rattle.trace_moment.specs.declared.watched.Lasting.TheVariants.{While}
use Rattle.trace_moment.specs.Moment.{HostWatch}
use Rattle.trace_moment.specs.Queues.{Candidate, EventQueue, watched_by, first_among, ending, going_on, goes_on_behind}

-- What is kept of an event.
pub record KeptEvent : Type 0 where
  pub line : ℕ
  pub text : List ℕ

abbrev pub kept_event : Logged → KeptEvent
kept_event logged = record { line = logged.line; text = logged.event.text }

-- The numbers of the watched hosts in a clock, in their order.
abbrev pub numbers_in : List HostWatch → List Member → List ℕ
numbers_in watched clock = map (λ watch. number_of watch.host clock) watched

-- What is kept of a candidate: its event, its numbers, and the host's number up to which it lasts.
pub record KeptCandidate : Type 0 where
  pub event : KeptEvent
  pub numbers : List ℕ
  pub lasts_to : ℕ

abbrev pub kept_candidate : List HostWatch → Candidate → KeptCandidate
kept_candidate watched one = record {
  event = kept_event one.logged;
  numbers = numbers_in watched one.logged.event.clock;
  lasts_to = one.lasts_to;
}

-- What is kept of a watched host.
pub record KeptQueue : Type 0 where
  pub host : List ℕ
  pub lasting : Lasting
  pub ended : List KeptCandidate
  pub ongoing : Option KeptCandidate
  pub latest : List ℕ

abbrev pub kept_queue : List HostWatch → EventQueue → KeptQueue
kept_queue watched queue = record {
  host = queue.host;
  lasting = queue.lasting;
  ended = map (kept_candidate watched) queue.ended;
  ongoing = option_map (kept_candidate watched) queue.ongoing;
  latest = numbers_in watched queue.latest;
}

-- This is kept of the candidates of the watched hosts.
abbrev pub AreKept : List KeptQueue → List EventQueue → Type 0
AreKept kept queues = kept ≡ map (kept_queue (watched_by queues)) queues

-- What is kept of a host without an event, by the numbers that each of its events knows.
abbrev pub none_kept : List ℕ → Lasting → List ℕ → KeptQueue
none_kept host lasting latest =
    record { host = host; lasting = lasting; ended = []; ongoing = None; latest = latest }

-- What is kept of the watched host at a place, and the hosts.
abbrev pub kept_at : List KeptQueue → ℕ → KeptQueue
kept_at kept p = slice_index_or kept p (none_kept [] While [])

abbrev pub watch_kept : KeptQueue → HostWatch
watch_kept queue = record { host = queue.host; lasting = queue.lasting }

abbrev pub watched_in : List KeptQueue → List HostWatch
watched_in kept = map watch_kept kept

-- The first candidate that is kept, and the event that it begins with.
abbrev pub first_kept : KeptQueue → Option KeptCandidate
first_kept queue = first_among queue.ended queue.ongoing

abbrev pub event_kept : KeptQueue → KeptEvent
event_kept queue = unwrap_or (option_map (λ one. one.event) (first_kept queue)) (record { line = 0; text = [] })

-- The numbers of the watched hosts that each event of the host knows which can still be in the moment, or comes later.
abbrev pub numbers_of_first : Option KeptCandidate → List ℕ → List ℕ
numbers_of_first None latest = latest
numbers_of_first (Some first) latest = first.numbers

abbrev pub prefix_numbers : KeptQueue → List ℕ
prefix_numbers queue = numbers_of_first (first_kept queue) queue.latest

-- The first candidate has ended, and is over where the host's number is the floor.
abbrev pub ends_below : ℕ → List KeptCandidate → Bool
ends_below floor [] = false
ends_below floor (first ∷ others) = nat_lt first.lasts_to floor

-- There is a first candidate, and it lasts up to the floor.
abbrev pub is_kept_to : ℕ → Option KeptCandidate → Bool
is_kept_to floor None = false
is_kept_to floor (Some first) = nat_le floor first.lasts_to

abbrev pub stands_at : KeptQueue → ℕ → Bool
stands_at queue floor = is_kept_to floor (first_kept queue)

-- The candidate that begins with an event, and lasts at least as long as the event is its host's last one.
abbrev pub begun_with : KeptEvent → List ℕ → ℕ → Bool → Option KeptCandidate
begun_with event numbers number holds =
    if holds then Some (record { event = event; numbers = numbers; lasts_to = number }) else None

-- A candidate that the event with this number ends.
abbrev pub ended_at : ℕ → KeptCandidate → KeptCandidate
ended_at number one = record { event = one.event; numbers = one.numbers; lasts_to = number - 1 }

abbrev pub with_begun : KeptQueue → ℕ → Option KeptCandidate → List ℕ → KeptQueue
with_begun queue number now latest = record {
  host = queue.host;
  lasting = queue.lasting;
  ended = queue.ended ++ map (ended_at number) (option_to_list (ending queue.lasting queue.ongoing now));
  ongoing = going_on queue.lasting now;
  latest = latest;
}

-- What is kept with the host's next event, which knows these numbers, and at which its condition holds or not.
abbrev pub with_next : KeptQueue → Logged → List ℕ → Bool → KeptQueue
with_next queue logged numbers holds =
    let number = number_of queue.host logged.event.clock in
    with_begun queue number (begun_with (kept_event logged) numbers number holds)
    (if holds then queue.latest else numbers)

-- No first candidate is over.
abbrev pub NoneEndsBelow : List KeptQueue → List ℕ → Type 0
NoneEndsBelow kept floors = (p : ℕ) → p < length kept → ends_below (slice_index floors p) (kept_at kept p).ended ≡ false

-- The floors of the other hosts rise to what the head of p knows of them.
pub record RiseToNumbers (kept : List KeptQueue) (p : ℕ) (old new : List ℕ) : Type 0 where
  pub itself : slice_index new p ≡ slice_index old p
  pub others : (q : ℕ) → q < length kept → q ≢ p → slice_index new q
      ≡ max (slice_index (prefix_numbers (kept_at kept p)) q) (slice_index old q)

-- Each host has a first candidate that lasts up to its floor, or one has none.
abbrev pub StandAtAll : List KeptQueue → List ℕ → Type 0
StandAtAll kept floors = (p : ℕ) → p < length kept → stands_at (kept_at kept p) (slice_index floors p) ≡ true

abbrev pub OneFails : List KeptQueue → List ℕ → Type 0
OneFails kept floors = (p : ℕ) × (p < length kept) × (stands_at (kept_at kept p) (slice_index floors p) ≡ false)

-- Each host has a first candidate, or one has none.
abbrev pub KeepFirsts : List KeptQueue → Type 0
KeepFirsts kept = (p : ℕ) → p < length kept → is_some (first_kept (kept_at kept p)) ≡ true

abbrev pub OneKeepsNone : List KeptQueue → Type 0
OneKeepsNone kept = (p : ℕ) × (p < length kept) × (is_some (first_kept (kept_at kept p)) ≡ false)

-- Where the moment is known each host has a first candidate.
abbrev pub KeepFirstsWhere : Bool → List KeptQueue → Type 0
KeepFirstsWhere known kept = known ≡ true → KeepFirsts kept

-- What is kept without the first candidate.
abbrev pub without_kept : KeptQueue → KeptQueue
without_kept queue = record queue {
  ended = drop 1 queue.ended;
  ongoing = goes_on_behind queue.ended queue.ongoing;
}
