-- What a history keeps of the events of the watched hosts.
use Rattle.std.specs.Prelude.{◌≡◌, ℕ, Bool, false, List, [], ◌∷◌, ◌++◌, map, slice_index, slice_index_or, AllPairs}
use Rattle.std.specs.Prelude.{Result, Ok, Err}
use Rattle.std.specs.declared.alloc.AllocError.{AllocError}
use Rattle.std.specs.List.{filter}
use Rattle.std.specs.Str.{bytes_eq}
use Rattle.trace_moment.specs.declared.watched.Lasting.{Lasting}
use Rattle.trace_moment.specs.declared.watched.Lasting.TheVariants.{While}
use Rattle.trace_moment.specs.Moment.{HostWatch, Taken, HaveDistinctHosts}
use Rattle.trace_moment.specs.Kept.{numbers_in}
use Rattle.trace_moment.specs.Elimination.{ComesBefore, LastKnowsAll}

-- What is kept of an event: its line, whether the condition of its host holds at it, and the numbers of the watched
-- hosts in its clock, in their order.
pub record Past : Type 0 where
  pub line : ℕ
  pub holds : Bool
  pub numbers : List ℕ

abbrev pub past_of : List HostWatch → Taken → Past
past_of watched one = record {
  line = one.logged.line;
  holds = one.holds;
  numbers = numbers_in watched one.logged.event.clock;
}

-- The events of a host among those that were taken, in their order.
abbrev pub of_host : List ℕ → List Taken → List Taken
of_host host taken = filter (λ one. bytes_eq one.logged.event.host host) taken

-- What is kept of a watched host.
pub record PastHost : Type 0 where
  pub host : List ℕ
  pub lasting : Lasting
  pub events : List Past

abbrev pub past_host : List HostWatch → List Taken → HostWatch → PastHost
past_host watched taken watch = record {
  host = watch.host;
  lasting = watch.lasting;
  events = map (past_of watched) (of_host watch.host taken);
}

-- The hosts that are watched.
abbrev pub watch_past : PastHost → HostWatch
watch_past host = record { host = host.host; lasting = host.lasting }

abbrev pub watched_in : List PastHost → List HostWatch
watched_in hosts = map watch_past hosts

-- What is kept of the watched host at a place, of one of its events, and of a watched host in that event's clock.
abbrev pub no_past : Past
no_past = record { line = 0; holds = false; numbers = [] }

abbrev pub past_at : PastHost → ℕ → Past
past_at host k = slice_index_or host.events k no_past

abbrev pub number_at : PastHost → ℕ → ℕ → ℕ
number_at host k q = slice_index (past_at host k).numbers q

abbrev pub no_host : PastHost
no_host = record { host = []; lasting = While; events = [] }

abbrev pub host_at : List PastHost → ℕ → PastHost
host_at hosts p = slice_index_or hosts p no_host

-- The events of each host were taken in their order: own numbers rise, and no later one knows less.
abbrev pub AreInOrder : List Taken → Type 0
AreInOrder taken = (host : List ℕ) → AllPairs (λ one other. ComesBefore one.logged.event other.logged.event)
    (of_host host taken)

-- This is kept of what was taken.
pub record KeepPast (taken : List Taken) (hosts : List PastHost) : Type 0 where
  pub kept : hosts ≡ map (past_host (watched_in hosts) taken) (watched_in hosts)
  pub distinct : HaveDistinctHosts (watched_in hosts)
  pub last : LastKnowsAll taken
  pub in_order : AreInOrder taken

-- This is kept of what was taken and one event more; or memory ran out, and it is kept of what was taken.
abbrev pub KeepNext : List Taken → Taken → Result (Unit {0}) AllocError → List PastHost → Type 0
KeepNext taken next (Ok _) hosts = KeepPast (taken ++ next ∷ []) hosts
KeepNext taken next (Err _) hosts = KeepPast taken hosts
