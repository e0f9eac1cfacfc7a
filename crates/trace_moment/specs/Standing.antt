-- What the queues and the floors of a search stand for.
use Rattle.std.specs.Prelude.{ℕ, Bool, List, [], MatchBool, unwrap_or, option_map}
use Rattle.trace_log.specs.Log.{Logged}
use Rattle.trace_moment.specs.Moment.{HostWatch, Taken, HaveDistinctHosts, IsMoment, IsKnown}
use Rattle.trace_moment.specs.Queues.{EventQueue, queue_at, first_of, watched_by}
use Rattle.trace_moment.specs.Elimination.{LastKnowsAll, AreLeft, AreUnderFloors, ArePassedByNone}

-- The event of the moment at a watched host: that of its first candidate.
abbrev pub no_event : Logged
no_event = record { line = 0; event = record { host = []; clock = []; text = [] } }

abbrev pub moment_among : List EventQueue → ℕ → Logged
moment_among all p = unwrap_or (option_map (λ one. one.logged) (first_of (queue_at all p))) no_event

-- No moment is known.
abbrev pub NoneIsKnown : List HostWatch → List Taken → Type 0
NoneIsKnown watched taken = (moment : ℕ → Logged) → IsKnown watched taken moment → ⊥

-- There is no moment.
abbrev pub HasNoMoment : List HostWatch → List Taken → Type 0
HasNoMoment watched taken = (moment : ℕ → Logged) → IsMoment watched taken moment → ⊥

-- No moment is known, and elimination has left the candidates of what was taken: it is at an end.
pub record IsSearching (taken : List Taken) (queues : List EventQueue) (floors : List ℕ) : Type 0 where
  pub none_known : NoneIsKnown (watched_by queues) taken
  pub left : AreLeft taken queues floors
  pub under : AreUnderFloors queues floors
  pub settled : ArePassedByNone queues floors

-- Queues and floors stand for what was taken: the first candidates are the moment where one is known.
pub record StandFor (taken : List Taken) (queues : List EventQueue) (floors : List ℕ) (known : Bool) : Type 0 where
  pub distinct : HaveDistinctHosts (watched_by queues)
  pub last : LastKnowsAll taken
  pub moment : MatchBool known (IsKnown (watched_by queues) taken (moment_among queues))
      (IsSearching taken queues floors)
