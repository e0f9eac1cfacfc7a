-- What is kept of the runs that wait, and of those that are known.
use Rattle.std.specs.Prelude.{◌≡◌, ◌<◌, ℕ, Bool, List, ◌++◌, length, map, Option, option_map, MatchBool}
use Rattle.trace_log.specs.Log.{Logged}
use Rattle.trace_log.specs.Order.{last_clock}
use Rattle.trace_moment.specs.Moment.{Follow, HaveDistinctHosts, HostWatch, Taken, events_of}
use Rattle.trace_moment.specs.Elimination.{LastKnowsAll}
use Rattle.trace_moment.specs.Kept.{numbers_in}
use Rattle.trace_definitely.specs.Logs.{LogRun, OwnRise}
use Rattle.trace_definitely.specs.Waiting.{AreWaiting}
use Rattle.trace_runs.specs.Runs.{AreKnown, AreLeastIn, NoneAreKnown}
use Rattle.trace_runs.specs.Kept.{KeptRuns, NoneIsPassed, OverRun, kept_at, kept_begin, kept_over, runs_of, told_kept}
use Rattle.trace_runs.specs.Kept.{told_run, watched_in}

-- This is kept of the runs of a host that wait, and of its last event.
pub record AreKept (watched : List HostWatch) (taken : List Taken) (one : KeptRuns) (runs : List LogRun) : Type 0 where
  pub over : List OverRun
  pub ongoing : Option Logged
  pub runs_are : runs ≡ runs_of over ongoing
  pub over_kept : one.over ≡ map (kept_over watched) over
  pub ongoing_kept : one.ongoing ≡ option_map kept_begin ongoing
  pub latest_kept : one.latest ≡ numbers_in watched (last_clock one.host (events_of taken))

-- The runs of what was taken that wait are kept.
pub record KeepWaiting (taken : List Taken) (kept : List KeptRuns) : Type 0 where
  pub distinct : HaveDistinctHosts (watched_in kept)
  pub rise : OwnRise (watched_in kept) taken
  pub last : LastKnowsAll taken
  pub waiting : ℕ → List LogRun
  pub waits : AreWaiting (watched_in kept) taken waiting
  pub are : (p : ℕ) → p < length kept → AreKept (watched_in kept) taken (kept_at kept p) (waiting p)

-- No runs are known, and no first one that waits is over too early.
pub record IsSearching (taken : List Taken) (kept : List KeptRuns) : Type 0 where
  pub keeps : KeepWaiting taken kept
  pub settled : NoneIsPassed kept
  pub none_known : NoneAreKnown (watched_in kept) taken

-- Of each of these runs is kept what is told of it.
abbrev pub KeepRuns : List KeptRuns → (ℕ → LogRun) → Type 0
KeepRuns kept runs = (p : ℕ) → p < length kept → told_kept (kept_at kept p) ≡ told_run (runs p)

-- Runs of what was taken are known, and they are kept.
pub record KeepKnown (taken : List Taken) (kept : List KeptRuns) : Type 0 where
  pub runs : ℕ → LogRun
  pub known : AreKnown (watched_in kept) taken runs
  pub are : KeepRuns kept runs

-- They were known before more events came, and are kept as they were then.
pub record KeepSince (taken : List Taken) (kept : List KeptRuns) : Type 0 where
  pub before : List Taken
  pub more : List Taken
  pub whole : taken ≡ before ++ more
  pub follow : Follow before more
  pub known : KeepKnown before kept

-- The least runs of what was taken that overlap are kept.
pub record KeepLeast (taken : List Taken) (kept : List KeptRuns) : Type 0 where
  pub runs : ℕ → LogRun
  pub least : AreLeastIn (watched_in kept) taken runs
  pub are : KeepRuns kept runs

-- What is kept of what was taken.
abbrev pub KeepTaken : List Taken → List KeptRuns → Bool → Type 0
KeepTaken taken kept known = MatchBool known (KeepSince taken kept) (IsSearching taken kept)

-- An event was taken: runs are known now, or none are.
abbrev pub KeepNext : List Taken → List KeptRuns → Bool → Type 0
KeepNext taken kept known = MatchBool known (KeepKnown taken kept) (IsSearching taken kept)
