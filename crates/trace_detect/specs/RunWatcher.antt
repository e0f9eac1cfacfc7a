-- What a watcher of runs knows of the events that it took.
use Rattle.std.specs.Prelude.{◌≡◌, ◌-◌, ◌^◌, ◌<◌, ◌∷◌, ◌++◌, [], Bool, true, false, List, length, Result, Ok, Err}
use Rattle.std.specs.declared.alloc.AllocError.{AllocError}
use Rattle.trace_log.specs.Log.{Logged}
use Rattle.trace_runs.specs.Search.{HasTaken, KeepsKnown, is_known, watched_by}
use Rattle.trace_condition.specs.declared.condition.Condition.{Condition}
use Rattle.trace_detect.specs.declared.run_watcher.RunWatcher.{RunWatcher}
use Rattle.trace_detect.specs.Watcher.{IsWatching}
use Rattle.trace_detect.specs.Watching.{taken_of, watches}

-- A search for runs has taken what a search for moments takes of the events of a log, and knows no runs that overlap.
pub record IsWatchingRuns (conditions : List Condition) (logged : List Logged) (watcher : RunWatcher) : Type 0 where
  pub watching : IsWatching conditions logged watcher.watcher
  pub watched : watched_by watcher.runs ≡ watches conditions
  pub taken : HasTaken (taken_of conditions logged) watcher.runs
  pub none_known : is_known watcher.runs ≡ false

-- It knows some.
pub record KnowsRuns (conditions : List Condition) (logged : List Logged) (watcher : RunWatcher) : Type 0 where
  pub watching : IsWatching conditions logged watcher.watcher
  pub watched : watched_by watcher.runs ≡ watches conditions
  pub keeps : KeepsKnown (taken_of conditions logged) watcher.runs
  pub known : is_known watcher.runs ≡ true

-- It can take one event more: there are fewer than can be counted.
pub record CanWatchRuns (watcher : RunWatcher) : Type 0 where
  pub before : List Logged
  pub is : IsWatchingRuns watcher.watcher.conditions.now before watcher
  pub few : length before < 2 ^ 64 - 1

-- It took one event more, and answers whether runs are known; or memory ran out.
abbrev pub WatchesRuns : List Condition → List Logged → Logged → Result Bool AllocError → RunWatcher → Type 0
WatchesRuns conditions before next (Ok true) watcher = KnowsRuns conditions (before ++ next ∷ []) watcher
WatchesRuns conditions before next (Ok false) watcher = IsWatchingRuns conditions (before ++ next ∷ []) watcher
WatchesRuns conditions before next (Err _) watcher = Unit {0}

-- It has taken some.
pub record HasWatchedRuns (watcher : RunWatcher) : Type 0 where
  pub conditions : List Condition
  pub logged : List Logged
  pub is : IsWatchingRuns conditions logged watcher
