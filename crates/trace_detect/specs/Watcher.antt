-- What a watcher knows of the events that it took.
use Rattle.std.specs.Prelude.{◌≡◌, ℕ, ◌+◌, ◌-◌, ◌^◌, ◌<◌, ◌∷◌, ◌++◌, [], Bool, false, List, length, Option, Some, None}
use Rattle.std.specs.Prelude.{slice_index_or, slice_set, MatchOption, if◌then◌else◌, Result, Ok, Err}
use Rattle.std.specs.declared.alloc.AllocError.{AllocError}
use Rattle.trace_log.specs.Log.{Logged}
use Rattle.trace_moment.specs.declared.search.Search.{Search}
use Rattle.trace_moment.specs.Behind.{behind_last, LastWasTaken}
use Rattle.trace_moment.specs.Search.{HasTaken, KeepsAll, watched_by, is_known}
use Rattle.trace_condition.specs.declared.condition.Condition.{Condition}
use Rattle.trace_condition.specs.Conditions.{host_of, rule_of, HaveHosts}
use Rattle.trace_condition.specs.Judging.{HasJudged}
use Rattle.trace_condition.specs.Holding.{holds_at_last}
use Rattle.trace_detect.specs.declared.judged.Judged.{Judged}
use Rattle.trace_detect.specs.declared.watcher.Watcher.{Watcher}
use Rattle.trace_detect.specs.Watching.{condition_at, watches, taken_of, texts_at, count_events, count_matched}

-- A judge judged one event more, with this text, and answered so.
pub record JudgesNext (old : Judged) (text : List ℕ) (holds : Bool) (new : Judged) : Type 0 where
  pub judged : (rule : _) (texts : _) → HasJudged rule texts old.judge →
      (holds ≡ holds_at_last rule (texts ++ text ∷ [])) × HasJudged rule (texts ++ text ∷ []) new.judge
  pub events : new.tally.events ≡ old.tally.events + 1
  pub matched : new.tally.matched ≡ old.tally.matched + (if holds then 1 else 0)

-- The judge of a condition knows the events of the condition's host, with how many were taken at which it holds.
pub record Knows (conditions : List Condition) (logged : List Logged) (condition : Condition) (judge : Judged)
    : Type 0 where
  pub judged : HasJudged (rule_of condition) (texts_at (host_of condition) logged) judge.judge
  pub events : judge.tally.events ≡ count_events (host_of condition) logged
  pub matched : judge.tally.matched ≡ count_matched (host_of condition) (taken_of conditions logged)

-- A judge for each condition, in their order.
pub record AreJudges (conditions : List Condition) (logged : List Logged) (judges : List Judged) : Type 0 where
  pub as_many : length judges ≡ length conditions
  pub each : (p : ℕ) (condition : Condition) (judge : Judged) → p < length conditions →
      Knows conditions logged (slice_index_or conditions p condition) (slice_index_or judges p judge)

abbrev pub AreNew : List Condition → List Judged → Type 0
AreNew conditions judges = AreJudges conditions [] judges

-- A judge of this condition came to these, before its first event.
pub record HasNewJudge (condition : Condition) (old new : List Judged) : Type 0 where
  pub judge : Judged
  pub added : new ≡ old ++ judge ∷ []
  pub knows : (conditions : List Condition) → Knows conditions [] condition judge

-- A judge can count one event more.
abbrev pub HasRoomAt : ℕ → List Judged → Type 0
HasRoomAt place judges = (judge : Judged) → (slice_index_or judges place judge).tally.events < 2 ^ 64 - 1

-- One of the judges judged its host's next event.
pub record JudgesOneAt (place : ℕ) (old : List Judged) (text : List ℕ) (holds : Bool) (new : List Judged) : Type 0 where
  pub judge : Judged
  pub set : new ≡ slice_set old place judge
  pub next : (before : Judged) → JudgesNext (slice_index_or old place before) text holds judge

-- A watcher has taken the events of a log, one after another, behind the moment that was told last, if one was.
pub record IsWatchingBehind (conditions : List Condition) (told : Option (ℕ → Logged)) (logged : List Logged)
    (watcher : Watcher) : Type 0 where
  pub by : watcher.conditions.now ≡ conditions
  pub hosts : HaveHosts conditions
  pub judges : AreJudges conditions logged watcher.judges.items
  pub watched : watched_by watcher.search ≡ watches conditions
  pub passed : LastWasTaken (watches conditions) told (taken_of conditions logged)
  pub taken : HasTaken (behind_last (watches conditions) told (taken_of conditions logged)) watcher.search

-- No moment was told.
abbrev pub IsWatching : List Condition → List Logged → Watcher → Type 0
IsWatching conditions logged watcher = IsWatchingBehind conditions None logged watcher

-- It has counted the events of each host, and those at which its condition holds.
pub record HasCounted (conditions : List Condition) (logged : List Logged) (watcher : Watcher) : Type 0 where
  pub by : watcher.conditions.now ≡ conditions
  pub judges : AreJudges conditions logged watcher.judges.items

-- It has counted those of some log.
pub record HasCountedSome (watcher : Watcher) : Type 0 where
  pub conditions : List Condition
  pub logged : List Logged
  pub is : HasCounted conditions logged watcher

-- It can take one event more: no moment is known yet, and there are fewer events than can be counted.
pub record CanTake (watcher : Watcher) : Type 0 where
  pub told : Option (ℕ → Logged)
  pub before : List Logged
  pub watching : IsWatchingBehind watcher.conditions.now told before watcher
  pub none_known : is_known watcher.search ≡ false
  pub few : length before < 2 ^ 64 - 1

-- It took one event more, and answers whether the moment is known; or memory ran out.
abbrev pub WatchesNext : List Condition → Option (ℕ → Logged) → List Logged → Logged → Result Bool AllocError → Watcher
    → Type 0
WatchesNext conditions told before next (Ok known) watcher =
    IsWatchingBehind conditions told (before ++ next ∷ []) watcher × (is_known watcher.search ≡ known)
WatchesNext conditions told before next (Err _) watcher = Unit {0}

-- And it keeps each state that can be in a moment.
abbrev pub KeepsNext : List Condition → Option (ℕ → Logged) → List Logged → Logged → Search → Type 0
KeepsNext conditions told before next search =
    KeepsAll (behind_last (watches conditions) told (taken_of conditions (before ++ next ∷ []))) search

-- The place of the condition of a host, if it has one.
pub record IsPlace (host : List ℕ) (conditions : List Condition) (place : ℕ) : Type 0 where
  pub within : place < length conditions
  pub first : (condition : Condition) → condition_at host conditions ≡ Some (slice_index_or conditions place condition)

abbrev pub IsPlaceOf : List ℕ → List Condition → Option ℕ → Type 0
IsPlaceOf host conditions place = MatchOption place (condition_at host conditions ≡ None) (IsPlace host conditions)
