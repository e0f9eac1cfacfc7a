-- What a watcher knows that keeps the events that it takes, where reasons are asked for.
use Rattle.std.specs.Prelude.{◌≡◌, ◌-◌, ◌^◌, ◌<◌, ◌∷◌, ◌++◌, [], Bool, false, List, length, Result, Ok, Err}
use Rattle.std.specs.declared.alloc.AllocError.{AllocError}
use Rattle.trace_log.specs.Log.{Logged}
use Rattle.trace_moment.specs.Search.{is_known}
use Rattle.trace_condition.specs.declared.condition.Condition.{Condition}
use Rattle.trace_detect.specs.declared.recording.Recording.{Recording}
use Rattle.trace_detect.specs.Reasons.{KeepsSo}
use Rattle.trace_detect.specs.Watcher.{IsWatching}

-- A watcher has taken them, and its history keeps them where that is asked.
pub record IsRecording (conditions : List Condition) (why : Bool) (logged : List Logged) (recording : Recording) : Type 0
  where
    pub watching : IsWatching conditions logged recording.watcher
    pub kept : KeepsSo why conditions logged recording.history

-- It can take one event more: no moment is known yet, and there are fewer events than can be counted.
pub record CanRecord (recording : Recording) : Type 0 where
  pub why : Bool
  pub before : List Logged
  pub is : IsRecording recording.watcher.conditions.now why before recording
  pub none_known : is_known recording.watcher.search ≡ false
  pub few : length before < 2 ^ 64 - 1

-- It took one event more, and answers whether the moment is known; or memory ran out.
abbrev pub RecordsNext : List Condition → Bool → List Logged → Logged → Result Bool AllocError → Recording → Type 0
RecordsNext conditions why before next (Ok known) recording =
    IsRecording conditions why (before ++ next ∷ []) recording × (is_known recording.watcher.search ≡ known)
RecordsNext conditions why before next (Err _) recording = Unit {0}
