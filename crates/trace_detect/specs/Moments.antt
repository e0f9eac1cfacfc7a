-- The moments of a log, one behind the other.
use Rattle.std.specs.Prelude.{◌≡◌, ◌-◌, ◌<◌, ◌^◌, ◌∷◌, ◌++◌, [], ℕ, Bool, true, List, length, Option, Some, None}
use Rattle.std.specs.Prelude.{Result, Ok, Err, ◌⊎◌}
use Rattle.trace_log.specs.declared.log.Log.{Log}
use Rattle.trace_log.specs.declared.turn.Form.{Form}
use Rattle.trace_log.specs.declared.fault.LogFault.{LogFault}
use Rattle.trace_log.specs.Log.{Logged}
use Rattle.trace_log.specs.LoggedEvents.{EndsOneMore}
use Rattle.trace_log.specs.Reading.{HasFault, HasReadEvents, ReadsNext, Says, SaysWhole}
use Rattle.trace_moment.specs.Behind.{behind_last, LastWasTaken}
use Rattle.trace_moment.specs.Moment.{Taken, IsEarliest, IsKnown}
use Rattle.trace_moment.specs.Search.{HasTaken, KeepsAll, is_known, watched_by}
use Rattle.trace_moment.specs.Standing.{HasNoMoment, NoneIsKnown}
use Rattle.trace_condition.specs.declared.condition.Condition.{Condition}
use Rattle.trace_condition.specs.Conditions.{HaveHosts}
use Rattle.trace_detect.specs.declared.answer.TraceAnswer.{TraceAnswer}
use Rattle.trace_detect.specs.declared.fault.DetectFault.{DetectFault}
use Rattle.trace_detect.specs.declared.fault.DetectFault.TheVariants as fault
use Rattle.trace_detect.specs.declared.moments.Moments.{Moments}
use Rattle.trace_detect.specs.declared.watcher.Watcher.{Watcher}
use Rattle.trace_detect.specs.Loop.{HasReadSo}
use Rattle.trace_detect.specs.Told.{found_told, told_by}
use Rattle.trace_detect.specs.Watcher.{AreJudges, HasCounted, IsWatchingBehind, KeepsNext}
use Rattle.trace_detect.specs.Watching.{taken_of, watches}

-- What a search takes of the events of a log, behind the moment that was told last, if one was.
abbrev pub taken_behind : List Condition → Option (ℕ → Logged) → List Logged → List Taken
taken_behind conditions told logged = behind_last (watches conditions) told (taken_of conditions logged)

-- No moment behind it is known of these events.
abbrev pub KnowsNoneBehind : List Condition → Option (ℕ → Logged) → List Logged → Type 0
KnowsNoneBehind conditions told logged = NoneIsKnown (watches conditions) (taken_behind conditions told logged)

-- A watcher keeps each state of these events that can be in a moment behind the last one.
pub record IsKeeping (conditions : List Condition) (told : Option (ℕ → Logged)) (logged : List Logged)
    (watcher : Watcher) : Type 0 where
  pub by : watcher.conditions.now ≡ conditions
  pub hosts : HaveHosts conditions
  pub judges : AreJudges conditions logged watcher.judges.items
  pub watched : watched_by watcher.search ≡ watches conditions
  pub passed : LastWasTaken (watches conditions) told (taken_of conditions logged)
  pub all : KeepsAll (taken_behind conditions told logged) watcher.search

-- So many events of an input were read, of which this is left, and this moment was told last, if one was.
pub record IsFollowing (form : Form) (conditions : List Condition) (input left : Option (List ℕ))
    (told : Option (ℕ → Logged)) (logged : List Logged) (moments : Moments) : Type 0 where
  pub read : HasReadSo moments.ended form input left logged moments.events.log
  pub keeping : IsKeeping conditions told logged moments.watcher
  pub taken : HasTaken (taken_behind conditions told logged) moments.watcher.search
  pub known : is_known moments.watcher.search ≡ moments.known
  pub many : length logged ≡ moments.count

-- It can be gone on with what is left of some input.
pub record CanFollow (left : Option (List ℕ)) (moments : Moments) : Type 0 where
  pub form : Form
  pub conditions : List Condition
  pub input : Option (List ℕ)
  pub told : Option (ℕ → Logged)
  pub logged : List Logged
  pub is : IsFollowing form conditions input left told logged moments

-- The last of these events is the first at which a moment behind the last one is known, and no line behind it was read.
pub record IsFirstBehind (form : Form) (conditions : List Condition) (input left : Option (List ℕ))
    (told : Option (ℕ → Logged)) (logged : List Logged) : Type 0 where
  pub before : List Logged
  pub one : Logged
  pub parts : logged ≡ before ++ one ∷ []
  pub none_before : KnowsNoneBehind conditions told before
  pub says : Says form input left logged
  pub last : EndsOneMore form says.lines before

-- The next moment is the earliest behind the last one. It is known of the events at which the last one was told; or at
-- the first event more at which one is; or at the end of the log, where none was known before.
pub data IsNextMoment (form : Form) (conditions : List Condition) (input left : Option (List ℕ))
    (told : Option (ℕ → Logged)) (at logged : List Logged) (moment : ℕ → Logged) : Type 0 where
  AtOnce : logged ≡ at → IsKnown (watches conditions) (taken_behind conditions told logged) moment
      → IsNextMoment form conditions input left told at logged moment
  AtEvent : IsFirstBehind form conditions input left told logged
      → IsKnown (watches conditions) (taken_behind conditions told logged) moment
      → IsNextMoment form conditions input left told at logged moment
  AtEnd : SaysWhole form input left logged → KnowsNoneBehind conditions told logged
      → IsEarliest (watches conditions) (taken_behind conditions told logged) moment
      → IsNextMoment form conditions input left told at logged moment

-- The next moment is told, and what comes is behind it.
pub record TellsNext (form : Form) (conditions : List Condition) (input left : Option (List ℕ))
    (told : Option (ℕ → Logged)) (at : List Logged) (answer : TraceAnswer) (moments : Moments) : Type 0 where
  pub logged : List Logged
  pub moment : ℕ → Logged
  pub next : IsNextMoment form conditions input left told at logged moment
  pub told_is : told_by answer ≡ found_told conditions moment
  pub following : IsFollowing form conditions input left (Some moment) logged moments

-- The log has ended, and there is no moment behind the last one.
pub record HasNoneBehind (form : Form) (conditions : List Condition) (input left : Option (List ℕ))
    (told : Option (ℕ → Logged)) (moments : Moments) : Type 0 where
  pub logged : List Logged
  pub says : SaysWhole form input left logged
  pub no_moment : HasNoMoment (watches conditions) (taken_behind conditions told logged)
  pub counted : HasCounted conditions logged moments.watcher

-- The input has this fault, and no moment behind the last one was known of the events before it.
pub record FailsBehind (form : Form) (conditions : List Condition) (input : Option (List ℕ))
    (told : Option (ℕ → Logged)) (fault : LogFault) : Type 0 where
  pub logged : List Logged
  pub failed : HasFault form input logged fault
  pub none_known : KnowsNoneBehind conditions told logged

abbrev pub StopsBehind : Form → List Condition → Option (List ℕ) → Option (ℕ → Logged) → DetectFault → Type 0
StopsBehind form conditions input told (fault.Log what) = FailsBehind form conditions input told what
StopsBehind form conditions input told (fault.NoHost host) = ⊥
StopsBehind form conditions input told (fault.Forgets what) = form.check ≡ true
StopsBehind form conditions input told fault.Read = Unit {0}
StopsBehind form conditions input told fault.Memory = Unit {0}

-- What is answered where the last moment was told at these events.
abbrev pub AnswersMoment : Form → List Condition → Option (List ℕ) → Option (List ℕ) → Option (ℕ → Logged)
    → List Logged → Result (Option TraceAnswer) DetectFault → Moments → Type 0
AnswersMoment form conditions input left told at (Ok (Some answer)) moments =
    TellsNext form conditions input left told at answer moments
AnswersMoment form conditions input left told at (Ok None) moments =
    HasNoneBehind form conditions input left told moments
AnswersMoment form conditions input left told at (Err why) moments = StopsBehind form conditions input told why

-- How far it has come on the way to the next moment: where one is known, it was known at once or is at the last event.
pub record IsOnTheWay (form : Form) (conditions : List Condition) (input left : Option (List ℕ))
    (told : Option (ℕ → Logged)) (at : List Logged) (moments : Moments) : Type 0 where
  pub logged : List Logged
  pub following : IsFollowing form conditions input left told logged moments
  pub when : moments.known ≡ true → (logged ≡ at) ⊎ IsFirstBehind form conditions input left told logged

-- One event more was read on the way, or the log has ended; or it has a fault.
abbrev pub ReadsOnTheWay : Form → List Condition → Option (List ℕ) → Option (List ℕ) → Option (ℕ → Logged)
    → List Logged → Result (Unit {0}) DetectFault → Moments → Type 0
ReadsOnTheWay form conditions input left told at (Ok _) moments =
    IsOnTheWay form conditions input left told at moments
ReadsOnTheWay form conditions input left told at (Err why) moments = StopsBehind form conditions input told why

-- One event more was read and taken.
pub record TakesNextOne (form : Form) (conditions : List Condition) (input left : Option (List ℕ))
    (told : Option (ℕ → Logged)) (before : List Logged) (known : Bool) (log : Log) (watcher : Watcher) : Type 0 where
  pub one : Logged
  pub reads : ReadsNext form input left before one log
  pub watching : IsWatchingBehind conditions told (before ++ one ∷ []) watcher
  pub all : KeepsNext conditions told before one watcher.search
  pub knows : is_known watcher.search ≡ known

-- One event more can be read and taken.
pub record CanReadBehind (left : Option (List ℕ)) (log : Log) (watcher : Watcher) : Type 0 where
  pub form : Form
  pub input : Option (List ℕ)
  pub told : Option (ℕ → Logged)
  pub before : List Logged
  pub read : HasReadEvents form input left before log
  pub watching : IsWatchingBehind watcher.conditions.now told before watcher
  pub few : length before < 2 ^ 64 - 1

-- One event more is read and taken, and it is answered whether a moment is known then; or the log has ended.
abbrev pub ReadsOneBehind : Form → List Condition → Option (List ℕ) → Option (List ℕ) → Option (ℕ → Logged)
    → List Logged → Watcher → Result (Option Bool) DetectFault → Log → Watcher → Type 0
ReadsOneBehind form conditions input left told before old (Ok (Some known)) log new =
    TakesNextOne form conditions input left told before known log new
ReadsOneBehind form conditions input left told before old (Ok None) log new =
    SaysWhole form input left before × (new ≡ old)
ReadsOneBehind form conditions input left told before old (Err why) log new =
    StopsBehind form conditions input told why
