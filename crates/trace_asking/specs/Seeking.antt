-- What a search for the answer to a question knows, and what it tells, by what the question asks.
use Rattle.std.specs.Prelude.{◌≡◌, ℕ, ◌-◌, ◌<◌, ◌^◌, ◌∷◌, ◌++◌, [], Bool, true, false, List, length}
use Rattle.std.specs.Prelude.{Some, Result, Ok, Err, IfOk, string_bytes}
use Rattle.std.specs.declared.alloc.AllocError.{AllocError}
use Rattle.trace_log.specs.Log.{Logged}
use Rattle.trace_log.specs.LoggedEvents.{FollowsIn}
use Rattle.trace_moment.specs.Moment.{IsKnown}
use Rattle.trace_moment.specs.Search.{is_known}
use Rattle.trace_condition.specs.declared.condition.Condition.{Condition}
use Rattle.trace_condition.specs.Conditions.{HaveHosts}
use Rattle.trace_pairs.specs.declared.hosts_condition.HostsCondition.{HostsCondition}
use Rattle.trace_pairs.specs.declared.moment.PairMoment.{PairMoment}
use Rattle.trace_pairs.specs.Hosts.{hosts_in}
use Rattle.trace_pairs.specs.Pairs.{IsLowestKnown, NoPairIsKnown}
use Rattle.trace_pairs.specs.Searching.{HasTakenLog, names_of, rule_in}
use Rattle.trace_detect.specs.declared.answer.ReasonedAnswer.{ReasonedAnswer}
use Rattle.trace_detect.specs.declared.answer.TraceAnswer.{TraceAnswer}
use Rattle.trace_detect.specs.declared.fault.DetectFault.{DetectFault}
use Rattle.trace_detect.specs.declared.recording.Recording.{Recording}
use Rattle.trace_detect.specs.Definite.{DecidesLast, KnowsNoRuns, TellsRuns}
use Rattle.trace_detect.specs.RunWatcher.{IsWatchingRuns, KnowsRuns}
use Rattle.trace_detect.specs.Detection.{AnswersLast, KnowsNone}
use Rattle.trace_detect.specs.Reasons.{IsWhySo, answer_alone}
use Rattle.trace_detect.specs.Recording.{IsRecording}
use Rattle.trace_detect.specs.Told.{Told, found_told, told_by}
use Rattle.trace_detect.specs.Watching.{taken_of, watches}
use Rattle.trace_asking.specs.AnyTwo.{AnswersLastOfTwo}
use Rattle.trace_asking.specs.TwoTold.{pair_told}
use Rattle.trace_asking.specs.declared.question.Question.{Question}
use Rattle.trace_asking.specs.declared.question.Subject.{Subject}
use Rattle.trace_asking.specs.declared.question.Subject.TheVariants.{Hosts, AnyTwo, Definitely}
use Rattle.trace_asking.specs.declared.seeker.PairSeeker.{PairSeeker}
use Rattle.trace_asking.specs.declared.seeker.Seeker.{Seeker}
use Rattle.trace_asking.specs.declared.seeker.Seeker.TheVariants as seeker

-- A question can be asked: where it is of named hosts, it has conditions, of which no two are of one host.
abbrev pub IsAskable : Subject → Type 0
IsAskable (Hosts conditions) = HaveHosts conditions.items
IsAskable (AnyTwo condition) = Unit {0}
IsAskable (Definitely conditions) = HaveHosts conditions.items

-- No answer is known of these events: no moment, or no runs that overlap.
abbrev pub NoneIsKnown : Subject → List Logged → Type 0
NoneIsKnown (Hosts conditions) logged = KnowsNone conditions.items logged
NoneIsKnown (AnyTwo condition) logged =
    NoPairIsKnown (rule_in condition) logged (hosts_in (names_of condition) logged)
NoneIsKnown (Definitely conditions) logged = KnowsNoRuns conditions.items logged

-- A search has taken all these events, and knows no moment of them.
pub record IsRecordingYet (conditions : List Condition) (why : Bool) (logged : List Logged) (recording : Recording)
    : Type 0 where
  pub is : IsRecording conditions why logged recording
  pub none_known : is_known recording.watcher.search ≡ false

pub record IsSeekingTwo (condition : HostsCondition) (logged : List Logged) (pair : PairSeeker) : Type 0 where
  pub by : pair.condition.now ≡ condition
  pub taken : HasTakenLog (names_of condition) (rule_in condition) logged pair.search

abbrev pub IsSeekingBy : Bool → Subject → List Logged → Seeker → Type 0
IsSeekingBy why (Hosts conditions) logged (seeker.Hosts recording) =
    IsRecordingYet conditions.items why logged recording
IsSeekingBy why (Hosts conditions) logged (seeker.AnyTwo pair) = ⊥
IsSeekingBy why (Hosts conditions) logged (seeker.Definitely watcher) = ⊥
IsSeekingBy why (AnyTwo condition) logged (seeker.Hosts recording) = ⊥
IsSeekingBy why (AnyTwo condition) logged (seeker.AnyTwo pair) = IsSeekingTwo condition logged pair
IsSeekingBy why (AnyTwo condition) logged (seeker.Definitely watcher) = ⊥
IsSeekingBy why (Definitely conditions) logged (seeker.Hosts recording) = ⊥
IsSeekingBy why (Definitely conditions) logged (seeker.AnyTwo pair) = ⊥
IsSeekingBy why (Definitely conditions) logged (seeker.Definitely watcher) =
    IsWatchingRuns conditions.items logged watcher

abbrev pub IsSeeking : Question → List Logged → Seeker → Type 0
IsSeeking question logged seeker = IsSeekingBy question.why question.subject logged seeker

-- It has taken some.
pub record HasSought (seeker : Seeker) : Type 0 where
  pub question : Question
  pub logged : List Logged
  pub is : IsSeeking question logged seeker

-- It can take this event: it follows those before, and there are fewer than can be counted.
pub record CanSeek (seeker : Seeker) (one : Logged) : Type 0 where
  pub question : Question
  pub before : List Logged
  pub is : IsSeeking question before seeker
  pub follows : FollowsIn before one.event
  pub few : length before < 2 ^ 64 - 1

-- It knows a moment of all of them.
pub record KnowsOfHosts (conditions : List Condition) (why : Bool) (logged : List Logged) (recording : Recording)
    : Type 0 where
  pub is : IsRecording conditions why logged recording
  pub known : is_known recording.watcher.search ≡ true

pub record KnowsOfTwo (condition : HostsCondition) (logged : List Logged) (pair : PairSeeker) : Type 0 where
  pub told : PairMoment
  pub kept : pair.known ≡ Some told
  pub known : IsLowestKnown (rule_in condition) logged (hosts_in (names_of condition) logged) told

abbrev pub IsKnowingBy : Bool → Subject → List Logged → Seeker → Type 0
IsKnowingBy why (Hosts conditions) logged (seeker.Hosts recording) = KnowsOfHosts conditions.items why logged recording
IsKnowingBy why (Hosts conditions) logged (seeker.AnyTwo pair) = ⊥
IsKnowingBy why (Hosts conditions) logged (seeker.Definitely watcher) = ⊥
IsKnowingBy why (AnyTwo condition) logged (seeker.Hosts recording) = ⊥
IsKnowingBy why (AnyTwo condition) logged (seeker.AnyTwo pair) = KnowsOfTwo condition logged pair
IsKnowingBy why (AnyTwo condition) logged (seeker.Definitely watcher) = ⊥
IsKnowingBy why (Definitely conditions) logged (seeker.Hosts recording) = ⊥
IsKnowingBy why (Definitely conditions) logged (seeker.AnyTwo pair) = ⊥
IsKnowingBy why (Definitely conditions) logged (seeker.Definitely watcher) = KnowsRuns conditions.items logged watcher

abbrev pub IsKnowing : Question → List Logged → Seeker → Type 0
IsKnowing question logged seeker = IsKnowingBy question.why question.subject logged seeker

-- It knows the answer to some.
pub record KnowsSome (seeker : Seeker) : Type 0 where
  pub question : Question
  pub logged : List Logged
  pub is : IsKnowing question logged seeker

-- It has taken one event more, and says whether a moment is known; or memory ran out.
abbrev pub SeeksNextBy : Bool → Subject → List Logged → Logged → Result Bool AllocError → Seeker → Type 0
SeeksNextBy why subject before one (Ok true) seeker = IsKnowingBy why subject (before ++ one ∷ []) seeker
SeeksNextBy why subject before one (Ok false) seeker = IsSeekingBy why subject (before ++ one ∷ []) seeker
SeeksNextBy why subject before one (Err _) seeker = Unit {0}

abbrev pub SeeksNext : Question → List Logged → Logged → Result Bool AllocError → Seeker → Type 0
SeeksNext question before one result seeker = SeeksNextBy question.why question.subject before one result seeker

-- The same of any two hosts.
abbrev pub SeeksNextOfTwo : HostsCondition → List Logged → Logged → Result Bool AllocError → PairSeeker → Type 0
SeeksNextOfTwo condition before one (Ok true) pair = KnowsOfTwo condition (before ++ one ∷ []) pair
SeeksNextOfTwo condition before one (Ok false) pair = IsSeekingTwo condition (before ++ one ∷ []) pair
SeeksNextOfTwo condition before one (Err _) pair = Unit {0}

-- A moment of these events is known, and it is told.
pub record KnowsMoment (conditions : List Condition) (logged : List Logged) (told : Told) : Type 0 where
  pub moment : ℕ → Logged
  pub known : IsKnown (watches conditions) (taken_of conditions logged) moment
  pub tells : told ≡ found_told conditions moment

pub record KnowsPair (condition : HostsCondition) (logged : List Logged) (told : Told) : Type 0 where
  pub moment : PairMoment
  pub known : IsLowestKnown (rule_in condition) logged (hosts_in (names_of condition) logged) moment
  pub tells : told ≡ pair_told moment

abbrev pub TellsKnown : Subject → List Logged → Told → Type 0
TellsKnown (Hosts conditions) logged told = KnowsMoment conditions.items logged told
TellsKnown (AnyTwo condition) logged told = KnowsPair condition logged told
TellsKnown (Definitely conditions) logged told = TellsRuns conditions.items logged told

-- What is answered at the end of the log.
abbrev pub TellsLast : Subject → List Logged → Result TraceAnswer DetectFault → Type 0
TellsLast (Hosts conditions) logged result = AnswersLast conditions.items logged result
TellsLast (AnyTwo condition) logged result = AnswersLastOfTwo condition logged result
TellsLast (Definitely conditions) logged result = DecidesLast conditions.items logged result

-- Why an answer to a question of hosts stands, where that is asked. Of others no reasons are given.
abbrev pub IsWhyOf : Bool → Subject → List Logged → List ℕ → Type 0
IsWhyOf why (Hosts conditions) logged text = IsWhySo why conditions.items logged text
IsWhyOf why (AnyTwo condition) logged text = text ≡ []
IsWhyOf why (Definitely conditions) logged text = text ≡ []

-- An answer that is known of these events is told, with its reasons.
pub record TellsKnownSo (question : Question) (logged : List Logged) (told : ReasonedAnswer) : Type 0 where
  pub tells : TellsKnown question.subject logged (told_by told.answer)
  pub why : IsWhyOf question.why question.subject logged (string_bytes told.why)

-- And one at the end of the log.
pub record TellsLastSo (question : Question) (logged : List Logged) (result : Result ReasonedAnswer DetectFault) : Type 0
  where
    pub tells : TellsLast question.subject logged (answer_alone result)
    pub why : IfOk result (λ told. IsWhyOf question.why question.subject logged (string_bytes told.why))
