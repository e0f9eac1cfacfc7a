-- What is answered at the end of a log.
use Rattle.std.specs.Prelude.{◌≡◌, ℕ, ◌<◌, List, [], take, All, Result, Ok, Err, length, slice_index_or, string_bytes}
use Rattle.trace_log.specs.Log.{Logged}
use Rattle.trace_moment.specs.Moment.{IsEarliest}
use Rattle.trace_moment.specs.Standing.{HasNoMoment, NoneIsKnown}
use Rattle.trace_condition.specs.declared.condition.Condition.{Condition}
use Rattle.trace_condition.specs.Conditions.{host_of}
use Rattle.trace_detect.specs.declared.answer.TraceAnswer.{TraceAnswer}
use Rattle.trace_detect.specs.declared.fault.DetectFault.{DetectFault}
use Rattle.trace_detect.specs.declared.fault.DetectFault.TheVariants as fault
use Rattle.trace_detect.specs.Watching.{watches, taken_of, events_at}
use Rattle.trace_detect.specs.Told.{Told, found_told, none_told, told_by}

-- No moment is known of these events. What is known of events stays known, so none is known of fewer of them either.
abbrev pub KnowsNone : List Condition → List Logged → Type 0
KnowsNone conditions logged = NoneIsKnown (watches conditions) (taken_of conditions logged)

-- The host of a condition logs nothing.
abbrev pub IsSilent : List Logged → Condition → Type 0
IsSilent logged condition = events_at (host_of condition) logged ≡ []

-- Each host logs something.
abbrev pub AllLog : List Logged → List Condition → Type 0
AllLog logged conditions = All (λ condition. IsSilent logged condition → ⊥) conditions

-- The host at this place is the first that logs nothing.
pub record IsFirstSilent (logged : List Logged) (conditions : List Condition) (place : ℕ) : Type 0 where
  pub within : place < length conditions
  pub silent : (condition : Condition) → IsSilent logged (slice_index_or conditions place condition)
  pub before : AllLog logged (take place conditions)

-- The earliest moment of all events is told; or that there is none, with how often each condition held: then each host
-- logs something.
pub data IsLastAnswer (conditions : List Condition) (logged : List Logged) (told : Told) : Type 0 where
  Found : (moment : ℕ → Logged) → IsEarliest (watches conditions) (taken_of conditions logged) moment
      → told ≡ found_told conditions moment → IsLastAnswer conditions logged told
  NoMoment : HasNoMoment (watches conditions) (taken_of conditions logged) → AllLog logged conditions
      → told ≡ none_told conditions logged → IsLastAnswer conditions logged told

-- There is no moment of all events, and this is the first host that logs nothing.
pub record HasSilentHost (conditions : List Condition) (logged : List Logged) (host : List ℕ) : Type 0 where
  pub no_moment : HasNoMoment (watches conditions) (taken_of conditions logged)
  pub place : ℕ
  pub first : IsFirstSilent logged conditions place
  pub named : (condition : Condition) → host_of (slice_index_or conditions place condition) ≡ host

-- What is answered at the end of the log.
abbrev pub AnswersLast : List Condition → List Logged → Result TraceAnswer DetectFault → Type 0
AnswersLast conditions logged (Ok answer) = IsLastAnswer conditions logged (told_by answer)
AnswersLast conditions logged (Err (fault.NoHost host)) = HasSilentHost conditions logged (string_bytes host)
AnswersLast conditions logged (Err fault.Memory) = Unit {0}
AnswersLast conditions logged (Err _) = ⊥
