-- What is answered to a question about what a source gives.
use Rattle.std.specs.Prelude.{◌⊎◌, List, [], ◌∷◌, ◌++◌, Result, Ok, Err}
use Rattle.trace_log.specs.declared.fault.LogFault.{LogFault}
use Rattle.trace_log.specs.Log.{Logged}
use Rattle.trace_source.specs.Story.{Story}
use Rattle.trace_detect.specs.declared.answer.ReasonedAnswer.{ReasonedAnswer}
use Rattle.trace_detect.specs.declared.fault.DetectFault.{DetectFault}
use Rattle.trace_detect.specs.declared.fault.DetectFault.TheVariants as fault
use Rattle.trace_asking.specs.declared.question.Question.{Question}
use Rattle.trace_asking.specs.declared.seeker.Seeker.{Seeker}
use Rattle.trace_asking.specs.Seeking.{IsKnowing, NoneIsKnown, TellsKnownSo, TellsLastSo}

-- A moment is told as soon as it is known: the source gave no event behind the first at which one is.
pub record AnswersEarly {S : Type 0} (story : Story S) (question : Question) (source : S) (told : ReasonedAnswer)
    : Type 0 where
  pub before : List Logged
  pub one : Logged
  pub none_before : NoneIsKnown question.subject before
  pub gives : story.gives before one source
  pub tells : TellsKnownSo question (before ++ one ∷ []) told

-- The source gave all events, no moment was known of them, and this is the answer to them all.
pub record AnswersAtEnd {S : Type 0} (story : Story S) (question : Question) (source : S)
    (result : Result ReasonedAnswer DetectFault) : Type 0 where
  pub logged : List Logged
  pub ended : story.ended logged source
  pub none_known : NoneIsKnown question.subject logged
  pub tells : TellsLastSo question logged result

-- What is read has this fault, and no moment was known of the events before it.
pub record FailsUnknown {S : Type 0} (story : Story S) (question : Question) (fault : LogFault) : Type 0 where
  pub logged : List Logged
  pub failed : story.fails logged fault
  pub none_known : NoneIsKnown question.subject logged

-- What is answered to a question alone, by how the source stands then.
abbrev pub AnswersOf : {S : Type 0} → Story S → Question → S → Result ReasonedAnswer DetectFault → Type 0
AnswersOf story question source (Ok answer) =
    AnswersEarly story question source answer ⊎ AnswersAtEnd story question source (Ok answer)
AnswersOf story question source (Err (fault.Log what)) = FailsUnknown story question what
AnswersOf story question source (Err (fault.NoHost named)) =
    AnswersAtEnd story question source (Err (fault.NoHost named))
AnswersOf story question source (Err (fault.Forgets what)) = story.checks
AnswersOf story question source (Err fault.Read) = Unit {0}
AnswersOf story question source (Err fault.Memory) = Unit {0}

-- A question has no answer for this fault: it is one of what is read, and no moment was known of the events before it;
-- or a read failed, or memory ran out.
abbrev pub StopsOf : {S : Type 0} → Story S → Question → DetectFault → Type 0
StopsOf story question (fault.Log what) = FailsUnknown story question what
StopsOf story question (fault.NoHost named) = ⊥
StopsOf story question (fault.Forgets what) = story.checks
StopsOf story question fault.Read = Unit {0}
StopsOf story question fault.Memory = Unit {0}

-- The last event that was given is the first at which a moment is known, and nothing was taken behind it.
pub record HasFirstKnown {S : Type 0} (story : Story S) (question : Question) (source : S) (seeker : Seeker) : Type 0
  where
    pub before : List Logged
    pub one : Logged
    pub none_before : NoneIsKnown question.subject before
    pub gives : story.gives before one source
    pub knows : IsKnowing question (before ++ one ∷ []) seeker
