-- What is known of several questions about one log, and what is answered to each.
use Rattle.std.specs.Prelude.{◌≡◌, ◌≢◌, ℕ, ◌-◌, ◌<◌, ◌^◌, ◌∷◌, ◌++◌, [], Bool, true, false, List, length}
use Rattle.std.specs.Prelude.{Option, Some, None, Result, Ok, Err, All, MatchBool, map, slice_index_or, slice_set}
use Rattle.trace_log.specs.Log.{Logged}
use Rattle.trace_log.specs.LoggedEvents.{FollowsIn}
use Rattle.trace_source.specs.Story.{GivesNext, Story}
use Rattle.trace_detect.specs.declared.answer.ReasonedAnswer.{ReasonedAnswer}
use Rattle.trace_detect.specs.declared.fault.DetectFault.{DetectFault}
use Rattle.trace_asking.specs.declared.asked.Asked.{Asked}
use Rattle.trace_asking.specs.declared.asked.Stage.{Stage}
use Rattle.trace_asking.specs.declared.asked.Stage.TheVariants.{Open, Known, Answered}
use Rattle.trace_asking.specs.declared.asking.Asking.{Asking}
use Rattle.trace_asking.specs.declared.asking.QuestionAnswer.{QuestionAnswer}
use Rattle.trace_asking.specs.declared.question.Question.{Question}
use Rattle.trace_asking.specs.declared.seeker.Seeker.{Seeker}
use Rattle.trace_asking.specs.Answered.{AnswersOf, HasFirstKnown, StopsOf}
use Rattle.trace_asking.specs.Seeking.{IsAskable, IsKnowing, IsSeeking, NoneIsKnown}

-- The question at a place.
abbrev pub question_at : List Question → ℕ → Question → Question
question_at questions place question = slice_index_or questions place question

-- Questions are asked in their order, and this is so of each.
pub record AreAsked (P : Question → Asked → Type 0) (questions : List Question) (asked : List Asked) : Type 0
  where
    pub as_many : length asked ≡ length questions
    pub each : (p : ℕ) (question : Question) (one : Asked) → p < length questions →
        P (question_at questions p question) (slice_index_or asked p one)

-- A search knows a moment of these events, and none was known of those before the last one.
pub record KnowsFirst (question : Question) (before : List Logged) (one : Logged) (seeker : Seeker) : Type 0 where
  pub knows : IsKnowing question (before ++ one ∷ []) seeker
  pub none_before : NoneIsKnown question.subject before

-- How a question stands after these events, where none waits for its answer.
abbrev pub WaitsAs : Stage → Question → List Logged → Seeker → Type 0
WaitsAs Open question logged seeker = IsSeeking question logged seeker
WaitsAs Known question logged seeker = ⊥
WaitsAs Answered question logged seeker = Unit {0}

abbrev pub IsWaiting : List Logged → Question → Asked → Type 0
IsWaiting logged question asked = WaitsAs asked.stage question logged asked.seeker

-- How it stands when it has taken one event more.
abbrev pub TakesAs : Stage → Question → List Logged → Logged → Seeker → Type 0
TakesAs Open question before one seeker = IsSeeking question (before ++ one ∷ []) seeker
TakesAs Known question before one seeker = KnowsFirst question before one seeker
TakesAs Answered question before one seeker = Unit {0}

abbrev pub HasTakenOne : List Logged → Logged → Question → Asked → Type 0
HasTakenOne before one question asked = TakesAs asked.stage question before one asked.seeker

-- How it stands where a source gave these events: no moment is known, or it became known at the last event.
abbrev pub StandsAs : {S : Type 0} → Story S → S → List Logged → Stage → Question → Seeker → Type 0
StandsAs story source logged Open question seeker = IsSeeking question logged seeker
StandsAs story source logged Known question seeker = HasFirstKnown story question source seeker
StandsAs story source logged Answered question seeker = Unit {0}

abbrev pub IsStanding : {S : Type 0} → Story S → S → List Logged → Question → Asked → Type 0
IsStanding story source logged question asked = StandsAs story source logged asked.stage question asked.seeker

-- The source gave these, or they are all.
abbrev pub HasGivenSo : {S : Type 0} → Bool → Story S → List Logged → S → Type 0
HasGivenSo ended story logged source = MatchBool ended (story.ended logged source) (story.gave logged source)

-- Each question can take this event: it follows those before, and there are fewer than can be counted.
pub record CanAllTake (asked : List Asked) (one : Logged) : Type 0 where
  pub questions : List Question
  pub before : List Logged
  pub are : AreAsked (IsWaiting before) questions asked
  pub follows : FollowsIn before one.event
  pub few : length before < 2 ^ 64 - 1

-- Each question can be asked.
abbrev pub HaveAll : List Question → Type 0
HaveAll questions = All (λ question. IsAskable question.subject) questions

-- No question is at this stage.
abbrev pub NoneAt : Stage → List Asked → Type 0
NoneAt stage asked = All (λ one. one.stage ≢ stage) asked

-- The question at this place is.
pub record IsAt (stage : Stage) (asked : List Asked) (place : ℕ) : Type 0 where
  pub within : place < length asked
  pub at : (one : Asked) → (slice_index_or asked place one).stage ≡ stage

-- Whether a question was answered.
abbrev pub is_answered : Stage → Bool
is_answered Answered = true
is_answered Open = false
is_answered Known = false

abbrev pub answered_in : List Asked → List Bool
answered_in asked = map (λ one. is_answered one.stage) asked

-- Which questions were answered.
abbrev pub answered_by : {S : Type 0} → Asking S → List Bool
answered_by asking = answered_in asking.asked.items

-- Questions are asked about what a source gives.
pub record IsAsking {S : Type 0} (story : Story S) (questions : List Question) (asking : Asking S) : Type 0 where
  pub logged : List Logged
  pub given : HasGivenSo asking.ended story logged asking.source
  pub many : length logged ≡ asking.count
  pub asked : AreAsked (IsStanding story asking.source logged) questions asking.asked.items

-- Asking can go on with what the source gives.
pub record CanGoOn {W S : Type 0} (story : W → Story S) (asking : Asking S) : Type 0 where
  pub whole : W
  pub questions : List Question
  pub is : IsAsking (story whole) questions asking

-- This question is asked alone, and wasn't answered.
pub record IsAskingOne {S : Type 0} (story : Story S) (question : Question) (asking : Asking S) : Type 0 where
  pub is : IsAsking story (question ∷ []) asking
  pub unanswered : All (λ answered. answered ≡ false) (answered_by asking)

-- Some question is.
pub record AsksOne {W S : Type 0} (story : W → Story S) (asking : Asking S) : Type 0 where
  pub whole : W
  pub question : Question
  pub is : IsAskingOne (story whole) question asking

-- The question at this place wasn't answered before, and is answered now, so as this says of answers.
pub record AnswersOneBy (answers : Question → Result ReasonedAnswer DetectFault → Type 0) (questions : List Question)
    (old : List Bool) (told : QuestionAnswer) (new : List Bool) : Type 0 where
  pub within : told.place < length questions
  pub unanswered : (b : Bool) → slice_index_or old told.place b ≡ false
  pub now : new ≡ slice_set old told.place true
  pub answer : (question : Question) → answers (question_at questions told.place question) told.answer

abbrev pub AnswersOneOf : {S : Type 0} → Story S → List Question → S → List Bool → QuestionAnswer → List Bool → Type 0
AnswersOneOf story questions source old told new =
    AnswersOneBy (λ question answer. AnswersOf story question source answer) questions old told new

-- Asking stops for this fault at each question that wasn't answered, so as this says of faults.
abbrev pub StopAllBy : (Question → DetectFault → Type 0) → List Question → List Bool → DetectFault → Type 0
StopAllBy stops questions answered why = (p : ℕ) (question : Question) (b : Bool) → p < length questions
    → slice_index_or answered p b ≡ false → stops (question_at questions p question) why

abbrev pub StopAllOf : {S : Type 0} → Story S → List Question → List Bool → DetectFault → Type 0
StopAllOf story questions answered why = StopAllBy (StopsOf story) questions answered why

-- The next answer: that to one question more; or all are answered; or a fault.
abbrev pub AnswersNext : {S : Type 0} → Story S → List Question → S → List Bool
    → Result (Option QuestionAnswer) DetectFault → List Bool → Type 0
AnswersNext story questions source old (Ok (Some told)) new = AnswersOneOf story questions source old told new
AnswersNext story questions source old (Ok None) new = (new ≡ old) × All (λ one. one ≡ true) new
AnswersNext story questions source old (Err why) new = StopAllOf story questions old why

-- One event more was given and taken, or there is none, or a fault.
pub record TakesOne {S : Type 0} (story : Story S) (questions : List Question) (before : List Logged) (source : S)
    (asked : List Asked) : Type 0 where
  pub one : Logged
  pub gives : GivesNext story before one source
  pub takes : AreAsked (HasTakenOne before one) questions asked

abbrev pub ReadsOne : {S : Type 0} → Story S → List Question → List Logged → List Asked → Result Bool DetectFault → S
    → List Asked → Type 0
ReadsOne story questions before old (Ok true) source new =
    TakesOne story questions before source new × (answered_in new ≡ answered_in old)
ReadsOne story questions before old (Ok false) source new = story.ended before source × (new ≡ old)
ReadsOne story questions before old (Err why) source new = StopAllOf story questions (answered_in old) why

-- One event can be read, and each question can take it.
pub record CanReadOne {W S : Type 0} (story : W → Story S) (source : S) (asked : List Asked) : Type 0 where
  pub whole : W
  pub questions : List Question
  pub before : List Logged
  pub gave : (story whole).gave before source
  pub are : AreAsked (IsWaiting before) questions asked
  pub few : length before < 2 ^ 64 - 1

-- More was read, and no question answered; or asking stops.
abbrev pub ReadsFurther : {S : Type 0} → Story S → List Question → List Bool → Result (Unit {0}) DetectFault → Asking S
    → Type 0
ReadsFurther story questions old (Ok _) asking = IsAsking story questions asking × (answered_by asking ≡ old)
ReadsFurther story questions old (Err why) asking = StopAllOf story questions old why
