-- What is answered about a log with clocks is what is answered about its bytes.
use Rattle.trace_asking.proofs.Words.{Bool, ℕ, List, Option, Result, Ok, Err, inl, inr}
use Rattle.trace_log.specs.declared.turn.Form.{Form}
use Rattle.trace_source.specs.declared.clocked.Clocked.{Clocked}
use Rattle.trace_source.specs.Clocked.{LogInput, left_of, log_story}
use Rattle.trace_source.specs.Story.{Story}
use Rattle.trace_detect.specs.declared.answer.ReasonedAnswer.{ReasonedAnswer}
use Rattle.trace_detect.specs.declared.fault.DetectFault.{DetectFault}
use Rattle.trace_detect.specs.declared.fault.DetectFault.TheVariants as fault
use Rattle.trace_asking.specs.declared.asking.QuestionAnswer.{QuestionAnswer}
use Rattle.trace_asking.specs.declared.question.Question.{Question}
use Rattle.trace_asking.specs.Answered.{AnswersAtEnd, AnswersOf, StopsOf}
use Rattle.trace_asking.specs.Asking.{AnswersOneOf, StopAllOf, question_at}
use Rattle.trace_asking.specs.OfBytes.{Answers, AnswersOne, StopAll, StopsFor, input_story}

-- What is answered where it stops for a fault.
pub stopped_of : {S : Type 0} (story : Story S) (question : Question) (source : S) (why : DetectFault)
    → StopsOf story question why → AnswersOf story question source (Err why)
stopped_of story question source (fault.Log what) stops = stops
stopped_of story question source (fault.NoHost named) stops = absurd stops
stopped_of story question source (fault.Forgets what) stops = stops
stopped_of story question source fault.Read stops = tt
stopped_of story question source fault.Memory stops = tt

pub stopped : (form : Form) (question : Question) (input left : Option (List ℕ)) (why : DetectFault)
    → StopsFor form question input why → Answers form question input left (Err why)
stopped form question input left why stops = stopped_of (input_story form input) question left why stops

module _ {I : Type 0} (remaining : I → Option (List ℕ)) (log : LogInput) where
  at_end : (question : Question) (source : Clocked I) (result : Result ReasonedAnswer DetectFault)
      → AnswersAtEnd (log_story remaining log) question source result
      → AnswersAtEnd (input_story log.form log.bytes) question (left_of remaining source) result
  at_end question source result whole = record {
    logged = whole.logged;
    ended = whole.ended.says;
    none_known = whole.none_known;
    tells = whole.tells;
  }

  -- Where a question has no answer.
  pub stops_for : (question : Question) (why : DetectFault) → StopsOf (log_story remaining log) question why
      → StopsFor log.form question log.bytes why
  stops_for question (fault.Log what) stops =
      record { logged = stops.logged; failed = stops.failed; none_known = stops.none_known }
  stops_for question (fault.NoHost named) stops = absurd stops
  stops_for question (fault.Forgets what) stops = stops
  stops_for question fault.Read stops = tt
  stops_for question fault.Memory stops = tt

  -- What is answered.
  pub answers : (question : Question) (source : Clocked I) (result : Result ReasonedAnswer DetectFault)
      → AnswersOf (log_story remaining log) question source result
      → Answers log.form question log.bytes (left_of remaining source) result
  answers question source (Ok answer) (inl early) = inl (record {
    before = early.before;
    one = early.one;
    none_before = early.none_before;
    gives = (early.gives.read.says, early.gives.last);
    tells = early.tells;
  })
  answers question source (Ok answer) (inr whole) = inr (at_end question source (Ok answer) whole)
  answers question source (Err (fault.NoHost named)) whole = at_end question source (Err (fault.NoHost named)) whole
  answers question source (Err (fault.Log what)) fails = stops_for question (fault.Log what) fails
  answers question source (Err (fault.Forgets what)) checks = checks
  answers question source (Err fault.Read) is = tt
  answers question source (Err fault.Memory) is = tt

  -- The same of several questions.
  pub answers_one : (questions : List Question) (source : Clocked I) (old : List Bool) (told : QuestionAnswer)
      (new : List Bool) → AnswersOneOf (log_story remaining log) questions source old told new
      → AnswersOne log.form questions log.bytes (left_of remaining source) old told new
  answers_one questions source old told new one = record {
    within = one.within;
    unanswered = one.unanswered;
    now = one.now;
    answer = λ question. answers (question_at questions told.place question) source told.answer (one.answer question);
  }

  pub stop_all : (questions : List Question) (answered : List Bool) (why : DetectFault)
      → StopAllOf (log_story remaining log) questions answered why → StopAll log.form questions log.bytes answered why
  stop_all questions answered why stops p question b within not_yet =
      stops_for (question_at questions p question) why (stops p question b within not_yet)
