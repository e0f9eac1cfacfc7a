-- What is answered to a question about a log with clocks, by the bytes of an input.
use Rattle.std.specs.Prelude.{◌≡◌, ℕ, ◌≤◌, Bool, true, List, [], ◌∷◌, ◌++◌, Option, Result, length}
use Rattle.std.specs.Io.KnownBytes.{prepend_known}
use Rattle.wcp_io.specs.Input.{most_waiting}
use Rattle.trace_log.specs.declared.turn.Form.{Form}
use Rattle.trace_log.specs.LoggedEvents.{EndsOneMore}
use Rattle.trace_log.specs.Reading.{HasFault, Says, SaysWhole}
use Rattle.trace_source.specs.Story.{Story}
use Rattle.trace_detect.specs.declared.answer.ReasonedAnswer.{ReasonedAnswer}
use Rattle.trace_detect.specs.declared.fault.DetectFault.{DetectFault}
use Rattle.trace_asking.specs.Answered.{AnswersOf, StopsOf}
use Rattle.trace_asking.specs.Asking.{AnswersOneOf, StopAllOf}
use Rattle.trace_asking.specs.declared.asking.QuestionAnswer.{QuestionAnswer}
use Rattle.trace_asking.specs.declared.question.Question.{Question}

-- What is told of a log of this form by the bytes of an input and what is left of them: its first lines end these
-- events, and the last of them ends one more; its whole lines end these; or it has this fault.
abbrev pub input_story : Form → Option (List ℕ) → Story (Option (List ℕ))
input_story form input = record {
  gave = λ logged left. Says form input left logged;
  gives = λ before one left. (says : Says form input left (before ++ one ∷ [])) × EndsOneMore form says.lines before;
  ended = λ logged left. SaysWhole form input left logged;
  fails = HasFault form input;
  checks = form.check ≡ true;
}

-- What is answered to a question alone, by what is left of the input.
abbrev pub Answers : Form → Question → Option (List ℕ) → Option (List ℕ) → Result ReasonedAnswer DetectFault → Type 0
Answers form question input left result = AnswersOf (input_story form input) question left result

-- What is answered to a question alone. Some bytes of the input were read ahead, and are left too: no more than one
-- read asks for.
pub record AnswersAlone (form : Form) (question : Question) (input input_after : Option (List ℕ))
    (result : Result ReasonedAnswer DetectFault) : Type 0 where
  pub ahead : List ℕ
  pub few : length ahead ≤ most_waiting
  pub answers : Answers form question input (prepend_known ahead input_after) result

-- A question has no answer for this fault: the input has it, and no moment was known of the events before it; or a read
-- failed, or memory ran out.
abbrev pub StopsFor : Form → Question → Option (List ℕ) → DetectFault → Type 0
StopsFor form question input why = StopsOf (input_story form input) question why

-- The question at this place wasn't answered before, and is answered now, by what is left of the input.
abbrev pub AnswersOne : Form → List Question → Option (List ℕ) → Option (List ℕ) → List Bool → QuestionAnswer
    → List Bool → Type 0
AnswersOne form questions input left old told new = AnswersOneOf (input_story form input) questions left old told new

-- Asking stops for this fault at each question that wasn't answered.
abbrev pub StopAll : Form → List Question → Option (List ℕ) → List Bool → DetectFault → Type 0
StopAll form questions input answered why = StopAllOf (input_story form input) questions answered why
