-- What is detected where a schedule is asked for.
use Rattle.std.specs.Prelude.{◌≡◌, List, Option, Result, Ok, Err, ℕ}
use Rattle.trace_log.specs.declared.turn.Form.{Form}
use Rattle.trace_detect.specs.declared.answer.ReasonedAnswer.{ReasonedAnswer}
use Rattle.trace_detect.specs.declared.fault.DetectFault.{DetectFault}
use Rattle.trace_asking.specs.declared.question.Question.{Question}
use Rattle.trace_schedule.specs.declared.ordered_fault.OrderedFault.{OrderedFault}
use Rattle.trace_schedule.specs.declared.ordered_fault.OrderedFault.TheVariants as why
use Rattle.trace_schedule.specs.declared.recording.RecordedAnswer.{RecordedAnswer}
use Rattle.trace_schedule.specs.InOrder.{AnswersRecorded, Lists, RefusesOf}
use Rattle.trace_cli.specs.declared.fault.TraceFault.{TraceFault}
use Rattle.trace_cli.specs.declared.fault.TraceFault.TheVariants.{Contradicts, Detection}

-- An answer that lists a schedule in the place of a moment, of the events that were read for it.
pub record DetectsInOrder (form : Form) (question : Question) (input input_after : Option (List ℕ))
    (told : ReasonedAnswer) : Type 0 where
  pub recorded : RecordedAnswer
  pub answers : AnswersRecorded form question input input_after (Ok recorded)
  pub lists : Lists recorded.events.items recorded.answer told

-- The fault that tells why there is no schedule.
abbrev pub fault_of : OrderedFault → TraceFault
fault_of (why.Detection fault) = Detection fault
fault_of (why.Contradicts line) = Contradicts line

-- The fault that tells why none is listed.
pub record RefusesInOrder (form : Form) (question : Question) (input input_after : Option (List ℕ))
    (fault : TraceFault) : Type 0 where
  pub recorded : RecordedAnswer
  pub answers : AnswersRecorded form question input input_after (Ok recorded)
  pub why : OrderedFault
  pub refuses : RefusesOf recorded.events.items recorded.answer.answer why
  pub is : fault ≡ fault_of why

-- Or why there is no answer.
abbrev pub DetectsScheduled : Form → Question → Option (List ℕ) → Option (List ℕ)
    → Result ReasonedAnswer DetectFault → Type 0
DetectsScheduled form question input input_after (Ok told) = DetectsInOrder form question input input_after told
DetectsScheduled form question input input_after (Err fault) =
    AnswersRecorded form question input input_after (Err fault)
