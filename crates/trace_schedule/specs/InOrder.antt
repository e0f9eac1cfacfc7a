-- What is answered where the events of a log are kept, and the answer that lists a schedule.
use Rattle.std.specs.Prelude.{◌≡◌, ◌≤◌, ◌⊎◌, ℕ, List, Option, Result, Ok, Err, length, map, IfOk}
use Rattle.std.specs.Io.KnownBytes.{prepend_known}
use Rattle.wcp_io.specs.Input.{most_waiting}
use Rattle.trace_log.specs.declared.turn.Form.{Form}
use Rattle.trace_log.specs.Log.{Logged}
use Rattle.trace_log.specs.Reading.{Says, SaysWhole}
use Rattle.trace_detect.specs.declared.answer.ReasonedAnswer.{ReasonedAnswer}
use Rattle.trace_detect.specs.declared.answer.TraceAnswer.{TraceAnswer}
use Rattle.trace_detect.specs.declared.answer.TraceAnswer.TheVariants.{Definite, Found, NoMoment, Possible}
use Rattle.trace_detect.specs.declared.fault.DetectFault.{DetectFault}
use Rattle.trace_detect.specs.declared.fault.DetectFault.TheVariants.{Memory}
use Rattle.trace_detect.specs.Told.{ToldMember, found, member_of, seen_member, told_by}
use Rattle.trace_asking.specs.declared.question.Question.{Question}
use Rattle.trace_asking.specs.OfBytes.{Answers}
use Rattle.trace_schedule.specs.declared.ordered_fault.OrderedFault.{OrderedFault}
use Rattle.trace_schedule.specs.declared.ordered_fault.OrderedFault.TheVariants.{Contradicts, Detection}
use Rattle.trace_schedule.specs.declared.recording.RecordedAnswer.{RecordedAnswer}
use Rattle.trace_schedule.specs.Schedule.{Contradict, IsSchedule, past_of}

-- An answer alone.
abbrev pub without_events : Result RecordedAnswer DetectFault → Result ReasonedAnswer DetectFault
without_events (Ok recorded) = Ok recorded.answer
without_events (Err fault) = Err fault

-- These events were read of an input of which this is left: up to the last line that was read, or all.
abbrev pub WereRead : Form → Option (List ℕ) → Option (List ℕ) → List Logged → Type 0
WereRead form input left logged = Says form input left logged ⊎ SaysWhole form input left logged

-- What is answered to a question alone, and the events that were read for it. Some bytes of the input were read ahead,
-- and are left too: no more than one read asks for.
pub record AnswersRecorded (form : Form) (question : Question) (input input_after : Option (List ℕ))
    (result : Result RecordedAnswer DetectFault) : Type 0 where
  pub ahead : List ℕ
  pub few : length ahead ≤ most_waiting
  pub answers : Answers form question input (prepend_known ahead input_after) (without_events result)
  pub kept : IfOk result (λ recorded.
      WereRead form input (prepend_known ahead input_after) recorded.events.items)

-- An event, as a member is told.
abbrev pub told_event : Logged → ToldMember
told_event one = member_of one.event.host one

-- A schedule of these members is listed.
pub record IsListed (members : List ToldMember) (logged : List Logged) (listed : List ToldMember) : Type 0 where
  pub order : List Logged
  pub is : IsSchedule members logged order
  pub told : listed ≡ map told_event order

-- An answer lists a schedule in the place of a moment; any other is the same.
pub record ListsMoment (logged : List Logged) (members : List ToldMember) (answer : TraceAnswer) : Type 0 where
  pub listed : List ToldMember
  pub is : IsListed members logged listed
  pub tells : told_by answer ≡ found listed

abbrev pub ListsOf : List Logged → TraceAnswer → TraceAnswer → Type 0
ListsOf logged (Found members) answer = ListsMoment logged (map seen_member members.items) answer
ListsOf logged (NoMoment counts) answer = answer ≡ NoMoment counts
ListsOf logged (Definite runs) answer = answer ≡ Definite runs
ListsOf logged (Possible members) answer = answer ≡ Possible members

-- Why no schedule of these members is listed: memory ran out, or clocks contradict each other.
abbrev pub Refuses : List ToldMember → List Logged → OrderedFault → Type 0
Refuses members logged (Detection fault) = fault ≡ Memory
Refuses members logged (Contradicts line) = Contradict (past_of members logged) line

-- Nothing but a moment is refused.
abbrev pub RefusesOf : List Logged → TraceAnswer → OrderedFault → Type 0
RefusesOf logged (Found members) fault = Refuses (map seen_member members.items) logged fault
RefusesOf logged (NoMoment counts) fault = ⊥
RefusesOf logged (Definite runs) fault = ⊥
RefusesOf logged (Possible members) fault = ⊥

-- With the reasons of the answer.
pub record Lists (logged : List Logged) (told : ReasonedAnswer) (answer : ReasonedAnswer) : Type 0 where
  pub lists : ListsOf logged told.answer answer.answer
  pub why : answer.why ≡ told.why
