-- What is answered about a log of which the events are kept, by its bytes.
use Rattle.std.proofs.Common.{◌≡◌, ℕ, true, false, Bool, List, [], ◌∷◌, Option, Result, Ok, Err, inl, inr, arith}
use Rattle.trace_log.specs.declared.turn.Form.{Form}
use Rattle.trace_source.specs.declared.clocked.Clocked.{Clocked}
use Rattle.trace_source.specs.Clocked.{LogInput, left_of, log_story}
use Rattle.trace_source.specs.Story.{Story}
use Rattle.trace_detect.specs.declared.answer.ReasonedAnswer.{ReasonedAnswer}
use Rattle.trace_detect.specs.declared.fault.DetectFault.{DetectFault}
use Rattle.trace_detect.specs.declared.fault.DetectFault.TheVariants as fault
use Rattle.trace_asking.specs.declared.asking.Asking.{Asking}
use Rattle.trace_asking.specs.declared.question.Question.{Question}
use Rattle.trace_asking.specs.Answered.{AnswersAtEnd, AnswersOf}
use Rattle.trace_asking.specs.Asking.{HasGivenSo, IsAsking}
use Rattle.trace_asking.specs.OfBytes.{StopsFor}
use Rattle.trace_asking.proofs.Bridge.{answers, stopped, stops_for}
use Rattle.trace_schedule.specs.declared.recorded.Recorded.{Recorded}
use Rattle.trace_schedule.specs.declared.recording.RecordedAnswer.{RecordedAnswer}
use Rattle.trace_schedule.specs.InOrder.{AnswersRecorded, WereRead}
use Rattle.trace_schedule.specs.Recorded.{recorded_story}

-- What is answered where it stops for a fault.
pub fault_stops : (form : Form) (question : Question) (input rest : Option (List ℕ)) (why : DetectFault)
    → StopsFor form question input why → AnswersRecorded form question input rest (Err why)
fault_stops form question input rest why stops =
    record { ahead = []; few = omega arith; answers = stopped form question input _ why stops; kept = tt }

pub fault_for_memory : (form : Form) (question : Question) (input rest : Option (List ℕ))
    → AnswersRecorded form question input rest (Err fault.Memory)
fault_for_memory form question input rest = fault_stops form question input rest fault.Memory tt

module _ {I : Type 0} (remaining : I → Option (List ℕ)) (log : LogInput) (question : Question) where
  abbrev pub story : Story (Recorded (Clocked I))
  story = recorded_story (log_story remaining log)

  at_end : (source : Recorded (Clocked I)) (result : Result ReasonedAnswer DetectFault)
      → AnswersAtEnd story question source result
      → AnswersAtEnd (log_story remaining log) question source.source result
  at_end source result whole = record {
    logged = whole.logged;
    ended = whole.ended.0;
    none_known = whole.none_known;
    tells = whole.tells;
  }

  -- What is answered, whatever is kept.
  whatever_kept : (source : Recorded (Clocked I)) (result : Result ReasonedAnswer DetectFault)
      → AnswersOf story question source result → AnswersOf (log_story remaining log) question source.source result
  whatever_kept source (Ok answer) (inl early) = inl (record {
    before = early.before;
    one = early.one;
    none_before = early.none_before;
    gives = early.gives.0;
    tells = early.tells;
  })
  whatever_kept source (Ok answer) (inr whole) = inr (at_end source (Ok answer) whole)
  whatever_kept source (Err (fault.NoHost named)) whole = at_end source (Err (fault.NoHost named)) whole
  whatever_kept source (Err (fault.Log what)) fails =
      record { logged = fails.logged; failed = fails.failed; none_known = fails.none_known }
  whatever_kept source (Err (fault.Forgets what)) checks = checks
  whatever_kept source (Err fault.Read) is = tt
  whatever_kept source (Err fault.Memory) is = tt

  -- The events that are kept are those that were read.
  were_read : (source : Recorded (Clocked I)) (answer : ReasonedAnswer) → AnswersOf story question source (Ok answer)
      → WereRead log.form log.bytes (left_of remaining source.source) source.events.items
  were_read source answer (inl early) = inl (rw early.gives.1 early.gives.0.read.says)
  were_read source answer (inr whole) = inr (rw whole.ended.1 whole.ended.0.says)

  -- The input is lent by the name by which it was.
  lent_still : (asking : Asking (Recorded (Clocked I))) → IsAsking story (question ∷ []) asking
      → asking.source.source.input.ghost_name ≡ log.lent
  lent_still asking are = of asking.ended are.given
    where
      of : (ended : Bool) → HasGivenSo ended story are.logged asking.source
          → asking.source.source.input.ghost_name ≡ log.lent
      of true given = given.0.lent
      of false given = given.0.lent

  -- The source has given the input back: what was answered, and what is kept.
  pub answer_given_back : (asking : Asking (Recorded (Clocked I))) (rest : Option (List ℕ)) (recorded : RecordedAnswer)
      → recorded.events.items ≡ asking.source.events.items
      → (asking.source.source.input.ghost_name ≡ log.lent → rest ≡ remaining asking.source.source.input.now)
      → IsAsking story (question ∷ []) asking → AnswersOf story question asking.source (Ok recorded.answer)
      → AnswersRecorded log.form question log.bytes rest (Ok recorded)
  answer_given_back asking rest recorded kept back are is =
      let given = back (lent_still asking are) in
      let source = asking.source in
      record {
        ahead = source.source.events.lines.ahead;
        few = source.source.events.few;
        answers = rw given (answers remaining log question source.source (Ok recorded.answer)
            (whatever_kept source (Ok recorded.answer) is));
        kept = rw (given, kept) (were_read source recorded.answer is);
      }

  pub fault_given_back : (asking : Asking (Recorded (Clocked I))) (rest : Option (List ℕ)) (why : DetectFault)
      → (asking.source.source.input.ghost_name ≡ log.lent → rest ≡ remaining asking.source.source.input.now)
      → AnswersOf story question asking.source (Err why)
      → AnswersRecorded log.form question log.bytes rest (Err why)
  fault_given_back asking rest (fault.NoHost named) back whole =
      let given = back whole.ended.0.lent in
      let source = asking.source in
      record {
        ahead = source.source.events.lines.ahead;
        few = source.source.events.few;
        answers = rw given (answers remaining log question source.source (Err (fault.NoHost named))
            (whatever_kept source (Err (fault.NoHost named)) whole));
        kept = tt;
      }
  fault_given_back asking rest (fault.Log what) back is =
      fault_stops log.form question log.bytes rest (fault.Log what) (stops_for remaining log question (fault.Log what)
      (record { logged = is.logged; failed = is.failed; none_known = is.none_known }))
  fault_given_back asking rest (fault.Forgets what) back is = fault_stops log.form question log.bytes rest _ is
  fault_given_back asking rest fault.Read back is = fault_stops log.form question log.bytes rest fault.Read tt
  fault_given_back asking rest fault.Memory back is = fault_stops log.form question log.bytes rest fault.Memory tt
