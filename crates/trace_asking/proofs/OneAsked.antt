-- One question about what a source gives.
use Rattle.trace_asking.proofs.Words.{◌≡◌, ◌∙◌, ℕ, Bool, true, false, List, [], ◌∷◌, Option, None, Result, Ok}
use Rattle.trace_asking.proofs.Words.{Err, length, ap, subst, arith, length-map, slice_index_or}
use Rattle.std.specs.Prelude.{All, OnOk}
use Rattle.trace_log.specs.declared.turn.Form.{Form}
use Rattle.trace_source.specs.declared.clocked.Clocked.{Clocked}
use Rattle.trace_source.specs.Clocked.{LogInput, log_story}
use Rattle.trace_source.specs.Story.{Story}
use Rattle.trace_detect.specs.declared.answer.ReasonedAnswer.{ReasonedAnswer}
use Rattle.trace_detect.specs.declared.fault.DetectFault.{DetectFault}
use Rattle.trace_detect.specs.declared.fault.DetectFault.TheVariants as fault
use Rattle.trace_asking.specs.declared.asked.Asked.{Asked}
use Rattle.trace_asking.specs.declared.asking.Asking.{Asking}
use Rattle.trace_asking.specs.declared.asking.QuestionAnswer.{QuestionAnswer}
use Rattle.trace_asking.specs.declared.question.Question.{Question}
use Rattle.trace_asking.specs.Answered.{AnswersOf, StopsOf}
use Rattle.trace_asking.specs.Asking.{AnswersNext, AnswersOneOf, HasGivenSo, IsAsking, StopAllOf, answered_by, is_answered}
use Rattle.trace_asking.specs.OfBytes.{AnswersAlone, StopsFor}
use Rattle.trace_asking.proofs.Bridge.{answers, stopped, stops_for}

-- What is answered where it stops for a fault.
pub alone_stops : (form : Form) (question : Question) (input rest : Option (List ℕ)) (why : DetectFault)
    → StopsFor form question input why → AnswersAlone form question input rest (Err why)
alone_stops form question input rest why stops =
    record { ahead = []; few = omega arith; answers = stopped form question input _ why stops }

pub alone_for_memory : (form : Form) (question : Question) (input rest : Option (List ℕ))
    → AnswersAlone form question input rest (Err fault.Memory)
alone_for_memory form question input rest = alone_stops form question input rest fault.Memory tt

-- The input is lent by the name by which it was.
lent_still : {I : Type 0} (remaining : I → Option (List ℕ)) (log : LogInput) (questions : List Question)
    (asking : Asking (Clocked I)) → IsAsking (log_story remaining log) questions asking
    → asking.source.input.ghost_name ≡ log.lent
lent_still {I = I} remaining log questions asking are = of asking.ended are.given
  where
    of : (ended : Bool) → HasGivenSo ended (log_story remaining log) are.logged asking.source
        → asking.source.input.ghost_name ≡ log.lent
    of true given = given.lent
    of false given = given.lent

-- What is answered about a log, by its bytes.
module _ {I : Type 0} (remaining : I → Option (List ℕ)) (log : LogInput) (question : Question) where
  -- The source has given the input back.
  given_back : (source : Clocked I) (rest : Option (List ℕ)) (result : Result ReasonedAnswer DetectFault)
      → rest ≡ remaining source.input.now → AnswersOf (log_story remaining log) question source result
      → AnswersAlone log.form question log.bytes rest result
  given_back source rest result back is = record {
    ahead = source.events.lines.ahead;
    few = source.events.few;
    answers = rw back (answers remaining log question source result is);
  }

  stops_back : (rest : Option (List ℕ)) (why : DetectFault) → StopsOf (log_story remaining log) question why
      → AnswersAlone log.form question log.bytes rest (Err why)
  stops_back rest why stops =
      alone_stops log.form question log.bytes rest why (stops_for remaining log question why stops)

  pub alone_given_back : (asking : Asking (Clocked I)) (rest : Option (List ℕ))
      (result : Result ReasonedAnswer DetectFault)
      → (asking.source.input.ghost_name ≡ log.lent → rest ≡ remaining asking.source.input.now)
      → OnOk result (IsAsking (log_story remaining log) (question ∷ []) asking)
      → AnswersOf (log_story remaining log) question asking.source result
      → AnswersAlone log.form question log.bytes rest result
  alone_given_back asking rest (Ok answer) back are is =
      given_back asking.source rest (Ok answer) (back (lent_still remaining log (question ∷ []) asking are)) is
  alone_given_back asking rest (Err (fault.NoHost named)) back are whole =
      given_back asking.source rest (Err (fault.NoHost named)) (back whole.ended.lent) whole
  alone_given_back asking rest (Err (fault.Log what)) back are is = stops_back rest (fault.Log what) is
  alone_given_back asking rest (Err (fault.Forgets what)) back are is = stops_back rest (fault.Forgets what) is
  alone_given_back asking rest (Err fault.Read) back are is = stops_back rest fault.Read is
  alone_given_back asking rest (Err fault.Memory) back are is = stops_back rest fault.Memory is

module _ {S : Type 0} (story : Story S) (question : Question) (asking : Asking S)
    (are : IsAsking story (question ∷ []) asking)
    (unanswered : All (λ answered. answered ≡ false) (answered_by asking)) where
  one_is_asked : length (answered_by asking) ≡ 1
  one_is_asked = length-map asking.asked.items (λ (a : Asked). is_answered a.stage) ∙ are.asked.as_many

  not_yet : (b : Bool) → slice_index_or (answered_by asking) 0 b ≡ false
  not_yet b = unanswered 0 b (omega (arith, one_is_asked))

  -- It is the question that is answered.
  pub alone_answered : (source : S) (told : QuestionAnswer) (new : List Bool)
      → AnswersOneOf story (question ∷ []) source (answered_by asking) told new
      → AnswersOf story question source told.answer
  alone_answered source told new one =
      let at : told.place ≡ 0 = omega (arith, one.within) in
      subst (λ (p : ℕ). AnswersOf story (slice_index_or (question ∷ []) p question) source told.answer) at
      (one.answer question)

  -- Or it stops for a fault.
  pub alone_stopped : (why : DetectFault) → StopAllOf story (question ∷ []) (answered_by asking) why
      → StopsOf story question why
  alone_stopped why stops = stops 0 question true (omega arith) (not_yet true)

  -- It isn't so that all were answered.
  pub some_answer : (source : S) (new : List Bool)
      → AnswersNext story (question ∷ []) source (answered_by asking) (Ok None) new → ⊥
  some_answer source new all =
      let now : slice_index_or (answered_by asking) 0 true ≡ true =
      subst (λ (bs : List Bool). slice_index_or bs 0 true ≡ true) all.0
      (all.1 0 true (omega (arith, ap length all.0, one_is_asked))) in
      absurd (cc (now, not_yet true))
