use Rattle.std.proofs.Common.{◌≡◌, ◌∙◌, List, ap, subst, sym, rules}
use Rattle.trace_condition.proofs.Handed.{handed_on}
use Rattle.trace_source.specs.Clocked.{log_of, log_story}
use Rattle.trace_detect.specs.declared.fault.DetectFault.TheVariants as fault
use Rattle.trace_asking.specs.declared.question.Question.{Question}
use Rattle.trace_asking.specs.Asking.{IsAsking, IsAskingOne}
use Rattle.trace_schedule.specs.InOrder.{AnswersRecorded}
use Rattle.trace_schedule.specs.Recorded.{recorded_story}
use Rattle.trace_schedule.proofs.Bytes.{answer_given_back, fault_for_memory, fault_given_back}
use Rattle.trace_schedule.proofs.recording.ask_recorded.Goals as goal

pub returns-in_err-clocked : goal.returns-in_err-clocked
returns-in_err-clocked g c =
    let input = g.I.Read.remaining c.args.input.now in
    handed_on (AnswersRecorded c.args.form c.args.question.now input _) c.from_residual.result fault.Memory
    c.from_residual.ensures (fault_for_memory c.args.form c.args.question.now input _)

pub returns-in_err-asking : goal.returns-in_err-asking
returns-in_err-asking g c =
    let input = g.I.Read.remaining c.args.input.now in
    handed_on (AnswersRecorded c.args.form c.args.question.now input _) c.from_residual-in_err-asking.result fault.Memory
    c.from_residual-in_err-asking.ensures (fault_for_memory c.args.form c.args.question.now input _)

pub only_answer-told-requires : goal.only_answer-told-requires
only_answer-told-requires g c =
    let log = log_of c.args.form (g.I.Read.remaining c.args.input.now) c.in_ok-clocked.clocked in
    let story = recorded_story (log_story g.I.Read.remaining log) in
    record {
      whole = log;
      question = c.args.question.now;
      is = record {
        is = subst (λ (questions : List Question). IsAsking story questions c.in_ok-asking.asking)
            c.from_ref.ensures.value
            (c.in_ok-asking.ensures.asking log (c.new-source.ensures log c.in_ok-clocked.ensures.gave));
        unanswered = c.in_ok-asking.ensures.unanswered;
      };
    }

pub returns-in-Ok : goal.returns-in-Ok
returns-in-Ok g c =
    let remaining = g.I.Read.remaining in
    let clocked = c.in_ok-clocked.clocked in
    let log = log_of c.args.form (remaining c.args.input.now) clocked in
    let story = recorded_story (log_story remaining log) in
    let question = c.args.question.now in
    let one : IsAskingOne story question c.in_ok-asking.asking = record {
      is = subst (λ (questions : List Question). IsAsking story questions c.in_ok-asking.asking)
          c.from_ref.ensures.value
          (c.in_ok-asking.ensures.asking log (c.new-source.ensures log c.in_ok-clocked.ensures.gave));
      unanswered = c.in_ok-asking.ensures.unanswered;
    } in
    let new = c.only_answer-told.new.self in
    let source = c.into_parts-events.ensures.source ∙ ap (λ s. s.source) c.into_source.ensures in
    let kept = c.into_parts-events.ensures.events ∙ ap (λ s. s.events.items) c.into_source.ensures in
    let now = c.into_input.ensures.value ∙ ap (λ s. s.input.now) source in
    let name = c.into_input.ensures.same_reference ∙ ap (λ s. s.input.ghost_name) source in
    answer_given_back remaining log question new _
    (record { answer = c.in-Ok.answer; events = c.into_parts-events.result.0 }) kept
    (λ (still : new.source.source.input.ghost_name ≡ clocked.input.ghost_name).
    let given = sym (name ∙ still ∙ c.in_ok-clocked.ensures.same_reference) in
    ap remaining (search (rules, now, given)))
    (c.in-Ok.ensures.asking log question one) (c.in-Ok.ensures.answer log question one)

pub returns-in-Err : goal.returns-in-Err
returns-in-Err g c =
    let remaining = g.I.Read.remaining in
    let clocked = c.in_ok-clocked.clocked in
    let log = log_of c.args.form (remaining c.args.input.now) clocked in
    let story = recorded_story (log_story remaining log) in
    let question = c.args.question.now in
    let one : IsAskingOne story question c.in_ok-asking.asking = record {
      is = subst (λ (questions : List Question). IsAsking story questions c.in_ok-asking.asking)
          c.from_ref.ensures.value
          (c.in_ok-asking.ensures.asking log (c.new-source.ensures log c.in_ok-clocked.ensures.gave));
      unanswered = c.in_ok-asking.ensures.unanswered;
    } in
    let new = c.only_answer-told.new.self in
    let source = c.into_parts-events.ensures.source ∙ ap (λ s. s.source) c.into_source.ensures in
    let now = c.into_input.ensures.value ∙ ap (λ s. s.input.now) source in
    let name = c.into_input.ensures.same_reference ∙ ap (λ s. s.input.ghost_name) source in
    fault_given_back remaining log question new _ c.in-Err.fault
    (λ (still : new.source.source.input.ghost_name ≡ clocked.input.ghost_name).
    let given = sym (name ∙ still ∙ c.in_ok-clocked.ensures.same_reference) in
    ap remaining (search (rules, now, given)))
    (c.in-Err.ensures.answer log question one)
