use Rattle.trace_asking.proofs.Words.{◌≡◌, ◌∙◌, List, ap, subst, sym}
use Rattle.std.proofs.Common.{rules}
use Rattle.trace_condition.proofs.Handed.{handed_on}
use Rattle.trace_source.specs.Clocked.{log_of, log_story}
use Rattle.trace_detect.specs.declared.fault.DetectFault.TheVariants as fault
use Rattle.trace_asking.specs.declared.question.Question.{Question}
use Rattle.trace_asking.specs.Asking.{IsAsking, IsAskingOne}
use Rattle.trace_asking.specs.OfBytes.{AnswersAlone}
use Rattle.trace_asking.proofs.OneAsked.{alone_for_memory, alone_given_back}
use Rattle.trace_asking.proofs.one.ask.Goals as goal

pub returns-in_err-source : goal.returns-in_err-source
returns-in_err-source g c =
    let input = g.I.Read.remaining c.args.input.now in
    handed_on (AnswersAlone c.args.form c.args.question.now input _) c.from_residual.result fault.Memory
    c.from_residual.ensures (alone_for_memory c.args.form c.args.question.now input _)

pub returns-in_err-asking : goal.returns-in_err-asking
returns-in_err-asking g c =
    let input = g.I.Read.remaining c.args.input.now in
    handed_on (AnswersAlone c.args.form c.args.question.now input _) c.from_residual-in_err-asking.result fault.Memory
    c.from_residual-in_err-asking.ensures (alone_for_memory c.args.form c.args.question.now input _)

pub only_answer-told-requires : goal.only_answer-told-requires
only_answer-told-requires g c =
    let log = log_of c.args.form (g.I.Read.remaining c.args.input.now) c.in_ok-source.source in
    let story = log_story g.I.Read.remaining log in
    record {
      whole = log;
      question = c.args.question.now;
      is = record {
        is = subst (λ (questions : List Question). IsAsking story questions c.in_ok-asking.asking)
            c.from_ref.ensures.value (c.in_ok-asking.ensures.asking log c.in_ok-source.ensures.gave);
        unanswered = c.in_ok-asking.ensures.unanswered;
      };
    }

pub returns : goal.returns
returns g c =
    let remaining = g.I.Read.remaining in
    let source = c.in_ok-source.source in
    let log = log_of c.args.form (remaining c.args.input.now) source in
    let story = log_story remaining log in
    let question = c.args.question.now in
    let is = subst (λ (questions : List Question). IsAsking story questions c.in_ok-asking.asking)
    c.from_ref.ensures.value (c.in_ok-asking.ensures.asking log c.in_ok-source.ensures.gave) in
    let one : IsAskingOne story question c.in_ok-asking.asking =
    record { is = is; unanswered = c.in_ok-asking.ensures.unanswered } in
    let new = c.only_answer-told.new.self in
    let now = c.into_input.ensures.value ∙ ap (λ s. s.input.now) c.into_source.ensures in
    let name = c.into_input.ensures.same_reference ∙ ap (λ s. s.input.ghost_name) c.into_source.ensures in
    alone_given_back remaining log question new _ c.only_answer-told.result
    (λ (still : new.source.input.ghost_name ≡ source.input.ghost_name).
    let given = sym (name ∙ still ∙ c.in_ok-source.ensures.same_reference) in
    ap remaining (search (rules, now, given)))
    (c.only_answer-told.ensures.asking log question one) (c.only_answer-told.ensures.answer log question one)
