use Rattle.trace_condition.proofs.Handed.{handed_on}
use Rattle.trace_asking.specs.Asking.{HaveAll}
use Rattle.trace_asking.specs.Seeking.{IsAskable}
use Rattle.trace_asking.specs.declared.question.Question.{Question}
use Rattle.std.proofs.lemmas.List.Elements.{All-push}
use Rattle.trace_questions.proofs.Words.{◌≡◌, ◌+◌, map, seen_wording, subst, sym}
use Rattle.trace_questions.specs.Faults.{ReadsWordings}
use Rattle.trace_questions.specs.Questions.{AskWhy}
use Rattle.trace_questions.proofs.Asking.{HaveRead, fails_at, have_more}
use Rattle.trace_questions.proofs.questions.read_each.Goals as goal

pub returns-in_err-question-clause-read : goal.returns-in_err-question-clause-read
returns-in_err-question-clause-read c =
    let fails = fails_at c.args.wordings.now c.loop-place.place c.index-wordings-place.result
    c.loop-place.questions.items c.in_err-question.field-0.0 c.loop-place-test.true c.index-wordings-place.is
    c.loop-place.invariant.read c.in_err-question.ensures.read in
    handed_on (λ r. ReadsWordings (map seen_wording c.args.wordings.now) r) c.from_residual-in_err-question.result
    c.in_err-question.field-0.0 c.from_residual-in_err-question.ensures fails

pub loop-place-preserved : goal.loop-place-preserved
loop-place-preserved c =
    let wordings = c.args.wordings.now in
    let before = c.loop-place.questions.items in
    let question = c.in_ok-question.question in
    let more = have_more wordings c.loop-place.place c.index-wordings-place.result before question
    c.loop-place-test.true c.index-wordings-place.is c.loop-place.invariant.read c.in_ok-question.ensures.read in
    let all = All-push (λ (q : Question). IsAskable q.subject) before question c.loop-place.invariant.have
    c.in_ok-question.ensures.has in
    record {
      read = subst (HaveRead wordings (c.loop-place.place + 1)) (sym c.in_ok-push.ensures.items) more;
      have = subst HaveAll (sym c.in_ok-push.ensures.items) all;
      whys = subst (AskWhy c.args.why) (sym c.in_ok-push.ensures.items)
          (All-push (λ (q : Question). q.why ≡ c.args.why) before question c.loop-place.invariant.whys
          c.in_ok-question.ensures.why);
    }
