use Rattle.std.proofs.Common.{◌≡◌, ◌<◌, ◌≤◌, Some, get_or, slice_get, sym, subst, ◌∙◌, arith, ⊎_elim, true≢false}
use Rattle.std.proofs.lemmas.Bool.{cases_lt}
use Rattle.std.proofs.lemmas.Grind.{common_steps}
use Rattle.std.proofs.lemmas.Option.{gets, slice_get-get_or}
use Rattle.wullaphi.specs.Questions.{CanBeAsked}
use Rattle.wullaphi.proofs.questions.first_refused.Goals as goal

pub returns-then-not-can_be_asked-clause-refused : goal.returns-then-not-can_be_asked-clause-refused
returns-then-not-can_be_asked-clause-refused c = record {
  watched = c.index-questions-question.result;
  is_question = grind (arith, common_steps, gets);
  refused = λ can. true≢false (sym (c.can_be_asked.ensures.1 can) ∙ c.if-not-can_be_asked.true);
  before = λ earlier other less at. c.loop-question.invariant earlier other less at;
}

pub loop-question-preserved : goal.loop-question-preserved
loop-question-preserved c = λ k watched below at.
    let question = c.loop-question.question in
    let element = c.index-questions-question.result in
    ⊎_elim
    (λ (before : k < question). c.loop-question.invariant k watched before at)
    (λ (past : question ≤ k).
    let same : k ≡ question = omega arith in
    let here : slice_get c.args.questions.now k ≡ Some element = grind (arith, common_steps, gets) in
    let two : Some element ≡ Some watched = sym here ∙ at in
    let one : element ≡ watched = cc in
    subst (CanBeAsked c.args.plan.now) one (c.can_be_asked.ensures.0 c.if-not-can_be_asked.false))
    (cases_lt k question)

pub returns-clause-none : goal.returns-clause-none
returns-clause-none c = λ k d within.
    c.loop-question.invariant k (get_or c.args.questions.now k d)
    (omega (arith, within, c.loop-question-test.false)) (slice_get-get_or c.args.questions.now k d within)
