use Rattle.wcp_queue.proofs.Words.{subst, take_all, arith, refl, common_steps}
use Rattle.std.specs.Prelude.{All}
use Rattle.wcp_queue.specs.Panel.{HaveTakenAlike, question_at}
use Rattle.wcp_queue.proofs.question.are_alike.Goals as goal

pub returns : goal.returns
returns c =
    let questions = c.args.questions.now in
    let all = subst (All (HaveTakenAlike (question_at questions 0)))
    (take_all c.loop-question.question-index questions c.loop-question-test.false) c.loop-question.invariant in
    (λ _. record { some = grind (arith, common_steps); alike = all }, λ _. refl)
