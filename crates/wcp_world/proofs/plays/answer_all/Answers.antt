use Rattle.wcp_world.proofs.Words.{List, take, false, sym, subst, arith, take_all, Step, Observe}
use Rattle.wcp_world.proofs.Words.{HasAnswered}
use Rattle.std.proofs.lemmas.List.{take_more}
use Rattle.wcp_world.proofs.plays.answer_all.Goals as goal

pub loop-step-preserved : goal.loop-step-preserved
loop-step-preserved c = λ plan before.
    subst (λ (l : List Step). HasAnswered plan l c.answer.new.replies.items c.answer.new.world)
    (sym (take_more c.args.steps.now c.loop-step.step-index (Observe 0 false) c.loop-step-test.true))
    (c.in_ok-answer.ensures plan (take c.loop-step.step-index c.args.steps.now) (c.loop-step.invariant plan before))

pub returns : goal.returns
returns c = λ plan before.
    subst (λ (l : List Step). HasAnswered plan l c.loop-step.replies.items c.loop-step.world)
    (take_all c.loop-step.step-index c.args.steps.now (omega (arith, c.loop-step-test.false)))
    (c.loop-step.invariant plan before)
