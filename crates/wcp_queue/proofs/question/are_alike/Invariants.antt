use Rattle.wcp_queue.proofs.Words.{take}
use Rattle.std.specs.Prelude.{All}
use Rattle.wcp_queue.specs.Panel.{HaveTakenAlike, question_at}
use Rattle.wcp_queue.proofs.question.are_alike.Given as goal

abbrev pub invariant-loop-question : goal.invariant-loop-question
invariant-loop-question l =
    All (HaveTakenAlike (question_at l.questions 0)) (take l.question-index l.questions)
