use Rattle.wcp_world.proofs.Words.{[], take, HasAnswered, Plan}
use Rattle.wcp_world.proofs.plays.answer_all.Given as goal

abbrev pub invariant-loop-step : goal.invariant-loop-step
invariant-loop-step l = (plan : Plan) → HasAnswered plan [] l.initial.replies.items l.initial.world
    → HasAnswered plan (take l.step-index l.steps) l.replies.items l.world
