use Rattle.wcp_world.proofs.Histories.{answered_push}
use Rattle.wcp_world.proofs.plays.answer.Goals as goal

pub returns : goal.returns
returns c plan steps has =
    rw c.in_ok-extend_from_slice.ensures.items (answered_push plan steps _ _ _ _ _ has c.in_ok-reply.ensures.answered)
