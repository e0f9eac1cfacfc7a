use Rattle.draw_layout.proofs.Words.{arith}
use Rattle.draw_layout.proofs.Queues.{AreSends-all}
use Rattle.draw_layout.proofs.messages.follow.Goals as goal

pub returns : goal.returns
returns c = AreSends-all c.args.order.now c.loop-place.sent.items (omega arith)
    (λ k task below. c.loop-place.invariant.sends k task (omega arith))
