use Rattle.std.proofs.lemmas.Grind.{common_steps}
use Rattle.draw_layout.proofs.Words.{arith}
use Rattle.draw_layout.proofs.Queues.{none_in_transit}
use Rattle.draw_layout.proofs.messages.channels.Goals as goal

pub returns : goal.returns
returns c = grind (arith, common_steps, c.loop.invariant, none_in_transit)
