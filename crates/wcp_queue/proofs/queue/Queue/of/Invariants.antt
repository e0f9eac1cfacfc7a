use Rattle.wcp_queue.proofs.Words.{◌≡◌, take}
use Rattle.wcp_queue.proofs.queue.Queue.of.Given as goal

abbrev pub invariant-loop-clock : goal.invariant-loop-clock
invariant-loop-clock l = l.queue ≡ take l.clock-index l.clocks
