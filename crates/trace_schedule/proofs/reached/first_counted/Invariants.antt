use Rattle.std.proofs.Common.{take, map}
use Rattle.trace_schedule.proofs.Reaching.{HasReached}
use Rattle.trace_schedule.proofs.reached.first_counted.Given as goal

abbrev pub invariant-loop-event : goal.invariant-loop-event
invariant-loop-event l = HasReached (map (λ one. one.now) (take l.event-index l.order)) l.reached
