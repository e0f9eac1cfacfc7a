use Rattle.trace_log.proofs.Words.{◌≡◌, take, number_of, seen_clock}
use Rattle.trace_log.proofs.event.number_of.Given as goal

abbrev pub invariant-loop-member : goal.invariant-loop-member
invariant-loop-member l = l.number ≡ number_of l.host (seen_clock (take l.member-index l.clock))
