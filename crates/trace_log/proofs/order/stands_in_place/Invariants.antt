use Rattle.trace_log.proofs.Words.{◌≡◌, false, take, falls, seen_clock}
use Rattle.trace_log.proofs.order.stands_in_place.Given as goal

abbrev pub invariant-loop-i : goal.invariant-loop-i
invariant-loop-i l = falls (seen_clock (take l.i l.earlier)) (seen_clock l.later) ≡ false
