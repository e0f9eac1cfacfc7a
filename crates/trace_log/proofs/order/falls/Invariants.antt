use Rattle.trace_log.proofs.Words.{◌≡◌, false, take, falls, seen_clock}
use Rattle.trace_log.proofs.order.falls.Given as goal

abbrev pub invariant-loop-one : goal.invariant-loop-one
invariant-loop-one l = falls (seen_clock (take l.one-index l.earlier)) (seen_clock l.later) ≡ false
