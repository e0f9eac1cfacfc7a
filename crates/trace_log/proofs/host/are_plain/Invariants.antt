use Rattle.trace_log.proofs.Words.{take, seen_clock}
use Rattle.trace_log.specs.Look.{ArePlain}
use Rattle.trace_log.proofs.host.are_plain.Given as goal

abbrev pub invariant-loop-member : goal.invariant-loop-member
invariant-loop-member l = ArePlain (seen_clock (take l.member-index l.clock))
