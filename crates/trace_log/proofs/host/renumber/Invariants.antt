use Rattle.trace_log.proofs.Words.{◌≡◌, ◌++◌, length, take, drop, seen_clock}
use Rattle.trace_log.specs.Look.{renumbered}
use Rattle.trace_log.proofs.host.renumber.Given as goal

abbrev pub invariant-loop-place : goal.invariant-loop-place
invariant-loop-place l = (length l.clock ≡ length l.fn.clock) × (seen_clock l.clock
    ≡ renumbered (take l.place (seen_clock l.fn.clock)) l.numbers ++ drop l.place (seen_clock l.fn.clock))
