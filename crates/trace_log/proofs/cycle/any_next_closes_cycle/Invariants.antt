use Rattle.trace_log.proofs.Words.{◌≡◌, false, take, seen_clock}
use Rattle.trace_log.specs.Hosts.{clock_among}
use Rattle.trace_log.specs.Look.{renumbered}
use Rattle.trace_log.specs.Order.{any_closes_cycle}
use Rattle.trace_log.proofs.cycle.any_next_closes_cycle.Given as goal

abbrev pub invariant-loop-place : goal.invariant-loop-place
invariant-loop-place l = clock_among l.host l.hosts ≡ seen_clock l.clock
    → any_closes_cycle (λ name. clock_among name l.hosts) l.host l.own
    (renumbered (take l.place (seen_clock l.clock)) l.next) ≡ false
