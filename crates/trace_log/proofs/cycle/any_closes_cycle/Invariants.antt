use Rattle.trace_log.proofs.Words.{◌≡◌, false, take, seen_clock}
use Rattle.trace_log.specs.Hosts.{clock_among}
use Rattle.trace_log.specs.Order.{any_closes_cycle}
use Rattle.trace_log.proofs.cycle.any_closes_cycle.Given as goal

abbrev pub invariant-loop-place : goal.invariant-loop-place
invariant-loop-place l =
    any_closes_cycle (λ name. clock_among name l.hosts) l.host l.own (seen_clock (take l.place l.clock)) ≡ false
