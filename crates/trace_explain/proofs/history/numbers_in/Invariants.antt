use Rattle.std.proofs.Common.{◌≡◌, map, take}
use Rattle.trace_log.specs.Clock.{number_of}
use Rattle.trace_log.specs.Seen.{seen_clock}
use Rattle.trace_explain.proofs.history.numbers_in.Given as goal

abbrev pub invariant-loop-host : goal.invariant-loop-host
invariant-loop-host l =
    l.numbers.items ≡ map (λ host. number_of host.host (seen_clock l.clock)) (take l.host-index l.hosts)
