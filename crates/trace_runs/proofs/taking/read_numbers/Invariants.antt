use Rattle.std.proofs.Common.{◌≡◌, map, take}
use Rattle.trace_log.specs.Clock.{number_of}
use Rattle.trace_log.specs.Views.{seen_clock}
use Rattle.trace_runs.proofs.taking.read_numbers.Given as goal

abbrev pub invariant-loop-q : goal.invariant-loop-q
invariant-loop-q l = (l.queues ≡ l.fn.queues) × (l.numbers.items
    ≡ map (λ queue. number_of queue.host (seen_clock l.event.clock.now)) (take l.q l.fn.queues))
