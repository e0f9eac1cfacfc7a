use Rattle.std.proofs.Common.{◌≡◌, None, fold, take}
use Rattle.std.specs.Option.{option_copied}
use Rattle.trace_order.specs.Orders.{HostState, first_waiting}
use Rattle.trace_order.specs.State.{is_announced}
use Rattle.trace_order.specs.Waiting.{sooner}
use Rattle.trace_order.proofs.order.MessageOrder.first_waiting.Given as goal

abbrev pub invariant-loop-host : goal.invariant-loop-host
invariant-loop-host l = option_copied l.first
    ≡ fold (λ first (host : HostState). sooner (is_announced l.self) first (first_waiting host.waits)) None
    (take l.host-index l.self.hosts.items)
