use Rattle.std.proofs.Common.{◌≡◌, ◌-◌, ◌^◌, min, take}
use Rattle.trace_order.specs.State.{waiting_in}
use Rattle.trace_order.proofs.order.MessageOrder.waiting.Given as goal

abbrev pub invariant-loop-host : goal.invariant-loop-host
invariant-loop-host l = l.count ≡ min (waiting_in (take l.host-index l.self.hosts.items)) (2 ^ 64 - 1)
