use Rattle.std.proofs.Common.{◌≡◌, ℕ, ◌<◌, false}
use Rattle.trace_order.specs.State.{can_go, sent_of, waits_in}
use Rattle.trace_order.proofs.order.MessageOrder.first_ready.Given as goal

abbrev pub invariant-loop-number : goal.invariant-loop-number
invariant-loop-number l = (host : ℕ) → host < l.number → can_go (sent_of l.self) (waits_in l.self.hosts.items host) ≡
    false
