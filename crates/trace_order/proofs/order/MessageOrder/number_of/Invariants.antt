use Rattle.std.proofs.Common.{◌≡◌, ℕ, ◌<◌}
use Rattle.trace_order.specs.State.{name_at, names_in}
use Rattle.trace_order.proofs.order.MessageOrder.number_of.Given as goal

abbrev pub invariant-loop-number : goal.invariant-loop-number
invariant-loop-number l = (k : ℕ) → k < l.number → name_at (names_in l.self.hosts.items) k ≡ l.name → ⊥
