use Rattle.std.proofs.Common.{◌≡◌}
use Rattle.wcp_relay.proofs.patience.put.Given as goal

abbrev pub invariant-loop : goal.invariant-loop
invariant-loop g l = (l.putter ≡ l.initial.putter) × (l.bundle ≡ l.initial.bundle)
