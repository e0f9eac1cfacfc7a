use Rattle.std.proofs.Common.{◌≡◌}
use Rattle.wcp_relay.proofs.patience.take.Given as goal

abbrev pub invariant-loop : goal.invariant-loop
invariant-loop g l = l.taker ≡ l.initial.taker
